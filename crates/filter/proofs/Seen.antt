-- A filter as clauses see it.
use Rattle.filter.specs.Parts.{FilterParts}
use Rattle.filter.specs.declared.filter.Filter.TheInside.{Inside}

-- the parts inside
abbrev pub seen : {D : Type 0} → Inside D → FilterParts D
seen inside = record { device = inside.device; runs = inside.runs; held = inside.held; tag = inside.tag }
