-- Lists of ranges.
use Rattle.rows.specs.declared.range.Range.{Range}

-- the default of a read
abbrev pub no_range : Range
no_range = record { first = 0; last = 0 }
