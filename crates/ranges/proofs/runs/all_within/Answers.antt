use Rattle.std.proofs.Common.{sym, ◌∙◌, rules, tests}
use Rattle.std.proofs.lemmas.Iterator.{YieldsList-from_slice}
use Rattle.std.proofs.lemmas.Iterator.Search.{all_from_yields_List}
use Rattle.std.proofs.lemmas.List.Folds.{list_all-map}
use Rattle.rows.specs.Widths.{in_width, places_of}
use Rattle.ranges.proofs.runs.all_within.Goals as goal

pub returns : goal.returns
returns c =
    let n = places_of c.args.width in
    let R = c.args.runs.now in
    record {
      value = all_from_yields_List (λ r. in_width n r.first r.last) _ _ c.all.result c.all.ensures.ran (YieldsList-from_slice R cc) (λ r b q k. search (rules, tests)) ∙
          sym (list_all-map (λ r. in_width n r.0 r.1) (λ r. (r.first, r.last)) R);
    }
