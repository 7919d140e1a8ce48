use Rattle.std.proofs.Common.{◌≡◌, true, false, ◌∙◌, rules, tests}
use Rattle.std.proofs.lemmas.Iterator.{cases_from_any, YieldsList-from_slice}
use Rattle.covers.specs.Rivals.{in_range}
use Rattle.covers.proofs.Searches.{any_is}
use Rattle.run_table.proofs.Tables.{any_in_ranges}
use Rattle.run_table.proofs.run.any_contains.Goals as goal

pub returns : goal.returns
returns c =
    let R = c.args.runs.now in
    let x = c.args.number in
    record {
      value = any_is (λ r. in_range r.first r.last x) c.any.result R
          (cases_from_any _ _ _ (λ r. in_range r.first r.last x ≡ true) (λ r. in_range r.first r.last x ≡ false) c.any.ensures.ran (YieldsList-from_slice R cc)
          (λ r q k. search (rules, tests)) (λ r q k. search (rules, tests))) ∙
          any_in_ranges R x;
    }
