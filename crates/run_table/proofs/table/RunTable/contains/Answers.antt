use Rattle.std.proofs.Common.{ap, ◌∙◌}
use Rattle.covers.specs.Rivals.{in_ranges}
use Rattle.run_table.proofs.Tables.{numbers_of}
use Rattle.run_table.proofs.table.RunTable.contains.Goals as goal

pub returns : goal.returns
returns c =
    let x = c.args.number in
    let e = c.any_contains.ensures.value ∙ ap (λ R. in_ranges R x) c.runs.ensures.value in
    record { value = e; in_set = λ n S q h. e ∙ numbers_of n S c.args.self.now q x h }
