use Rattle.std.proofs.Common.{length, sym, ap, ◌∙◌}
use Rattle.std.proofs.lemmas.List.{length-map}
use Rattle.run_table.proofs.table.RunTable.len.Goals as goal

pub returns : goal.returns
returns c =
    record { value = sym (length-map c.runs.result.now (λ r. (r.first, r.last))) ∙ ap length c.runs.ensures.value; high_bound = c.runs.ensures.few }
