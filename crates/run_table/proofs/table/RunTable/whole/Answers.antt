use Rattle.std.proofs.Common.{ℕ, ◌-◌, [], ◌∷◌, ap, ◌∙◌}
use Rattle.rows.specs.Widths.{places_of}
use Rattle.run_table.specs.Tables.{table_runs}
use Rattle.run_table.proofs.Tables.{of_all}
use Rattle.run_table.proofs.table.RunTable.whole.Goals as goal

pub returns : goal.returns
unfolding table_runs
returns c =
    let e = ap (λ (m : ℕ). (0, m - 1) ∷ []) c.limit.ensures.value in
    record { runs = e; of_every_number = e ∙ of_all (places_of c.args.width) }
