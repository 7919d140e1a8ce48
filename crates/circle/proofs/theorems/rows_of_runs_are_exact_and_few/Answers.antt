use Rattle.circle.proofs.Rows.{rows}
use Rattle.circle.proofs.theorems.rows_of_runs_are_exact_and_few.Goals as goal

pub returns : goal.returns
returns c = record { holds = rows }
