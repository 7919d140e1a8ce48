use Rattle.circle.proofs.Runs.{are_runs}
use Rattle.circle.proofs.theorems.runs_are_runs.Goals as goal

pub returns : goal.returns
returns c = record { holds = are_runs }
