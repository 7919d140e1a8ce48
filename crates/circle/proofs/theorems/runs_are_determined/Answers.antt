use Rattle.circle.proofs.Runs.{determined}
use Rattle.circle.proofs.theorems.runs_are_determined.Goals as goal

pub returns : goal.returns
returns c = record { holds = determined }
