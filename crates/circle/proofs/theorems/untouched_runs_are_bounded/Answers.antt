use Rattle.circle.proofs.Untouched.{untouched_bounded}
use Rattle.circle.proofs.theorems.untouched_runs_are_bounded.Goals as goal

pub returns : goal.returns
returns c = record { holds = untouched_bounded }
