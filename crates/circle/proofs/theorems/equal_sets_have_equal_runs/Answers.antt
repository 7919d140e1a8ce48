use Rattle.circle.proofs.Runs.{equal_sets}
use Rattle.circle.proofs.theorems.equal_sets_have_equal_runs.Goals as goal

pub returns : goal.returns
returns c = record { holds = equal_sets }
