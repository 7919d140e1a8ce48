use Rattle.circle.proofs.Untouched.{as_written}
use Rattle.circle.proofs.theorems.touching_as_written.Goals as goal

pub returns : goal.returns
returns c = record { holds = as_written }
