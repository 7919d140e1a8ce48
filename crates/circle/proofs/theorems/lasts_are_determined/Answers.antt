use Rattle.circle.proofs.Stretches.{lasts_determined}
use Rattle.circle.proofs.theorems.lasts_are_determined.Goals as goal

pub returns : goal.returns
returns c = record { holds = lasts_determined }
