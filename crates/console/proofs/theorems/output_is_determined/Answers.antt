use Rattle.console.proofs.Determined.{output_determined}
use Rattle.console.proofs.theorems.output_is_determined.Goals as goal

pub returns : goal.returns
returns c = record { holds = output_determined }
