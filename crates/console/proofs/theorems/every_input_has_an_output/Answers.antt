use Rattle.console.proofs.Exists.{output_exists}
use Rattle.console.proofs.theorems.every_input_has_an_output.Goals as goal

pub returns : goal.returns
returns c = record { holds = output_exists }
