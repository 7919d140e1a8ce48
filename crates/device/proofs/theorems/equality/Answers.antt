use Rattle.device.proofs.Equality.{answer_equality}
use Rattle.device.proofs.theorems.equality.Goals as goal

pub returns : goal.returns
returns c = record { device_answer = answer_equality }
