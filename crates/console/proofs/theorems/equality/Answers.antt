use Rattle.console.proofs.Equality.{failure_equality}
use Rattle.console.proofs.theorems.equality.Goals as goal

pub returns : goal.returns
returns c = record { failure = failure_equality }
