use Rattle.filter_calls.proofs.Equality.{answer_equality}
use Rattle.filter_calls.proofs.theorems.equality.Goals as goal

pub returns-clause-answer : goal.returns-clause-answer
returns-clause-answer c = answer_equality
