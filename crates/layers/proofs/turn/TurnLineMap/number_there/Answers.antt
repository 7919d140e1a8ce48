use Rattle.std.proofs.Common.{rules}
use Rattle.layers.proofs.ByDigits.{turns_digits}
use Rattle.layers.proofs.turn.TurnLineMap.number_there.Goals as goal

pub returns-clause-by_digits : goal.returns-clause-by_digits
returns-clause-by_digits c = search (rules, turns_digits)
