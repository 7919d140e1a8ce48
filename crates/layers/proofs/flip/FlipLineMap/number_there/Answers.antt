use Rattle.std.proofs.Common.{rules}
use Rattle.layers.proofs.ByDigits.{flips_digits}
use Rattle.layers.proofs.flip.FlipLineMap.number_there.Goals as goal

pub returns-clause-by_digits : goal.returns-clause-by_digits
returns-clause-by_digits c = search (rules, flips_digits)
