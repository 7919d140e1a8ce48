use Rattle.std.proofs.Common.{rules}
use Rattle.lines.proofs.number.one_range.Goals as goal

pub returns-clause-accepted : goal.returns-clause-accepted
returns-clause-accepted c = λ r w. let q = c.two_numbers.ensures.accepted r.first r.last w in search rules
