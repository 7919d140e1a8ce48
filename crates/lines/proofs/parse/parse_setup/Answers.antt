use Rattle.std.proofs.Common.{rules}
use Rattle.lines.proofs.parse.parse_setup.Goals as goal

pub returns-clause-accepted : goal.returns-clause-accepted
returns-clause-accepted c = λ s w. let q = c.two_numbers.ensures.accepted s.width s.slots w in search rules
