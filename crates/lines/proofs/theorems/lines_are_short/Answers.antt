use Rattle.lines.proofs.Shortness.{lines_short}
use Rattle.lines.proofs.theorems.lines_are_short.Goals as goal

pub returns : goal.returns
returns c = record { holds = lines_short }
