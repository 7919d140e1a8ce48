use Rattle.lines.proofs.Shortness.{lines_written}
use Rattle.lines.proofs.theorems.lines_as_written.Goals as goal

pub returns : goal.returns
returns c = record { holds = lines_written }
