use Rattle.ranges.proofs.FromZero.{from_zero}
use Rattle.ranges.proofs.theorems.rows_from_zero.Goals as goal

pub returns : goal.returns
returns c = record { holds = from_zero }
