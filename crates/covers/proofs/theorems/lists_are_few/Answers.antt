use Rattle.covers.proofs.RowCounts.{lists_few}
use Rattle.covers.proofs.theorems.lists_are_few.Goals as goal

pub returns : goal.returns
returns c = record { holds = lists_few }
