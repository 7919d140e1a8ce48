use Rattle.rows.proofs.SameRows.{row_equality}
use Rattle.rows.proofs.theorems.equality.Goals as goal

pub returns-clause-row : goal.returns-clause-row
returns-clause-row c = row_equality
