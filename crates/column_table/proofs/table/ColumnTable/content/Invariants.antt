use Rattle.column_table.proofs.Columns.{Read}
use Rattle.column_table.proofs.table.ColumnTable.content.Given as goal

abbrev pub invariant-loop-place : goal.invariant-loop-place
invariant-loop-place l = Read l.self.columns l.slot.index l.place l.words
