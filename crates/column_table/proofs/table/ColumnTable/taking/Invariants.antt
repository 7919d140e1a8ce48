use Rattle.std.proofs.Common.{◌≡◌, ℕ, ◌&&◌, ltb}
use Rattle.covers.specs.Digits.{digit}
use Rattle.column_table.specs.ColumnTables.{slot_count}
use Rattle.column_table.proofs.Columns.{admitted}
use Rattle.column_table.proofs.table.ColumnTable.taking.Given as goal

abbrev pub invariant-loop-place : goal.invariant-loop-place
invariant-loop-place l =
    (i : ℕ) → digit i l.slots.bits ≡ (ltb i (slot_count l.self) && admitted l.place l.self.columns i l.number)
