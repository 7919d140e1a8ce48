use Rattle.std.proofs.Common.{◌≡◌, ℕ, ◌≤◌, length, get_or}
use Rattle.column_table.specs.Columns.{blank_column}
use Rattle.column_table.proofs.Columns.{Writes}
use Rattle.column_table.proofs.table.write.Given as goal

abbrev pub invariant-loop-place : goal.invariant-loop-place
invariant-loop-place l =
    (length l.columns ≡ 32)
    × Writes l.initial.columns l.columns l.slot.index l.row l.place-counter
    × ((place : ℕ) → l.place-counter ≤ place → get_or l.columns place blank_column ≡ get_or l.initial.columns place blank_column)
