-- What a granted call leaves of a column table.
use Rattle.std.proofs.Common.{◌≡◌, ℕ, ◌^◌, ◌<◌, List, length, Some, None, refl, ap, ◌∙◌, arith}
use Rattle.rows.proofs.Widths.{places_some, places_most}
use Rattle.rows.specs.declared.row.Row.{Row}
use Rattle.rows.specs.Widths.{places_of}
use Rattle.column_table.specs.declared.column.Column.{Column}
use Rattle.column_table.specs.declared.table.ColumnTable.{ColumnTable}
use Rattle.device.specs.States.{Slot, DeviceState}
use Rattle.device.specs.Answers.{with_slot, after_put, after_empty}
use Rattle.column_table.specs.Columns.{column_slot, column_slots}
use Rattle.column_table.specs.ColumnTables.{slot_count, column_table_state}
use Rattle.device.proofs.Granted.{put_left, empty_left}
use Rattle.column_table.proofs.Columns.{Writes, column_length, slot_put, slot_emptied, slots_written}

module _ (t : ColumnTable) (is : List Column) (slot : ℕ) (within : slot < length (column_slots (places_of t.width) t.columns (slot_count t))) where
  abbrev now : DeviceState
  now = record { width = places_of t.width; slots = column_slots (places_of t.width) is (slot_count t); muted = t.muted }

  short : slot < slot_count t
  short = let e = column_length (places_of t.width) t.columns (slot_count t) in omega arith

  left : (content : Slot) → Writes t.columns is slot content 32 → column_slot (places_of t.width) is slot ≡ content → now ≡ with_slot (column_table_state t) slot content
  left content written here =
      ap {B = DeviceState} (λ (l : List Slot). record { width = places_of t.width; slots = l; muted = t.muted })
      (slots_written t.columns is slot content written (places_of t.width) (slot_count t) (places_most t.width) short here)

  pub table_put : (row : Row) → row.care < 2 ^ places_of t.width → Writes t.columns is slot (Some row) 32 → now ≡ after_put (column_table_state t) slot row
  table_put row fit written =
      left (Some row) written (slot_put t.columns is slot (Some row) written row (places_of t.width) refl fit (places_most t.width)) ∙
      put_left (column_table_state t) slot row within fit

  pub table_emptied : Writes t.columns is slot None 32 → now ≡ after_empty (column_table_state t) slot
  table_emptied written =
      left None written (slot_emptied t.columns is slot None written (places_of t.width) refl (places_some t.width) (places_most t.width)) ∙
      empty_left (column_table_state t) slot within
