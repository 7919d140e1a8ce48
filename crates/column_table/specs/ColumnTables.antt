-- What a column table means.
use Rattle.std.specs.Prelude.{ℕ, min}
use Rattle.rows.specs.Widths.{places_of}
use Rattle.column_table.specs.declared.table.ColumnTable.{ColumnTable}
use Rattle.device.specs.States.{DeviceState}
use Rattle.column_table.specs.Columns.{column_slots}

-- the number of slots
abbrev pub slot_count : ColumnTable → ℕ
slot_count t = min 120 t.count

abbrev pub column_table_state : ColumnTable → DeviceState
column_table_state t = record { width = places_of t.width; slots = column_slots (places_of t.width) t.columns (slot_count t); muted = t.muted }
