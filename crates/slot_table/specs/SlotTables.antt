-- What the records of a slot table mean.
use Rattle.std.specs.Prelude.{◌≡◌, ℕ, ◌%◌, ◌^◌, Bool, true, false, cond, List, ◌++◌, map, take, drop, Some, None, Ok, Err, Result, slice_get, slice_set}
use Rattle.std.specs.List.{Contains}
use Rattle.rows.specs.Widths.{places_of}
use Rattle.rows.specs.declared.refusal.Refusal.{Refusal}
use Rattle.slot_table.specs.declared.record.SlotRecord.{SlotRecord}
use Rattle.slot_table.specs.declared.table.SlotTable.{SlotTable}
use Rattle.device.specs.States.{Slot, DeviceState}
use Rattle.rows.specs.MadeRows.{row_made}

-- a filled record holds the row that its words make, of whose care mask the last n places count
unfoldable pub slot_of : ℕ → SlotRecord → Slot
slot_of n r = cond r.filled (Some (row_made r.value (r.care % 2 ^ n))) None

-- the first 120 records are slots
unfoldable pub table_slots : ℕ → List SlotRecord → List Slot
table_slots n records = map (slot_of n) (take 120 records)

abbrev pub table_state : ℕ → List SlotRecord → Bool → DeviceState
table_state n records muted = record { width = n; slots = table_slots n records; muted = muted }

abbrev pub slot_table_state : SlotTable → DeviceState
slot_table_state t = table_state (places_of t.width) t.records.now t.muted

-- the records that are no slots
abbrev pub spare_records : SlotTable → List SlotRecord
spare_records t = drop 120 t.records.now

-- the caller's records
abbrev pub records_of : SlotTable → List SlotRecord
records_of t = t.records.now

-- which record a slot has
abbrev pub record_of : Slot → SlotRecord
record_of (Some row) = record { filled = true; value = row.value; care = row.care }
record_of None = record { filled = false; value = 0; care = 0 }

-- memory with the records of these slots; the spare ones, beyond the 120th, are those that lay there before
abbrev pub memory_with : List Slot → List SlotRecord → List SlotRecord
memory_with slots before = map record_of slots ++ drop 120 before

-- a granted call writes the record of its slot, and a refused one nothing
abbrev pub records_after : {X : Type 0} → Result X Refusal → List SlotRecord → ℕ → SlotRecord → List SlotRecord
records_after (Ok x) records slot r = slice_set records slot r
records_after (Err e) records slot r = records

-- the memory of a table is that of its slots
abbrev pub OfItsSlots : SlotTable → Type 0
OfItsSlots t = records_of t ≡ memory_with (slot_table_state t).slots (records_of t)

-- from the one moment to the other a table put or emptied these slots: it holds the very memory that it was lent; spare
-- records, and those of slots that were not written, are as they were; memory that was that of its slots still is
pub record KeepsRecords (t : SlotTable) (written : List ℕ) (u : SlotTable) : Type 0 where
  pub same_memory : u.records.ghost_name ≡ t.records.ghost_name
  pub spare : spare_records u ≡ spare_records t
  pub unwritten : (slot : ℕ) → ¬ Contains written slot → slice_get (records_of u) slot ≡ slice_get (records_of t) slot
  pub of_its_slots : OfItsSlots t → OfItsSlots u
