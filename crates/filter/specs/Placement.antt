-- What a device is left with by the functions that write its slots.
use Rattle.std.specs.Prelude.{ℕ, ◌-◌, List, ◌++◌, map, length, take, replicate, Some, None}
use Rattle.rows.specs.declared.row_words.RowWords.{RowWords}
use Rattle.rows.specs.Memory.{written}
use Rattle.rows.specs.MadeRows.{row_made}
use Rattle.device.specs.States.{Slot, DeviceState}

-- the slot that holds the row of two words
abbrev pub slot_read : RowWords → Slot
slot_read w = Some (row_made w.value w.care)

-- a device with these in the slots from 0 upward, the others as they were
abbrev pub with_slots : DeviceState → List Slot → DeviceState
with_slots s slots = record s { slots = written s.slots 0 slots }

-- a device with nothing in the slots from this one on
abbrev pub emptied : DeviceState → ℕ → DeviceState
emptied s from = record s { slots = take from s.slots ++ replicate (length s.slots - from) None }

-- a device with these rows in the slots from 0 upward, and nothing in the others
abbrev pub with_rows : DeviceState → List RowWords → DeviceState
with_rows s rows = record s { slots = map slot_read rows ++ replicate (length s.slots - length rows) None }
