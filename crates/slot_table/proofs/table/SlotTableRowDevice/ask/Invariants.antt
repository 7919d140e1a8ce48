use Rattle.std.proofs.Common.{◌≡◌, false, take}
use Rattle.rows.specs.Widths.{places_of}
use Rattle.device.specs.States.{some_slot_takes}
use Rattle.slot_table.specs.SlotTables.{table_slots}
use Rattle.slot_table.proofs.table.SlotTableRowDevice.ask.Given as goal

abbrev pub invariant-loop-slot : goal.invariant-loop-slot
invariant-loop-slot l = some_slot_takes (take l.slot (table_slots (places_of l.self.width) l.self.records.now)) l.number ≡ false
