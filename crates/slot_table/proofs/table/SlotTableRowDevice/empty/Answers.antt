use Rattle.std.proofs.Common.{◌<◌, None, length, refl, rules}
use Rattle.rows.specs.Widths.{places_of}
use Rattle.slot_table.specs.SlotTables.{record_of, table_slots}
use Rattle.slot_table.proofs.Tables.{keeps_written, spare_kept, slots_emptied}
use Rattle.slot_table.proofs.table.SlotTableRowDevice.empty.Goals as goal

pub returns-clause-after : goal.returns-clause-after
returns-clause-after c =
    let t = c.args.self.now in
    let within : c.args.slot < length (table_slots (places_of t.width) t.records.now) = search rules in
    slots_emptied (places_of t.width) t.records.now t.muted c.args.slot within

pub returns-clause-rest : goal.returns-clause-rest
returns-clause-rest c =
    let t = c.args.self.now in
    let within : c.args.slot < length (table_slots (places_of t.width) t.records.now) = search rules in
    spare_kept (places_of t.width) t.records.now c.args.slot (record_of None) within

pub returns-clause-beside : goal.returns-clause-beside
returns-clause-beside c =
    let t = c.args.self.now in
    let within : c.args.slot < length (table_slots (places_of t.width) t.records.now) = search rules in
    keeps_written t c.args.slot None (record_of None) within tt refl
