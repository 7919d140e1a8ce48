use Rattle.std.proofs.Common.{◌^◌, ◌<◌, Some, length, set, ap, ◌∙◌, rules}
use Rattle.rows.specs.Widths.{places_of}
use Rattle.slot_table.specs.declared.record.SlotRecord.{SlotRecord}
use Rattle.slot_table.specs.SlotTables.{table_slots, table_state}
use Rattle.slot_table.proofs.Tables.{keeps_written, spare_kept, slots_put}
use Rattle.slot_table.proofs.table.SlotTableRowDevice.put.Goals as goal

pub returns-clause-after : goal.returns-clause-after
returns-clause-after c =
    let t = c.args.self.now in
    let within : c.args.slot < length (table_slots (places_of t.width) t.records.now) = search rules in
    let fit : c.args.row.care < 2 ^ (places_of t.width) = search rules in
    ap (λ (r : SlotRecord). table_state (places_of t.width) (set t.records.now c.args.slot r) t.muted) c.from.ensures ∙
    slots_put (places_of t.width) t.records.now t.muted c.args.slot within c.args.row fit

pub returns-clause-rest : goal.returns-clause-rest
returns-clause-rest c =
    let t = c.args.self.now in
    let within : c.args.slot < length (table_slots (places_of t.width) t.records.now) = search rules in
    spare_kept (places_of t.width) t.records.now c.args.slot c.from.result within

pub returns-clause-beside : goal.returns-clause-beside
returns-clause-beside c =
    let t = c.args.self.now in
    let within : c.args.slot < length (table_slots (places_of t.width) t.records.now) = search rules in
    let fit : c.args.row.care < 2 ^ (places_of t.width) = search rules in
    keeps_written t c.args.slot (Some c.args.row) c.from.result within fit c.from.ensures
