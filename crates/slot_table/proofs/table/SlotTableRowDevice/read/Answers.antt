use Rattle.std.proofs.Common.{◌<◌, length, sym, ◌∙◌, rules}
use Rattle.rows.specs.Widths.{places_of}
use Rattle.slot_table.specs.SlotTables.{table_slots, slot_table_state}
use Rattle.device.proofs.Granted.{read_is}
use Rattle.slot_table.proofs.Tables.{table_at}
use Rattle.slot_table.proofs.table.SlotTableRowDevice.read.Goals as goal

pub returns : goal.returns
returns c =
    let t = c.args.self.now in
    let n = (places_of t.width) in
    let within : c.args.slot < length (table_slots n t.records.now) = search rules in
    record { answer = read_is (slot_table_state t) c.args.slot c.row.result within (c.row.ensures.value ∙ sym (table_at n t.records.now c.args.slot _ within)) }
