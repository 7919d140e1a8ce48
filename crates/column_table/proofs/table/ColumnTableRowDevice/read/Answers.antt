use Rattle.std.proofs.Common.{◌≡◌, ◌<◌, length, sym, ap, ◌∙◌, arith, rules}
use Rattle.rows.specs.Widths.{places_of}
use Rattle.column_table.specs.Columns.{column_slot, column_slots}
use Rattle.column_table.specs.ColumnTables.{slot_count, column_table_state}
use Rattle.device.proofs.Granted.{read_is}
use Rattle.column_table.proofs.Columns.{column_length, column_at}
use Rattle.column_table.proofs.table.ColumnTableRowDevice.read.Goals as goal

pub returns : goal.returns
returns c =
    let t = c.args.self.now in
    let n = places_of t.width in
    let slot = c.args.slot in
    let same : c.in_ok-slot.slot.index ≡ slot = search rules in
    let short : slot < slot_count t = search rules in
    let within : slot < length (column_slots n t.columns (slot_count t)) = omega (arith, column_length n t.columns (slot_count t)) in
    record { answer = read_is (column_table_state t) slot c.content.result within (c.content.ensures.value ∙ ap (column_slot n t.columns) same ∙ sym (column_at n t.columns (slot_count t) slot short)) }
