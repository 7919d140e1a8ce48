use Rattle.std.proofs.Common.{◌^◌, ◌<◌, not, ap, ◌∙◌, rules}
use Rattle.rows.specs.Widths.{places_of}
use Rattle.column_table.specs.ColumnTables.{slot_count, column_table_state}
use Rattle.device.proofs.Granted.{ask_is}
use Rattle.column_table.proofs.Columns.{some_taking}
use Rattle.column_table.proofs.table.ColumnTableRowDevice.ask.Goals as goal

pub returns-then-not-self : goal.returns-then-not-self
returns-then-not-self c =
    let t = c.args.self.now in
    let n = places_of t.width in
    let x = c.args.number in
    let fit : x < 2 ^ n = search rules in
    let few : c.taking.result.bits < 2 ^ 128 = search rules in
    let some = some_taking n t.columns (slot_count t) x c.taking.result.bits few c.taking.ensures.value in
    record { answer = ask_is (column_table_state t) x _ fit (ap not c.is_empty.ensures.value ∙ some ∙ rw c.if-not-self.true) }
