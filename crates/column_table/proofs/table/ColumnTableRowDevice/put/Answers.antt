use Rattle.std.proofs.Common.{◌≡◌, ◌^◌, ◌<◌, length, Some, arith, rules}
use Rattle.rows.specs.Widths.{places_of}
use Rattle.column_table.specs.Columns.{column_slots}
use Rattle.column_table.specs.ColumnTables.{slot_count}
use Rattle.column_table.proofs.Columns.{Writes, column_length}
use Rattle.column_table.proofs.ColumnTables.{table_put}
use Rattle.column_table.proofs.table.ColumnTableRowDevice.put.Goals as goal

pub returns-clause-after : goal.returns-clause-after
returns-clause-after c =
    let t = c.args.self.now in
    let slot = c.args.slot in
    let row = c.args.row in
    let is = c.write.new.columns in
    let same : c.in_ok-slot.slot.index ≡ slot = search rules in
    let short : slot < slot_count t = search rules in
    let within : slot < length (column_slots (places_of t.width) t.columns (slot_count t)) = omega (arith, column_length (places_of t.width) t.columns (slot_count t)) in
    let fit : row.care < 2 ^ places_of t.width = search rules in
    let written : Writes t.columns is slot (Some row) 32 = rw same at c.write.ensures.value in
    table_put t is slot within row fit written
