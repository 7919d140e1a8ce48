use Rattle.std.proofs.Common.{◌≡◌, ℕ, ◌<◌, cond, eqb, length, get_or, Option, ap, ◌∙◌, arith, length-set, rules}
use Rattle.covers.specs.declared.symbol.Symbol.{Symbol}
use Rattle.column_table.specs.Columns.{column_symbol, row_symbol, blank_column}
use Rattle.column_table.proofs.Columns.{written_more, rest_more}
use Rattle.column_table.proofs.table.write.Goals as goal

pub loop-place-preserved : goal.loop-place-preserved
loop-place-preserved c =
    let was = c.args.columns.now in
    let columns = c.loop-place.columns in
    let at = c.loop-place.place-counter in
    let slot = c.args.slot.index in
    let here : at < length columns = omega arith in
    let asked : c.map.result ≡ row_symbol c.args.row at = search rules in
    let now : (i : ℕ) → column_symbol c.write.new.self i ≡ cond (eqb i slot) (row_symbol c.args.row at) (column_symbol (get_or columns at blank_column) i) =
    λ i. c.write.ensures.value i ∙
    ap (λ (s : Option Symbol). cond (eqb i slot) s (column_symbol (get_or columns at blank_column) i)) asked in
    let inv = c.loop-place.invariant in (
      length-set columns at c.write.new.self ∙ inv.0,
      written_more was columns at slot c.args.row c.write.new.self here now inv.2 inv.1,
      rest_more was columns at slot c.args.row c.write.new.self here now inv.2,
    )
