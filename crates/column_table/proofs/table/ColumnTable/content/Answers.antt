use Rattle.std.proofs.Common.{◌≡◌, ◌<◌, get_or, Some, None, Option, sym, ap, ◌∙◌, arith, rules, get_or-take}
use Rattle.covers.specs.declared.symbol.Symbol.{Symbol}
use Rattle.rows.specs.declared.row.Row.{Row}
use Rattle.rows.specs.Widths.{places_of}
use Rattle.column_table.specs.declared.column.Column.{Column}
use Rattle.column_table.specs.Columns.{column_symbol, blank_column}
use Rattle.rows.proofs.MadeRows.{is_made}
use Rattle.column_table.proofs.Columns.{Read, read_dash, read_zero, read_one, read_slot, read_none}
use Rattle.column_table.proofs.table.ColumnTable.content.Goals as goal
use Rattle.column_table.proofs.table.ColumnTable.content.Goals.{in-Dash, in-Zero, in-One}

pub returns-in_err-symbol : goal.returns-in_err-symbol
returns-in_err-symbol c =
    let columns = c.args.self.now.columns in
    let place = c.loop-place.place in
    let n = c.places-places.result in
    let short : place < n = search rules in
    let none : column_symbol (get_or columns place blank_column) c.args.slot.index ≡ None =
    ap (λ (k : Column). column_symbol k c.args.slot.index) (sym (get_or-take n columns place blank_column short)) ∙ sym c.symbol.ensures.value ∙ c.in_err-symbol.was in
    record { value = c.from_residual.ensures ∙ read_none columns c.args.slot.index place (places_of c.args.self.now.width) none (search rules) }

pub loop-place-preserved : goal.loop-place-preserved
loop-place-preserved c =
    let columns = c.args.self.now.columns in
    let slot = c.args.slot.index in
    let place = c.loop-place.place in
    let words = c.loop-place.words in
    let read = c.loop-place.invariant in
    let n = c.places-places.result in
    let short : place < n = search rules in
    let p : place < 32 = omega arith in
    let found : column_symbol (get_or columns place blank_column) slot ≡ Some c.in_ok-symbol.field-0 =
    ap (λ (k : Column). column_symbol k slot) (sym (get_or-take n columns place blank_column short)) ∙ sym c.symbol.ensures.value ∙ c.in_ok-symbol.was in
    elim c.match-branch-2.branch [
      | in-Dash w ↦ read_dash columns slot place words read p (found ∙ ap {B = Option Symbol} Some w.in-Dash.is) _ w.words-is
      | in-Zero w ↦ read_zero columns slot place words read p (found ∙ ap {B = Option Symbol} Some w.in-Zero.is) _ w.words-is
      | in-One w ↦ read_one columns slot place words read p (found ∙ ap {B = Option Symbol} Some w.in-One.is) _ w.words-is
    ]

pub returns : goal.returns
returns c =
    let columns = c.args.self.now.columns in
    let n = places_of c.args.self.now.width in
    let words = c.loop-place.words in
    let last : c.loop-place.place ≡ n = search rules in
    let read : Read columns c.args.slot.index n words = rw last at c.loop-place.invariant in
    record {
      value = ap {B = Option Row} Some (is_made c.from.result words.value words.care c.from.ensures.0 c.from.ensures.1) ∙ read_slot columns c.args.slot.index n words read;
    }
