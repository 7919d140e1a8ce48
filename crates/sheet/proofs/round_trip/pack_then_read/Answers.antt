use Rattle.std.proofs.Common.{◌≡◌, ◌≤◌, false, List, ◌++◌, length, drop, sym, ap, ◌∙◌, subst, ap₂, arith}
use Rattle.std.proofs.lemmas.List.{length-take-le}
use Rattle.rows.specs.Memory.{rows_of}
use Rattle.rows.specs.Widths.{places_of}
use Rattle.rows.specs.declared.row_words.RowWords.{RowWords}
use Rattle.rows.specs.declared.width.Width.{Width}
use Rattle.sheet.specs.Faults.{cares_outside}
use Rattle.sheet.specs.Packing.{sheet_of}
use Rattle.sheet.proofs.RoundTrips.{many, sheet_stands, all_made}
use Rattle.sheet.proofs.round_trip.pack_then_read.Goals as goal

pub write_rows-requires : goal.write_rows-requires
write_rows-requires c =
    let rows = c.args.rows.now in
    let p = c.in_ok-packed.ensures in
    let few : length rows ≤ 120 = subst (λ (x : List RowWords). length x ≤ 120) p.rows c.in_ok-packed.packed.few in
    let packed : c.write.new.memory ≡ sheet_of (places_of c.args.width) rows =
    c.write.ensures.sheet ∙ ap₂ (λ (w : Width) (x : List RowWords). sheet_of (places_of w) x) p.width p.rows in
    let given = length-take-le (length rows) c.args.back.now c.if-back-rows.false in
    let needed = many c.args.width rows few in
    record { sheet = (rows_of (places_of c.args.width) rows, (sheet_stands c.args.width rows few c.write.new.memory packed, omega arith)) }

pub returns-clause-same_rows : goal.returns-clause-same_rows
returns-clause-same_rows c =
    let rows = c.args.rows.now in
    let n = places_of c.args.width in
    let p = c.in_ok-packed.ensures in
    let few : length rows ≤ 120 = subst (λ (x : List RowWords). length x ≤ 120) p.rows c.in_ok-packed.packed.few in
    let packed : c.write.new.memory ≡ sheet_of n rows =
    c.write.ensures.sheet ∙ ap₂ (λ (w : Width) (x : List RowWords). sheet_of (places_of w) x) p.width p.rows in
    let inside : cares_outside n rows ≡ false =
    sym (ap₂ (λ (w : Width) (x : List RowWords). cares_outside (places_of w) x) p.width p.rows) ∙ c.in_ok-packed.packed.inside in
    ap (λ (x : List RowWords). x ++ drop (length rows) c.args.back.now)
    (c.write_rows.ensures.rows (rows_of n rows) (sheet_stands c.args.width rows few c.write.new.memory packed) ∙ all_made n rows inside)
