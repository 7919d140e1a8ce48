use Rattle.std.proofs.Common.{◌≡◌, ℕ, ◌-◌, ◌*◌, ◌≤◌, List, length, get_or, map, take, drop, set, sym, ap, ◌∙◌, ap₂, arith}
use Rattle.rows.specs.Widths.{places_of}
use Rattle.rows.specs.declared.row_words.RowWords.{RowWords}
use Rattle.rows.specs.Memory.{words_of}
use Rattle.sheets.specs.Reading.{bits_of, symbols_of}
use Rattle.sheets.proofs.Readings.{rows_in, sheet_says}
use Rattle.sheet.proofs.Copies.{copied_more, copied_all}
use Rattle.sheet.proofs.Opened.{lengths, sheet_opened, rows_count, row_read}
use Rattle.sheet.proofs.Rows.{no_words}
use Rattle.sheet.proofs.read.write_rows.Goals as goal

pub slice_bounds-body-count : goal.slice_bounds-body-count
slice_bounds-body-count c = let r = c.requires.sheet in let l = lengths _ r.0 c.args.sheet.now r.1.0 in l.two

pub slice_bounds-body-start : goal.slice_bounds-body-start
slice_bounds-body-start c = let r = c.requires.sheet in let l = lengths _ r.0 c.args.sheet.now r.1.0 in l.two

pub invariant_of-body : goal.invariant_of-body
invariant_of-body c =
    let r = c.requires.sheet in
    let sheet = c.args.sheet.now in
    let l = lengths _ r.0 sheet r.1.0 in
    let o = sheet_opened _ r.0 sheet r.1.0 (λ i. omega (arith, c.type_inv.sheet i)) in
    let e = o.length_is in
    let m : length c.args.memory.now * c.places-places.result ≡ length r.0 * places_of c.args.width =
    ap₂ (λ (a b : ℕ). a * b) r.1.1 c.places-places.ensures.value in
    let k : length c.args.memory.now * c.places-places.result ≤ 4 * length (take (length sheet - 2) (drop 2 sheet)) = omega arith in
    record { inside = k }

pub loop-index-preserved : goal.loop-index-preserved
loop-index-preserved c =
    let r = c.requires.sheet in
    let sheet = c.args.sheet.now in
    let i = c.loop-index.index in
    let o = sheet_opened _ r.0 sheet r.1.0 (λ i. omega (arith, c.type_inv.sheet i)) in
    let n = rows_count o in
    let t = c.loop-index-test.true in
    let many = r.1.1 in
    let words : c.row_at.result ≡ get_or (map words_of (rows_in sheet)) i no_words =
    c.row_at.ensures.words ∙
    ap (λ (p : ℕ). words_of (take p (drop (i * p) (symbols_of (bits_of (take (length sheet - 2) (drop 2 sheet))))))) c.places-places.ensures.value ∙
    sym (row_read o i (omega arith)) in
    ap₂ (λ (m : List RowWords) (w : RowWords). set m i w) c.loop-index.invariant words ∙
    copied_more (map words_of (rows_in sheet)) c.args.memory.now i no_words (omega arith) t

pub returns : goal.returns
returns c =
    let r = c.requires.sheet in
    let sheet = c.args.sheet.now in
    let o = sheet_opened _ r.0 sheet r.1.0 (λ i. omega (arith, c.type_inv.sheet i)) in
    let n = rows_count o in
    let many = r.1.1 in
    let far = c.loop-index-test.false in
    record {
      rows = λ rows is.
          let a = sheet_says _ rows sheet is in
          c.loop-index.invariant ∙ copied_all (map words_of (rows_in sheet)) c.args.memory.now c.loop-index.index (omega arith) far ∙ ap (map words_of) a.rows_are;
    }
