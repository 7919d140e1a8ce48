use Rattle.std.proofs.Common.{◌≡◌, ℕ, ◌-◌, ◌/◌, ◌%◌, ◌<◌, ◌≤◌, length, get_or, sym, refl, ap, ◌∙◌, ap₂, rules}
use Rattle.covers.specs.declared.symbol.Symbol.TheVariants.{Zero}
use Rattle.covers.specs.Digits.{value}
use Rattle.covers.specs.Words.{symbol_at}
use Rattle.rows.specs.Memory.{rows_of}
use Rattle.sheets.specs.Format.{all_symbols, code_number}
use Rattle.sheet.proofs.Rows.{no_words, symbol_in_rows, past_rows}
use Rattle.sheet.proofs.sheet_rows.SheetRows.code_at.Goals as goal

pub returns-in-Some-clause-value : goal.returns-in-Some-clause-value
returns-in-Some-clause-value c =
    let n = c.places-places.result in
    let i = c.args.index in
    let rows = c.args.self.now.rows.now in
    let inside : i / n < length rows = search rules in
    let words : c.in-Some.words.now ≡ get_or rows (i / n) no_words = search rules in
    c.code_of.ensures.value ∙
    ap code_number (
    c.symbol_at.ensures.value ∙ ap₂ (λ (v k : ℕ). symbol_at v k (n - 1 - i % n)) c.from.ensures.0 c.from.ensures.1 ∙
    sym (symbol_in_rows n rows i c.places-places.ensures.low_bound c.in-Some.words.now inside words) ∙
    ap (λ (k : ℕ). get_or (all_symbols (rows_of k rows)) i Zero) c.places-places.ensures.value)

zero_code : code_number Zero ≡ 0
unfolding code_number value
zero_code = refl

pub returns-in-None-clause-value : goal.returns-in-None-clause-value
returns-in-None-clause-value c =
    let n = c.places-places.result in
    let rows = c.args.self.now.rows.now in
    let past : length rows ≤ c.args.index / n = search rules in
    sym (
    ap code_number (sym (ap (λ (k : ℕ). get_or (all_symbols (rows_of k rows)) c.args.index Zero) c.places-places.ensures.value) ∙
    past_rows n rows c.args.index c.places-places.ensures.low_bound past) ∙ zero_code)
