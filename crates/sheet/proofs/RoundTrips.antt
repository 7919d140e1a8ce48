-- There and back, in lists.
use Rattle.std.proofs.Common.{◌≡◌, ℕ, zero, suc, ◌^◌, ◌<◌, ◌≤◌, Bool, true, false, cond, ◌&&◌, ◌||◌, leb, List, [], ◌∷◌, map, length, sym, refl, ap, ◌∙◌, ap₂, arith}
use lib.Bits.{bit_and, and_le_r}
use Rattle.std.specs.List.{AllByRecursion}
use Rattle.std.proofs.lemmas.List.{length-map}
use Rattle.std.proofs.lemmas.Bool.{leb-false, lt-leb, or_parts}
use Rattle.covers.specs.declared.symbol.Symbol.{Symbol}
use Rattle.covers.specs.declared.symbol.Symbol.TheVariants.{Zero, One, Dash}
use Rattle.covers.specs.Digits.{digit}
use Rattle.covers.specs.Symbols.{Symbols}
use Rattle.covers.specs.Words.{value_word, care_word, symbol_at, symbols}
use Rattle.covers.proofs.Masks.{and_again}
use Rattle.covers.proofs.RowWords.{symbols_back, care_word_fits, words_back, digit_and}
use Rattle.rows.specs.Widths.{places_of}
use Rattle.rows.specs.declared.row_words.RowWords.{RowWords}
use Rattle.rows.specs.declared.width.Width.{Width}
use Rattle.sheets.specs.Format.{sheet_bits, bytes_of, size_of_sheet, Sheet}
use Rattle.sheets.proofs.Readings.{length_sheet}
use Rattle.sheet.specs.Faults.{cares_outside}
use Rattle.rows.specs.Memory.{as_made, row_of, rows_of, words_of}
use Rattle.sheet.specs.Packing.{sheet_of}
use Rattle.sheet.proofs.Rows.{even_rows}

-- the words of a row, and the row of words
made_symbol : (v c p : ℕ) → symbol_at (bit_and v c) c p ≡ symbol_at v c p
made_symbol v c p = ap (λ (x : Bool). cond (digit p c) (cond x One Zero) Dash) (digit_and p v c) ∙ go (digit p v) (digit p c)
  where
    go : (x y : Bool) → cond y (cond (x && y) One Zero) Dash ≡ cond y (cond x One Zero) Dash
    go true true = refl
    go false true = refl
    go x false = refl

made_symbols : (n v c : ℕ) → symbols n (bit_and v c) c ≡ symbols n v c
made_symbols zero v c = refl
made_symbols (suc n) v c = ap₂ (λ (s : Symbol) (r : Symbols). s ∷ r) (made_symbol v c n) (made_symbols n v c)

pub row_again : (n : ℕ) (r : Symbols) → length r ≡ n → row_of n (words_of r) ≡ r
row_again n r l = made_symbols n (value_word r) (care_word r) ∙ ap (λ k. symbols k (value_word r) (care_word r)) (sym l) ∙ symbols_back r

pub rows_again : (n : ℕ) (rows : List Symbols) → AllByRecursion (λ r. length r ≡ n) rows → rows_of n (map words_of rows) ≡ rows
rows_again n [] even = refl
rows_again n (r ∷ rows) even = ap₂ (λ (a : Symbols) (b : List Symbols). a ∷ b) (row_again n r even.0) (rows_again n rows even.1)

pub words_inside : (n : ℕ) (rows : List Symbols) → AllByRecursion (λ r. length r ≡ n) rows → cares_outside n (map words_of rows) ≡ false
words_inside n [] even = refl
words_inside n (r ∷ rows) even =
    let f = care_word_fits r in
    let p = ap (λ k. 2 ^ k) even.0 in
    ap₂ (λ (a b : Bool). a || b) (lt-leb (2 ^ n) (care_word r) (omega arith)) (words_inside n rows even.1)

pub words_made : (n : ℕ) (x : RowWords) → x.care < 2 ^ n → words_of (row_of n x) ≡ as_made x
words_made n x h =
    let l = and_le_r x.value x.care in
    let b = words_back n (bit_and x.value x.care) x.care (omega arith) h (and_again x.value x.care) in
    ap₂ (λ (v k : ℕ). record { value = v; care = k }) b.0 b.1

pub all_made : (n : ℕ) (rows : List RowWords) → cares_outside n rows ≡ false → map words_of (rows_of n rows) ≡ map as_made rows
all_made n [] e = refl
all_made n (x ∷ rows) e =
    let p = or_parts (leb (2 ^ n) x.care) (cares_outside n rows) e in
    ap₂ (λ (a : RowWords) (b : List RowWords). a ∷ b) (words_made n x (leb-false (2 ^ n) x.care p.0)) (all_made n rows p.1)

-- packed, then read
module _ (width : Width) (rows : List RowWords) (few : length rows ≤ 120) where
  pub many : length (rows_of (places_of width) rows) ≡ length rows
  many = length-map rows (row_of (places_of width))

  pub sheet_stands : (sheet : List ℕ) → sheet ≡ sheet_of (places_of width) rows → Sheet (places_of width) (rows_of (places_of width) rows) sheet
  unfolding sheet_of
  sheet_stands sheet same =
      let l = many in
      record { low = omega arith; high = omega arith; few = omega arith; even = even_rows (places_of width) rows; same = same }

-- read, then packed
module _ (width : ℕ) (rows : List Symbols) (sheet : List ℕ) (is : Sheet width rows sheet) where
  pub sheet_again : sheet_of width (map words_of rows) ≡ sheet
  unfolding sheet_of
  sheet_again = ap (λ (x : List Symbols). bytes_of (sheet_bits width x)) (rows_again width rows is.even) ∙ sym is.same

  pub size_again : size_of_sheet width (length rows) ≡ length sheet
  size_again = sym (length_sheet width rows is.even) ∙ ap length (sym is.same)
