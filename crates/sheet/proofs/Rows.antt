-- The symbols and the bytes of rows that lie in memory.
use Rattle.std.proofs.Common.{◌≡◌, ℕ, ◌+◌, ◌-◌, ◌*◌, ◌/◌, ◌%◌, ◌<◌, ◌≤◌, List, length, get_or, sym, ap, ◌∙◌, mod-lt, div-add-mod', arith}
use lib.Bits.{bit_and}
use Rattle.std.specs.List.{AllByRecursion}
use Rattle.std.proofs.lemmas.Nat.{mul-le}
use Rattle.std.proofs.lemmas.List.{length-map}
use Rattle.covers.specs.declared.symbol.Symbol.TheVariants.{Zero}
use Rattle.covers.specs.Words.{symbol_at}
use Rattle.rows.specs.declared.row_words.RowWords.{RowWords}
use Rattle.sheets.specs.Format.{all_symbols, byte_from, size_of_sheet}
use Rattle.sheets.proofs.Places.{length_symbols, symbols_at, rows_even, rows_at, rows_past, byte_0, byte_1, byte_of_four}
use Rattle.sheets.proofs.Readings.{length_sheet}
use Rattle.rows.specs.Memory.{row_of, rows_of}
use Rattle.sheet.specs.Packing.{sheet_of}

abbrev pub no_words : RowWords
no_words = record { value = 0; care = 0 }

wide : (n : ℕ) (x : RowWords) → length (row_of n x) ≡ n
wide n x = length_symbols n (bit_and x.value x.care) x.care

pub even_rows : (n : ℕ) (rows : List RowWords) → AllByRecursion (λ r. length r ≡ n) (rows_of n rows)
even_rows n rows = rows_even (row_of n) n (wide n) rows

-- the symbol at an index, by row and place
module _ (n : ℕ) (rows : List RowWords) (i : ℕ) (low : 1 ≤ n) where
  pub symbol_in_rows : (x : RowWords) → i / n < length rows → x ≡ get_or rows (i / n) no_words →
      get_or (all_symbols (rows_of n rows)) i Zero ≡ symbol_at (bit_and x.value x.care) x.care (n - 1 - i % n)
  symbol_in_rows x h e =
      let k : i % n < n = mod-lt i (omega arith) in
      ap (λ m. get_or (all_symbols (rows_of n rows)) m Zero) (sym (div-add-mod' i n)) ∙
      rows_at (row_of n) n (wide n) rows (i / n) (i % n) no_words h k ∙
      ap (λ (y : RowWords). get_or (row_of n y) (i % n) Zero) (sym e) ∙
      symbols_at n (bit_and x.value x.care) x.care (i % n) k

  pub past_rows : length rows ≤ i / n → get_or (all_symbols (rows_of n rows)) i Zero ≡ Zero
  past_rows h =
      let e = div-add-mod' i n in
      let m = mul-le (length rows) n (i / n) n h (omega arith) in
      rows_past (row_of n) n (wide n) rows i (omega arith)

-- the bytes of the sheet
module _ (n : ℕ) (rows : List RowWords) where
  many : length (rows_of n rows) ≡ length rows
  many = length-map rows (row_of n)

  pub sheet_length : length (sheet_of n rows) ≡ size_of_sheet n (length rows)
  unfolding sheet_of
  sheet_length = length_sheet n (rows_of n rows) (even_rows n rows) ∙ ap (size_of_sheet n) many

  module _ (high : n ≤ 32) (few : length rows ≤ 120) where
    pub sheet_0 : get_or (sheet_of n rows) 0 0 ≡ (n - 1) * 8 + length rows / 16
    unfolding sheet_of
    sheet_0 = let m = many in byte_0 n (rows_of n rows) (even_rows n rows) high (omega arith) ∙ ap (λ k. (n - 1) * 8 + k / 16) m

    pub sheet_1 : get_or (sheet_of n rows) 1 0 ≡ length rows % 16 * 16
    unfolding sheet_of
    sheet_1 = let m = many in byte_1 n (rows_of n rows) (even_rows n rows) high (omega arith) ∙ ap (λ k. k % 16 * 16) m

    pub sheet_rest : (k : ℕ) → 2 ≤ k → k < size_of_sheet n (length rows) → get_or (sheet_of n rows) k 0 ≡ byte_from (all_symbols (rows_of n rows)) (4 * (k - 2))
    unfolding sheet_of
    sheet_rest k two h =
        let m = many in
        let s = ap (size_of_sheet n) m in
        byte_of_four n (rows_of n rows) (even_rows n rows) high (omega arith) k two (omega arith)
