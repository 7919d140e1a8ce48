-- Where a symbol of a row lies on the sheet, and in which byte.
use Rattle.std.proofs.Common.{◌≡◌, ℕ, zero, suc, ◌+◌, ◌-◌, ◌*◌, ◌/◌, ◌%◌, ◌<◌, ◌≤◌, List, [], ◌∷◌, ◌++◌, map, length, get_or, drop, sym, refl, ap, ◌∙◌, ap₂, add-zero, suc-mul, zero-mul, arith}
use Rattle.std.specs.List.{AllByRecursion}
use Rattle.std.proofs.lemmas.List.{length-map, get_or_append_left, get_or-append-add, get_or_past, get_or-drop, drop-drop}
use Rattle.covers.specs.declared.symbol.Symbol.{Symbol}
use Rattle.covers.specs.declared.symbol.Symbol.TheVariants.{Zero, One, Dash}
use Rattle.covers.specs.Digits.{value}
use Rattle.covers.specs.Symbols.{Symbols}
use Rattle.covers.specs.Words.{symbol_at, symbols}
use Rattle.sheets.specs.Format.{code, code_number, all_symbols, sheet_bits, filled, byte_from, bytes_of, size_of_sheet}
use Rattle.sheets.proofs.Bytes.{length_bytes, byte_at}
use Rattle.sheets.proofs.Codes.{drop_codes, byte_of_codes}
use Rattle.sheets.proofs.Cuts.{length_all}
use Rattle.sheets.proofs.Headers.{first_byte, second_byte, after_header}
use Rattle.sheets.proofs.Readings.{length_sheet}

pub length_symbols : (n v c : ℕ) → length (symbols n v c) ≡ n
length_symbols zero v c = refl
length_symbols (suc n) v c = ap suc (length_symbols n v c)

pub symbols_at : (n v c r : ℕ) → r < n → get_or (symbols n v c) r Zero ≡ symbol_at v c (n - 1 - r)
symbols_at zero v c r h = absurd (omega arith)
symbols_at (suc n) v c zero h = let e : n ≡ suc n - 1 - 0 = omega arith in ap (symbol_at v c) e
symbols_at (suc n) v c (suc r) h = let e : n - 1 - r ≡ suc n - 1 - suc r = omega arith in symbols_at n v c r (omega arith) ∙ ap (symbol_at v c) e

-- rows that are made one by one, all of one width
module _ {X : Type 0} (f : X → Symbols) (n : ℕ) (wide : (x : X) → length (f x) ≡ n) where
  pub rows_even : (xs : List X) → AllByRecursion (λ r. length r ≡ n) (map f xs)
  rows_even [] = tt
  rows_even (x ∷ xs) = (wide x, rows_even xs)

  pub rows_at : (xs : List X) (q r : ℕ) (d : X) → q < length xs → r < n → get_or (all_symbols (map f xs)) (q * n + r) Zero ≡ get_or (f (get_or xs q d)) r Zero
  rows_at [] q r d h k = absurd (omega arith)
  rows_at (x ∷ xs) zero r d h k =
      let l = wide x in
      let e : 0 * n + r ≡ r = let z = zero-mul n in omega arith in
      ap (λ m. get_or (f x ++ all_symbols (map f xs)) m Zero) e ∙ get_or_append_left (f x) (all_symbols (map f xs)) Zero r (omega arith)
  rows_at (x ∷ xs) (suc q) r d h k =
      let l = wide x in
      let e : suc q * n + r ≡ length (f x) + (q * n + r) = let m = suc-mul q n in omega arith in
      ap (λ m. get_or (f x ++ all_symbols (map f xs)) m Zero) e ∙ get_or-append-add (f x) (all_symbols (map f xs)) (q * n + r) Zero ∙ rows_at xs q r d (omega arith) k

  pub rows_past : (xs : List X) (i : ℕ) → length xs * n ≤ i → get_or (all_symbols (map f xs)) i Zero ≡ Zero
  rows_past xs i h =
      let l = length_all n (map f xs) (rows_even xs) in
      let m = ap (λ k. k * n) (length-map xs f) in
      get_or_past (all_symbols (map f xs)) i Zero (omega arith)

-- the bytes of a sheet, one by one
module _ (width : ℕ) (rows : List Symbols) (even : AllByRecursion (λ r. length r ≡ width) rows) (wide : width ≤ 32) (few : length rows ≤ 120) where
  at_bits : (k : ℕ) → k < size_of_sheet width (length rows) → get_or (bytes_of (sheet_bits width rows)) k 0 ≡ value (filled 8 (drop (8 * k) (sheet_bits width rows)))
  unfolding bytes_of
  at_bits k h =
      let s = length_sheet width rows even in
      let n = length_bytes ((length (sheet_bits width rows) + 7) / 8) (sheet_bits width rows) in
      byte_at ((length (sheet_bits width rows) + 7) / 8) (sheet_bits width rows) k (omega arith)

  pub byte_0 : get_or (bytes_of (sheet_bits width rows)) 0 0 ≡ (width - 1) * 8 + length rows / 16
  unfolding size_of_sheet
  byte_0 = at_bits 0 (omega arith) ∙ first_byte width rows wide few

  pub byte_1 : get_or (bytes_of (sheet_bits width rows)) 1 0 ≡ length rows % 16 * 16
  unfolding size_of_sheet
  byte_1 = at_bits 1 (omega arith) ∙ second_byte width rows wide few

  pub byte_of_four : (k : ℕ) → 2 ≤ k → k < size_of_sheet width (length rows) → get_or (bytes_of (sheet_bits width rows)) k 0 ≡ byte_from (all_symbols rows) (4 * (k - 2))
  unfolding byte_from
  byte_of_four k two h =
      let e : 8 * k ≡ 16 + 2 * (4 * (k - 2)) = omega arith in
      let s = all_symbols rows in
      let j = 4 * (k - 2) in
      at_bits k h ∙
      ap (λ u. value (filled 8 u)) (
      ap (λ m. drop m (sheet_bits width rows)) e ∙ sym (drop-drop (2 * j) 16 (sheet_bits width rows)) ∙
      ap (drop (2 * j)) (after_header width rows wide few) ∙ drop_codes j s)

-- a byte by its four codes
pub byte_from_codes : (s : Symbols) (j : ℕ) →
    byte_from s j ≡ ((code_number (get_or s j Zero) * 4 + code_number (get_or s (j + 1) Zero)) * 4 + code_number (get_or s (j + 2) Zero)) * 4 + code_number (get_or s (j + 3) Zero)
unfolding byte_from code_number
byte_from_codes s j =
    let at = λ (i : ℕ). get_or-drop j s i Zero in
    let zero_at : get_or (drop j s) 0 Zero ≡ get_or s j Zero = at 0 ∙ ap (λ m. get_or s m Zero) (add-zero j) in
    byte_of_codes (drop j s) ∙
    ap₂ (λ (p q : ℕ). p * 4 + q)
    (ap₂ (λ (p q : ℕ). p * 4 + q)
    (ap₂ (λ (p q : ℕ). p * 4 + q) (ap (λ (x : Symbol). value (code x)) zero_at) (ap (λ (x : Symbol). value (code x)) (at 1)))
    (ap (λ (x : Symbol). value (code x)) (at 2)))
    (ap (λ (x : Symbol). value (code x)) (at 3))

pub code_small : (s : Symbol) → code_number s < 3
unfolding code_number value
code_small Zero = omega arith
code_small One = omega arith
code_small Dash = omega arith
