-- What a sheet says about itself: it has one reading, and whatever is not refused is a sheet.
use Rattle.std.proofs.Common.{◌≡◌, ℕ, ◌+◌, ◌-◌, ◌*◌, ◌/◌, ◌^◌, ◌<◌, ◌≤◌, true, false, ◌&&◌, List, [], ◌∷◌, ◌++◌, length, take, drop, sym, refl, ap, ◌∙◌, ap₂, arith}
use Rattle.std.specs.List.{flat_map, AllByRecursion}
use Rattle.std.proofs.lemmas.List.{length-append, length-take-le, length-drop, take_at, drop_at, drop-drop, take-append-drop}
use Rattle.std.proofs.lemmas.Bool.{and_parts}
use Rattle.covers.specs.Digits.{Digits, digits, value, all_zeros}
use Rattle.covers.specs.Symbols.{Symbols}
use Rattle.covers.proofs.Numbers.{value_below, value_digits, digits_value}
use Rattle.sheets.specs.Format.{code, all_symbols, sheet_bits, filled, bytes, bytes_of, size_of_sheet, Sheet}
use Rattle.sheets.specs.Reading.{bits_of, width_field, count_field, symbol_bits, zero_bits, unknown_code, symbols_of}
use Rattle.sheets.proofs.Bytes.{length_bytes, length_filled, filled_more, filled_zeros, zeros_filled, bits_of_bytes, length_bits, bytes_of_bits}
use Rattle.sheets.proofs.Codes.{length_codes, codes_symbols, codes_known, symbols_codes, length_symbols_of}
use Rattle.sheets.proofs.Cuts.{cut, length_cut, cut_even, cut_joined, joined_cut, length_all}

pub zeros_append : (u v : Digits) → all_zeros (u ++ v) ≡ (all_zeros u && all_zeros v)
zeros_append [] v = refl
zeros_append (true ∷ u) v = refl
zeros_append (false ∷ u) v = zeros_append u v

-- the rows on a sheet
abbrev pub rows_in : List ℕ → List Symbols
rows_in sheet = cut (width_field sheet) (count_field sheet) (symbols_of (symbol_bits sheet))

-- how long the bits of a sheet are
pub length_sheet_bits : (width : ℕ) (rows : List Symbols) → AllByRecursion (λ r. length r ≡ width) rows → length (sheet_bits width rows) ≡ 16 + 2 * (length rows * width)
unfolding sheet_bits
length_sheet_bits width rows even =
    let c = length_codes (all_symbols rows) in
    let l = length_all width rows even in
    let e : length (flat_map code (all_symbols rows)) ≡ 2 * (length rows * width) = c ∙ ap (λ k. 2 * k) l in
    omega arith

pub length_sheet : (width : ℕ) (rows : List Symbols) → AllByRecursion (λ r. length r ≡ width) rows → length (bytes_of (sheet_bits width rows)) ≡ size_of_sheet width (length rows)
unfolding bytes_of size_of_sheet
length_sheet width rows even =
    let l = length_sheet_bits width rows even in
    length_bytes ((length (sheet_bits width rows) + 7) / 8) (sheet_bits width rows) ∙ omega arith

-- what a sheet says of itself
pub record Says (width : ℕ) (rows : List Symbols) (sheet : List ℕ) : Type 0 where
  pub two : 2 ≤ length sheet
  pub width_is : width_field sheet ≡ width
  pub count_is : count_field sheet ≡ length rows
  pub size : length sheet ≡ size_of_sheet width (length rows)
  pub known : unknown_code (symbol_bits sheet) ≡ false
  pub zeros : all_zeros (zero_bits sheet) ≡ true
  pub rows_are : rows_in sheet ≡ rows

module _ (width : ℕ) (rows : List Symbols) (sheet : List ℕ) (is : Sheet width rows sheet) where
  spare : ℕ
  spare = 8 * ((length (sheet_bits width rows) + 7) / 8) - length (sheet_bits width rows)

  bits_are : bits_of sheet ≡ sheet_bits width rows ++ filled spare []
  unfolding bytes_of spare
  bits_are =
      let e : 8 * ((length (sheet_bits width rows) + 7) / 8) ≡ length (sheet_bits width rows) + spare = omega arith in
      ap bits_of is.same ∙ bits_of_bytes ((length (sheet_bits width rows) + 7) / 8) (sheet_bits width rows) ∙ ap (λ k. filled k (sheet_bits width rows)) e ∙ filled_more (sheet_bits width rows) spare

  says_width : width_field sheet ≡ width
  unfolding width_field sheet_bits
  says_width =
      let l = is.low in
      let h = is.high in
      let v = value_digits 5 (width - 1) (omega arith) in
      ap (λ b. value (take 5 b) + 1) bits_are ∙ omega arith

  says_count : count_field sheet ≡ length rows
  unfolding count_field sheet_bits
  says_count =
      let f = is.few in
      ap (λ b. value (take 7 (drop 5 b))) bits_are ∙ value_digits 7 (length rows) (omega arith)

  as_long : 2 * (count_field sheet * width_field sheet) ≡ length (flat_map code (all_symbols rows))
  as_long = ap₂ (λ (a b : ℕ). 2 * (a * b)) says_count says_width ∙ ap (λ k. 2 * k) (sym (length_all width rows is.even)) ∙ sym (length_codes (all_symbols rows))

  says_symbols : symbol_bits sheet ≡ flat_map code (all_symbols rows)
  unfolding symbol_bits sheet_bits
  says_symbols = ap (λ b. take (2 * (count_field sheet * width_field sheet)) (drop 16 b)) bits_are ∙ take_at (flat_map code (all_symbols rows)) (filled spare []) (2 * (count_field sheet * width_field sheet)) (sym as_long)

  says_zeros : all_zeros (zero_bits sheet) ≡ true
  unfolding zero_bits sheet_bits
  says_zeros =
      ap (λ b. all_zeros (take 4 (drop 12 b) ++ drop (2 * (count_field sheet * width_field sheet)) (drop 16 b))) bits_are ∙
      ap all_zeros (drop_at (flat_map code (all_symbols rows)) (filled spare []) (2 * (count_field sheet * width_field sheet)) (sym as_long)) ∙ zeros_filled spare

  pub sheet_says : Says width rows sheet
  unfolding size_of_sheet
  sheet_says =
      let l = ap length is.same ∙ length_sheet width rows is.even in
      record {
        two = omega arith;
        width_is = says_width;
        count_is = says_count;
        size = l;
        known = ap unknown_code says_symbols ∙ codes_known (all_symbols rows);
        zeros = says_zeros;
        rows_are =
            ap₂ (λ (w c : ℕ). cut w c (symbols_of (symbol_bits sheet))) says_width says_count ∙ ap (λ u. cut width (length rows) (symbols_of u)) says_symbols ∙
            ap (cut width (length rows)) (codes_symbols (all_symbols rows)) ∙ joined_cut width rows is.even;
      }

-- whatever is long enough, has known symbols and zeros where they belong, is a sheet
module _ (sheet : List ℕ) (fit : AllByRecursion (λ b. b < 256) sheet) (two : 2 ≤ length sheet) (few : count_field sheet ≤ 120)
    (size : length sheet ≡ size_of_sheet (width_field sheet) (count_field sheet)) (known : unknown_code (symbol_bits sheet) ≡ false) (zeros : all_zeros (zero_bits sheet) ≡ true) where
  long : length (bits_of sheet) ≡ 8 * length sheet
  long = length_bits sheet

  symbol_length : length (symbol_bits sheet) ≡ 2 * (count_field sheet * width_field sheet)
  unfolding symbol_bits size_of_sheet
  symbol_length =
      let l = long in
      let d = length-drop 16 (bits_of sheet) in
      length-take-le (2 * (count_field sheet * width_field sheet)) (drop 16 (bits_of sheet)) (omega arith)

  pub length_read : length (symbols_of (symbol_bits sheet)) ≡ count_field sheet * width_field sheet
  length_read = length_symbols_of (count_field sheet * width_field sheet) (symbol_bits sheet) symbol_length

  even : AllByRecursion (λ r. length r ≡ width_field sheet) (rows_in sheet)
  even = cut_even (width_field sheet) (count_field sheet) (symbols_of (symbol_bits sheet)) length_read

  field : (n : ℕ) (u : Digits) → length u ≡ n → u ≡ digits n (value u)
  field n u l = sym (digits_value u) ∙ ap (λ k. digits k (value u)) l

  width_low : width_field sheet - 1 ≡ value (take 5 (bits_of sheet))
  unfolding width_field
  width_low = omega arith

  header_zeros : take 4 (drop 12 (bits_of sheet)) ≡ digits 4 0
  unfolding zero_bits
  header_zeros =
      let z = and_parts (all_zeros (take 4 (drop 12 (bits_of sheet)))) (all_zeros (drop (2 * (count_field sheet * width_field sheet)) (drop 16 (bits_of sheet))))
      (sym (zeros_append (take 4 (drop 12 (bits_of sheet))) (drop (2 * (count_field sheet * width_field sheet)) (drop 16 (bits_of sheet)))) ∙ zeros) in
      let l = long in
      let d = length-drop 12 (bits_of sheet) in
      filled_zeros (take 4 (drop 12 (bits_of sheet))) z.0 ∙ ap (λ k. filled k []) (length-take-le 4 (drop 12 (bits_of sheet)) (omega arith))

  filling_zeros : drop (2 * (count_field sheet * width_field sheet)) (drop 16 (bits_of sheet)) ≡ filled (length (drop (2 * (count_field sheet * width_field sheet)) (drop 16 (bits_of sheet)))) []
  unfolding zero_bits
  filling_zeros =
      let z = and_parts (all_zeros (take 4 (drop 12 (bits_of sheet)))) (all_zeros (drop (2 * (count_field sheet * width_field sheet)) (drop 16 (bits_of sheet))))
      (sym (zeros_append (take 4 (drop 12 (bits_of sheet))) (drop (2 * (count_field sheet * width_field sheet)) (drop 16 (bits_of sheet)))) ∙ zeros) in
      filled_zeros (drop (2 * (count_field sheet * width_field sheet)) (drop 16 (bits_of sheet))) z.1

  codes_are : symbol_bits sheet ≡ flat_map code (all_symbols (rows_in sheet))
  codes_are =
      sym (symbols_codes (count_field sheet * width_field sheet) (symbol_bits sheet) symbol_length known) ∙
      ap (flat_map code) (sym (cut_joined (width_field sheet) (count_field sheet) (symbols_of (symbol_bits sheet)) length_read))

  rest_bits : drop 16 (bits_of sheet) ≡ flat_map code (all_symbols (rows_in sheet)) ++ filled (length (drop (2 * (count_field sheet * width_field sheet)) (drop 16 (bits_of sheet)))) []
  unfolding symbol_bits
  rest_bits = sym (take-append-drop (2 * (count_field sheet * width_field sheet)) (drop 16 (bits_of sheet))) ∙ ap₂ (λ (a b : Digits). a ++ b) codes_are filling_zeros

  whole : bits_of sheet ≡ sheet_bits (width_field sheet) (rows_in sheet) ++ filled (length (drop (2 * (count_field sheet * width_field sheet)) (drop 16 (bits_of sheet)))) []
  unfolding sheet_bits count_field
  whole =
      let l = long in
      let d5 = length-drop 5 (bits_of sheet) in
      let a : take 5 (bits_of sheet) ≡ digits 5 (width_field sheet - 1) =
      field 5 (take 5 (bits_of sheet)) (length-take-le 5 (bits_of sheet) (omega arith)) ∙ ap (digits 5) (sym width_low) in
      let b : take 7 (drop 5 (bits_of sheet)) ≡ digits 7 (length (rows_in sheet)) =
      field 7 (take 7 (drop 5 (bits_of sheet))) (length-take-le 7 (drop 5 (bits_of sheet)) (omega arith)) ∙
      ap (digits 7) (sym (length_cut (width_field sheet) (count_field sheet) (symbols_of (symbol_bits sheet)))) in
      sym (take-append-drop 5 (bits_of sheet)) ∙
      ap₂ (λ (x y : Digits). x ++ y) a (
      sym (take-append-drop 7 (drop 5 (bits_of sheet))) ∙
      ap₂ (λ (x y : Digits). x ++ y) b (
      drop-drop 7 5 (bits_of sheet) ∙
      sym (take-append-drop 4 (drop 12 (bits_of sheet))) ∙
      ap₂ (λ (x y : Digits). x ++ y) header_zeros (drop-drop 4 12 (bits_of sheet) ∙ rest_bits)))

  pub reading_stands : Sheet (width_field sheet) (rows_in sheet) sheet
  unfolding bytes_of size_of_sheet width_field
  reading_stands =
      let l = long in
      let k = length_cut (width_field sheet) (count_field sheet) (symbols_of (symbol_bits sheet)) in
      let v = value_below (take 5 (bits_of sheet)) in
      let t = length-take-le 5 (bits_of sheet) (omega arith) in
      let p : 2 ^ length (take 5 (bits_of sheet)) ≡ 32 = ap (λ k. 2 ^ k) t in
      let u = sheet_bits (width_field sheet) (rows_in sheet) in
      let s = length_sheet (width_field sheet) (rows_in sheet) even in
      let n = length_bytes ((length u + 7) / 8) u in
      let z = drop (2 * (count_field sheet * width_field sheet)) (drop 16 (bits_of sheet)) in
      let j : length (u ++ filled (length z) []) ≡ length u + length z = length-append u (filled (length z) []) ∙ ap (λ m. length u + m) (length_filled (length z) []) in
      let w = ap length whole in
      let c : size_of_sheet (width_field sheet) (length (rows_in sheet)) ≡ length sheet = ap (size_of_sheet (width_field sheet)) k ∙ sym size in
      let full : length u + length z ≡ 8 * length sheet = omega arith in
      let count : (length u + 7) / 8 ≡ length sheet = sym n ∙ s ∙ c in
      record {
        low = omega arith;
        high = omega arith;
        few = omega arith;
        even = even;
        same = sym (ap (λ m. bytes m u) count ∙ bytes_of_bits sheet u fit (whole ∙ sym (filled_more u (length z)) ∙ ap (λ m. filled m u) full));
      }
