-- The two bytes of the header, in numbers.
use Rattle.std.proofs.Common.{◌≡◌, ℕ, ◌+◌, ◌-◌, ◌*◌, ◌/◌, ◌%◌, ◌^◌, ◌<◌, ◌≤◌, eqb, List, ◌∷◌, ◌++◌, length, take, drop, refl, ap, ◌∙◌, ap₂, arith}
use Rattle.std.specs.List.{flat_map}
use Rattle.covers.specs.Digits.{Digits, digits, value, all_zeros}
use Rattle.covers.specs.Symbols.{Symbols}
use Rattle.covers.proofs.Numbers.{value_digits}
use Rattle.sheets.specs.Format.{code, all_symbols, sheet_bits, filled}
use Rattle.sheets.specs.Reading.{bits_of, width_field, count_field}
use Rattle.sheets.proofs.Values.{value_append, value_low, digits_split, zeros_value}

-- what is written
module _ (width : ℕ) (rows : List Symbols) (wide : width ≤ 32) (few : length rows ≤ 120) where
  pub first_byte : value (filled 8 (sheet_bits width rows)) ≡ (width - 1) * 8 + length rows / 16
  unfolding sheet_bits
  first_byte =
      ap (λ u. value (filled 8 (digits 5 (width - 1) ++ (u ++ (digits 4 0 ++ flat_map code (all_symbols rows)))))) (digits_split 3 4 (length rows)) ∙
      value_append (digits 5 (width - 1)) (digits 3 (length rows / 16)) ∙
      ap₂ (λ (a b : ℕ). a * 8 + b) (value_digits 5 (width - 1) (omega arith)) (value_digits 3 (length rows / 16) (omega arith))

  pub second_byte : value (filled 8 (drop 8 (sheet_bits width rows))) ≡ length rows % 16 * 16
  unfolding sheet_bits
  second_byte =
      ap (λ u. value (filled 8 (drop 8 (digits 5 (width - 1) ++ (u ++ (digits 4 0 ++ flat_map code (all_symbols rows))))))) (digits_split 3 4 (length rows)) ∙
      value_append (digits 4 (length rows)) (digits 4 0) ∙
      (let a = value_low 4 (length rows) in let b = value_digits 4 0 (omega arith) in omega arith)

  pub after_header : drop 16 (sheet_bits width rows) ≡ flat_map code (all_symbols rows)
  unfolding sheet_bits
  after_header = refl

-- what is read
module _ (first second : ℕ) (rest : List ℕ) (fits : first < 256) (also : second < 256) where
  pub width_is : width_field (first ∷ (second ∷ rest)) ≡ first / 8 + 1
  unfolding width_field bits_of
  width_is = ap (λ u. value (take 5 (u ++ (digits 8 second ++ bits_of rest))) + 1) (digits_split 5 3 first) ∙ ap (λ k. k + 1) (value_digits 5 (first / 8) (omega arith))

  pub count_is : count_field (first ∷ (second ∷ rest)) ≡ first % 8 * 16 + second / 16
  unfolding count_field bits_of
  count_is =
      ap₂ (λ (u v : Digits). value (take 7 (drop 5 (u ++ (v ++ bits_of rest))))) (digits_split 5 3 first) (digits_split 4 4 second) ∙
      value_append (digits 3 first) (digits 4 (second / 16)) ∙
      ap₂ (λ (a b : ℕ). a * 16 + b) (value_low 3 first) (value_digits 4 (second / 16) (omega arith))

  pub zeros_are : take 4 (drop 12 (bits_of (first ∷ (second ∷ rest)))) ≡ digits 4 second
  unfolding bits_of
  zeros_are = refl

  pub rest_is : drop 16 (bits_of (first ∷ (second ∷ rest))) ≡ bits_of rest
  unfolding bits_of
  rest_is = refl

pub zeros_low : (n x : ℕ) → all_zeros (digits n x) ≡ eqb (x % 2 ^ n) 0
zeros_low n x = zeros_value (digits n x) ∙ ap (λ k. eqb k 0) (value_low n x)
