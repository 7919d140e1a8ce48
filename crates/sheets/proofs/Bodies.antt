-- The codes in the bytes after the header, one by one.
use Rattle.std.proofs.Common.{◌≡◌, ℕ, zero, suc, ◌+◌, ◌-◌, ◌*◌, ◌/◌, ◌%◌, ◌^◌, ◌<◌, ◌≤◌, Bool, true, false, List, [], ◌∷◌, ◌++◌, length, get_or, take, drop, sym, refl, ap, ◌∙◌, arith}
use lib.Bits.{bit_and, and_mask}
use Rattle.std.proofs.lemmas.List.{drop-drop}
use Rattle.covers.specs.declared.symbol.Symbol.TheVariants.{Zero}
use Rattle.covers.specs.Digits.{Digits, digits, value}
use Rattle.sheets.specs.Reading.{bits_of, code_at, symbol_of, symbol_coded, symbols_of}
use Rattle.sheets.proofs.Values.{value_low, digits_split}
use Rattle.sheets.proofs.Codes.{twice_suc}

-- the bits from a byte on
pub bits_from : (sheet : List ℕ) (q : ℕ) → q < length sheet → drop (8 * q) (bits_of sheet) ≡ digits 8 (get_or sheet q 0) ++ bits_of (drop (q + 1) sheet)
unfolding bits_of
bits_from [] q h = absurd (omega arith)
bits_from (b ∷ sheet) zero h = refl
bits_from (b ∷ sheet) (suc q) h =
    let e : 8 * suc q ≡ 8 + 8 * q = omega arith in
    let s : suc q + 1 ≡ suc (q + 1) = omega arith in
    ap (λ k. drop k (bits_of (b ∷ sheet))) e ∙ sym (drop-drop (8 * q) 8 (bits_of (b ∷ sheet))) ∙ bits_from sheet q (omega arith) ∙
    ap (λ k. digits 8 (get_or sheet q 0) ++ bits_of (drop k (b ∷ sheet))) (sym s)

-- the four codes of a byte
code_shift : (b : ℕ) (rest : Digits) (r : ℕ) → r < 4 → value (take 2 (drop (2 * r) (digits 8 b ++ rest))) ≡ b / 2 ^ (6 - 2 * r) % 4
code_shift b rest zero h = ap value (ap (take 2) (digits_split 2 6 b)) ∙ value_low 2 (b / 64)
code_shift b rest (suc zero) h = ap value (ap (take 2) (digits_split 2 4 b)) ∙ value_low 2 (b / 16)
code_shift b rest (suc (suc zero)) h = ap value (ap (take 2) (digits_split 2 2 b)) ∙ value_low 2 (b / 4)
code_shift b rest (suc (suc (suc zero))) h = ap value (ap (take 2) (digits_split 2 0 b)) ∙ value_low 2 (b / 1)
code_shift b rest (suc (suc (suc (suc r)))) h = absurd (omega arith)

pub code_in_byte : (sheet : List ℕ) (i : ℕ) → i / 4 < length sheet → code_at (bits_of sheet) i ≡ bit_and (get_or sheet (i / 4) 0 / 2 ^ (6 - 2 * (i % 4))) 3
unfolding code_at
code_in_byte sheet i h =
    let b = get_or sheet (i / 4) 0 in
    let e : 2 * i ≡ 8 * (i / 4) + 2 * (i % 4) = omega arith in
    ap (λ u. value (take 2 u)) (
    ap (λ k. drop k (bits_of sheet)) e ∙ sym (drop-drop (2 * (i % 4)) (8 * (i / 4)) (bits_of sheet)) ∙ ap (drop (2 * (i % 4))) (bits_from sheet (i / 4) h)) ∙
    code_shift b (bits_of (drop (i / 4 + 1) sheet)) (i % 4) (omega arith) ∙ sym (and_mask (b / 2 ^ (6 - 2 * (i % 4))) 2)

-- two more bits
pub record Two (u : Digits) (j : ℕ) : Type 0 where
  pub high : Bool
  pub low : Bool
  pub bits : drop (2 * j) u ≡ high ∷ (low ∷ drop (2 * (j + 1)) u)
  pub number : code_at u j ≡ value (high ∷ (low ∷ []))

pub two_more : (u : Digits) (j : ℕ) → 2 * j + 2 ≤ length u → Two u j
unfolding code_at
two_more [] j h = absurd (omega arith)
two_more (x ∷ []) j h = absurd (omega arith)
two_more (x ∷ (y ∷ u)) zero h = record { high = x; low = y; bits = refl; number = refl }
two_more (x ∷ (y ∷ u)) (suc j) h =
    let e = twice_suc j in
    let f : 2 * (suc j + 1) ≡ suc (suc (2 * (j + 1))) = omega arith in
    let t = two_more u j (omega arith) in
    record {
      high = t.high;
      low = t.low;
      bits = ap (λ k. drop k (x ∷ (y ∷ u))) e ∙ t.bits ∙ ap (λ k. t.high ∷ (t.low ∷ drop k (x ∷ (y ∷ u)))) (sym f);
      number = ap (λ k. value (take 2 (drop k (x ∷ (y ∷ u))))) e ∙ t.number;
    }

-- the symbol of a code
symbol_number : (x y : Bool) → symbol_of x y ≡ symbol_coded (value (x ∷ (y ∷ [])))
unfolding value
symbol_number false false = refl
symbol_number false true = refl
symbol_number true false = refl
symbol_number true true = refl

pub symbol_there : (u : Digits) (j : ℕ) → 2 * j + 2 ≤ length u → get_or (symbols_of u) j Zero ≡ symbol_coded (code_at u j)
unfolding code_at
symbol_there [] j h = absurd (omega arith)
symbol_there (x ∷ []) j h = absurd (omega arith)
symbol_there (x ∷ (y ∷ u)) zero h = symbol_number x y
symbol_there (x ∷ (y ∷ u)) (suc j) h = symbol_there u j (let e = twice_suc j in omega arith) ∙ ap (λ k. symbol_coded (value (take 2 (drop k (x ∷ (y ∷ u)))))) (sym (twice_suc j))

pub symbols_enough : (u : Digits) (j : ℕ) → 2 * j ≤ length u → j ≤ length (symbols_of u)
symbols_enough u zero h = omega arith
symbols_enough [] (suc j) h = absurd (let e = twice_suc j in omega arith)
symbols_enough (x ∷ []) (suc j) h = absurd (let e = twice_suc j in omega arith)
symbols_enough (x ∷ (y ∷ u)) (suc j) h = let k = symbols_enough u j (let e = twice_suc j in omega arith) in omega arith
