-- Rows as words: there and back, and what a row takes, by a mask.
use Rattle.std.proofs.Common.{◌≡◌, ℕ, zero, suc, ◌+◌, ◌*◌, ◌/◌, ◌%◌, ◌^◌, ◌<◌, Bool, true, false, cond, ◌&&◌, eqb, [], ◌∷◌, map, length, sym, refl, ap, ◌∙◌, ap₂, le_of_suc-le-suc, not-suc-le-zero, mod-lt, zero-lt-suc, arith}
use lib.Bits.{bit_and, and_shr, and_mod, and_block, and_le_r}
use Rattle.std.proofs.lemmas.List.{length-map}
use Rattle.std.proofs.lemmas.Bool.{both_ways, eq-eqb, ne_eqb}
use Rattle.covers.specs.declared.symbol.Symbol.{Symbol}
use Rattle.covers.specs.declared.symbol.Symbol.TheVariants.{Zero, One, Dash}
use Rattle.covers.specs.Digits.{Digits, digit, digits, value}
use Rattle.covers.specs.Symbols.{Symbols, takes}
use Rattle.covers.specs.Words.{value_word, care_word, symbol_at, symbols}
use Rattle.covers.proofs.Witnesses.{Same}
use Rattle.covers.proofs.Numbers.{value_below, value_digits, digits_value, same_digits}

-- the digits of both words, place by place
abbrev value_digit : Symbol → Bool
value_digit Zero = false
value_digit One = true
value_digit Dash = false

abbrev care_digit : Symbol → Bool
care_digit Zero = true
care_digit One = true
care_digit Dash = false

abbrev symbol_of : Bool → Bool → Symbol
symbol_of v c = cond c (cond v One Zero) Dash

abbrev paired : Digits → Digits → Symbols
paired [] c = []
paired (x ∷ v) [] = []
paired (x ∷ v) (y ∷ c) = symbol_of x y ∷ paired v c

value_digits_of : (r : Symbols) → value_word r ≡ value (map value_digit r)
unfolding value
value_digits_of [] = refl
value_digits_of (Zero ∷ r) = value_digits_of r
value_digits_of (One ∷ r) = ap₂ (λ j k. 2 ^ j + k) (sym (length-map r value_digit)) (value_digits_of r)
value_digits_of (Dash ∷ r) = value_digits_of r

care_digits_of : (r : Symbols) → care_word r ≡ value (map care_digit r)
unfolding value
care_digits_of [] = refl
care_digits_of (Zero ∷ r) = ap₂ (λ j k. 2 ^ j + k) (sym (length-map r care_digit)) (care_digits_of r)
care_digits_of (One ∷ r) = ap₂ (λ j k. 2 ^ j + k) (sym (length-map r care_digit)) (care_digits_of r)
care_digits_of (Dash ∷ r) = care_digits_of r

symbols_paired : (n v c : ℕ) → symbols n v c ≡ paired (digits n v) (digits n c)
symbols_paired zero v c = refl
symbols_paired (suc m) v c = ap (λ r. symbol_at v c m ∷ r) (symbols_paired m v c)

paired_back : (r : Symbols) → paired (map value_digit r) (map care_digit r) ≡ r
paired_back [] = refl
paired_back (Zero ∷ r) = ap (λ q. Zero ∷ q) (paired_back r)
paired_back (One ∷ r) = ap (λ q. One ∷ q) (paired_back r)
paired_back (Dash ∷ r) = ap (λ q. Dash ∷ q) (paired_back r)

digits_of : (f : Symbol → Bool) (r : Symbols) (w : ℕ) → w ≡ value (map f r) → digits (length r) w ≡ map f r
digits_of f r w e = ap₂ digits (sym (length-map r f)) e ∙ digits_value (map f r)

pub symbols_back : (r : Symbols) → symbols (length r) (value_word r) (care_word r) ≡ r
symbols_back r =
    symbols_paired (length r) (value_word r) (care_word r) ∙
    ap₂ paired (digits_of value_digit r (value_word r) (value_digits_of r)) (digits_of care_digit r (care_word r) (care_digits_of r)) ∙ paired_back r

pub value_word_fits : (r : Symbols) → value_word r < 2 ^ length r
value_word_fits r =
    let h = value_below (map value_digit r) in
    let e = value_digits_of r in
    let p = ap (λ k. 2 ^ k) (length-map r value_digit) in
    omega arith

pub care_word_fits : (r : Symbols) → care_word r < 2 ^ length r
care_word_fits r =
    let h = value_below (map care_digit r) in
    let e = care_digits_of r in
    let p = ap (λ k. 2 ^ k) (length-map r care_digit) in
    omega arith

-- the digits of a masked number
and_of_bits : (a b : ℕ) → a < 2 → b < 2 → eqb (bit_and a b) 1 ≡ (eqb a 1 && eqb b 1)
and_of_bits zero b ha hb = refl
and_of_bits (suc zero) zero ha hb = refl
and_of_bits (suc zero) (suc zero) ha hb = refl
and_of_bits (suc zero) (suc (suc b)) ha hb = absurd (not-suc-le-zero (le_of_suc-le-suc (le_of_suc-le-suc hb)))
and_of_bits (suc (suc a)) b ha hb = absurd (not-suc-le-zero (le_of_suc-le-suc (le_of_suc-le-suc ha)))

pub digit_and : (p x y : ℕ) → digit p (bit_and x y) ≡ (digit p x && digit p y)
digit_and p x y =
    ap (λ k. eqb (k % 2) 1) (and_shr x y p) ∙ ap (λ k. eqb k 1) (and_mod (x / 2 ^ p) (y / 2 ^ p) 1) ∙
    and_of_bits (x / 2 ^ p % 2) (y / 2 ^ p % 2) (mod-lt (x / 2 ^ p) (zero-lt-suc 1)) (mod-lt (y / 2 ^ p) (zero-lt-suc 1))

-- the digits that are 1 in both
abbrev pub both : Digits → Digits → Digits
both [] v = []
both (x ∷ u) [] = []
both (x ∷ u) (y ∷ v) = (x && y) ∷ both u v

pub digits_and : (n x y : ℕ) → digits n (bit_and x y) ≡ both (digits n x) (digits n y)
digits_and zero x y = refl
digits_and (suc m) x y = ap₂ (λ (t : Bool) (u : Digits). t ∷ u) (digit_and m x y) (digits_and m x y)

-- numbers of the width are equal where their digits are
abbrev alike : Digits → Digits → Bool
alike [] v = true
alike (x ∷ u) [] = false
alike (true ∷ u) (true ∷ v) = alike u v
alike (false ∷ u) (false ∷ v) = alike u v
alike (true ∷ u) (false ∷ v) = false
alike (false ∷ u) (true ∷ v) = false

alike_self : (u : Digits) → alike u u ≡ true
alike_self [] = refl
alike_self (true ∷ u) = alike_self u
alike_self (false ∷ u) = alike_self u

alike_same : (u v : Digits) → Same u v → alike u v ≡ true → u ≡ v
alike_same [] [] s h = refl
alike_same [] (y ∷ v) s h = absurd s
alike_same (x ∷ u) [] s h = absurd s
alike_same (true ∷ u) (true ∷ v) s h = ap (λ w. true ∷ w) (alike_same u v s h)
alike_same (false ∷ u) (false ∷ v) s h = ap (λ w. false ∷ w) (alike_same u v s h)
alike_same (true ∷ u) (false ∷ v) s h = absurd (both_ways false refl h)
alike_same (false ∷ u) (true ∷ v) s h = absurd (both_ways false refl h)

eqb_alike : (n a b : ℕ) → a < 2 ^ n → b < 2 ^ n → eqb a b ≡ alike (digits n a) (digits n b)
eqb_alike n a b ha hb = go (alike (digits n a) (digits n b)) refl
  where
    go : (t : Bool) → alike (digits n a) (digits n b) ≡ t → eqb a b ≡ t
    go true e = eq-eqb a b (sym (value_digits n a ha) ∙ ap value (alike_same (digits n a) (digits n b) (same_digits n a b) e) ∙ value_digits n b hb)
    go false e = ne_eqb a b (λ k. both_ways (alike (digits n a) (digits n b)) e (ap (λ x. alike (digits n x) (digits n b)) k ∙ alike_self (digits n b)))

-- a row takes what agrees with its value under its care mask
paired_takes : (v c u : Digits) → Same v c → Same v u → both v c ≡ v → takes (paired v c) u ≡ alike (both u c) v
paired_takes [] [] [] s t e = refl
paired_takes [] [] (z ∷ u) s t e = absurd t
paired_takes [] (y ∷ c) u s t e = absurd s
paired_takes (x ∷ v) [] u s t e = absurd s
paired_takes (x ∷ v) (y ∷ c) [] s t e = absurd t
paired_takes (x ∷ v) (y ∷ c) (z ∷ u) s t e = go x y z (head e) (paired_takes v c u s t (tail e))
  where
    head : (x && y) ∷ both v c ≡ x ∷ v → (x && y) ≡ x
    head k = cc

    tail : (x && y) ∷ both v c ≡ x ∷ v → both v c ≡ v
    tail k = cc

    go : (x y z : Bool) → (x && y) ≡ x → takes (paired v c) u ≡ alike (both u c) v → takes (symbol_of x y ∷ paired v c) (z ∷ u) ≡ alike ((z && y) ∷ both u c) (x ∷ v)
    go true true true k ih = ih
    go true true false k ih = refl
    go false true true k ih = refl
    go false true false k ih = ih
    go true false z k ih = absurd (both_ways true (sym k) refl)
    go false false true k ih = ih
    go false false false k ih = ih

pub words_take : (n v c x : ℕ) → v < 2 ^ n → c < 2 ^ n → bit_and v c ≡ v → takes (symbols n v c) (digits n x) ≡ eqb (bit_and x c) v
words_take n v c x hv hc clean =
    let m : bit_and x c < 2 ^ n = let l = and_le_r x c in omega arith in
    ap (λ r. takes r (digits n x)) (symbols_paired n v c) ∙
    paired_takes (digits n v) (digits n c) (digits n x) (same_digits n v c) (same_digits n v x) (sym (digits_and n v c) ∙ ap (digits n) clean) ∙
    ap (λ u. alike u (digits n v)) (sym (digits_and n x c)) ∙ sym (eqb_alike n (bit_and x c) v m hv)

-- the words of symbols that were read from words
pub words_back : (n v c : ℕ) → v < 2 ^ n → c < 2 ^ n → bit_and v c ≡ v → (value_word (symbols n v c) ≡ v) × (care_word (symbols n v c) ≡ c)
words_back n v c hv hc clean = (
  value_digits_of (symbols n v c) ∙ ap (λ r. value (map value_digit r)) (symbols_paired n v c) ∙
      ap value (paired_values (digits n v) (digits n c) (same_digits n v c) (sym (digits_and n v c) ∙ ap (digits n) clean)) ∙ value_digits n v hv,
  care_digits_of (symbols n v c) ∙ ap (λ r. value (map care_digit r)) (symbols_paired n v c) ∙
      ap value (paired_cares (digits n v) (digits n c) (same_digits n v c)) ∙ value_digits n c hc,
)
  where
    cares_one : (x y : Bool) → care_digit (symbol_of x y) ≡ y
    cares_one true true = refl
    cares_one false true = refl
    cares_one x false = refl

    paired_cares : (v c : Digits) → Same v c → map care_digit (paired v c) ≡ c
    paired_cares [] [] s = refl
    paired_cares [] (y ∷ c) s = absurd s
    paired_cares (x ∷ v) [] s = absurd s
    paired_cares (x ∷ v) (y ∷ c) s = ap₂ (λ (t : Bool) (u : Digits). t ∷ u) (cares_one x y) (paired_cares v c s)

    values_one : (x y : Bool) → value_digit (symbol_of x y) ≡ (x && y)
    values_one true true = refl
    values_one false true = refl
    values_one true false = refl
    values_one false false = refl

    paired_both : (v c : Digits) → Same v c → map value_digit (paired v c) ≡ both v c
    paired_both [] [] s = refl
    paired_both [] (y ∷ c) s = absurd s
    paired_both (x ∷ v) [] s = absurd s
    paired_both (x ∷ v) (y ∷ c) s = ap₂ (λ (t : Bool) (u : Digits). t ∷ u) (values_one x y) (paired_both v c s)

    paired_values : (v c : Digits) → Same v c → both v c ≡ v → map value_digit (paired v c) ≡ v
    paired_values v c s e = paired_both v c s ∙ e

-- the value has no 1 where the row does not care
clean_one : (k x y v c : ℕ) → v < 2 ^ k → c < 2 ^ k → bit_and x y ≡ x → bit_and v c ≡ v → bit_and (x * 2 ^ k + v) (y * 2 ^ k + c) ≡ x * 2 ^ k + v
clean_one k x y v c hv hc e f = and_block k x y v c hv hc ∙ ap₂ (λ p q. p * 2 ^ k + q) e f

pub clean_word : (r : Symbols) → bit_and (value_word r) (care_word r) ≡ value_word r
clean_word [] = refl
clean_word (Zero ∷ r) =
    let k = length r in
    let none : value_word r ≡ 0 * 2 ^ length r + value_word r = omega arith in
    let one : 2 ^ length r + care_word r ≡ 1 * 2 ^ length r + care_word r = omega arith in
    ap₂ bit_and none one ∙ clean_one (length r) 0 1 (value_word r) (care_word r) (value_word_fits r) (care_word_fits r) refl (clean_word r) ∙ sym none
clean_word (One ∷ r) =
    let v : 2 ^ length r + value_word r ≡ 1 * 2 ^ length r + value_word r = omega arith in
    let c : 2 ^ length r + care_word r ≡ 1 * 2 ^ length r + care_word r = omega arith in
    ap₂ bit_and v c ∙ clean_one (length r) 1 1 (value_word r) (care_word r) (value_word_fits r) (care_word_fits r) refl (clean_word r) ∙ sym v
clean_word (Dash ∷ r) = clean_word r
