-- Digits and numbers: there and back, the order, one higher and one lower.
use Rattle.std.proofs.Common.{◌≡◌, ℕ, zero, suc, ◌+◌, ◌-◌, ◌/◌, ◌%◌, ◌^◌, ◌<◌, ◌≤◌, Bool, true, false, not, ◌&&◌, eqb, leb, [], ◌∷◌, length, sym, refl, ap, ◌∙◌, ap₂, mod-lt, mod-eq_of_lt, zero-add, add-one, arith, pow_pos}
use native.Mathlib.Nat.{mod-eq-sub-mod}
use lib.Pow.{mod-mod-pow}
use Rattle.std.proofs.lemmas.Nat.{field_of, div_below, le-div}
use Rattle.std.proofs.lemmas.List.{length-map}
use Rattle.std.proofs.lemmas.Bool.{both_ways, false≢true, true≢false, leb-true, leb-false, le-leb, lt-leb}
use Rattle.covers.specs.Digits.{Digits, digit, digits, value, leq, all_ones, all_zeros, next, mirror}
use Rattle.covers.proofs.Witnesses.{Same, previous}
use Rattle.covers.proofs.Order.{same_next, ones_mirror}

twice : (x : Bool) (u : Digits) → 2 ^ length (x ∷ u) ≡ 2 ^ length u + 2 ^ length u
twice x u = let k = length u in let h : 2 ^ suc (length u) ≡ 2 ^ length u + 2 ^ length u = omega arith in h

pub value_below : (u : Digits) → value u < 2 ^ length u
unfolding value
value_below [] = omega arith
value_below (false ∷ u) = let h = value_below u in let t = twice false u in omega arith
value_below (true ∷ u) = let h = value_below u in let t = twice true u in omega arith

pub same_length : (u v : Digits) → Same u v → length u ≡ length v
same_length [] [] s = refl
same_length [] (y ∷ v) s = absurd s
same_length (x ∷ u) [] s = absurd s
same_length (x ∷ u) (y ∷ v) s = ap suc (same_length u v s)

pub leq_le : (u v : Digits) → Same u v → leq u v ≡ true → value u ≤ value v
unfolding value
leq_le [] v s h = omega arith
leq_le (x ∷ u) [] s h = absurd s
leq_le (false ∷ u) (false ∷ v) s h = let k = leq_le u v s h in omega arith
leq_le (false ∷ u) (true ∷ v) s h = let k = value_below u in let e = same_length u v s in let p = ap (λ n. 2 ^ n) e in omega arith
leq_le (true ∷ u) (false ∷ v) s h = absurd (false≢true h)
leq_le (true ∷ u) (true ∷ v) s h = let k = leq_le u v s h in let p = ap (λ n. 2 ^ n) (same_length u v s) in omega arith

pub leq_lt : (u v : Digits) → Same u v → leq u v ≡ false → value v < value u
unfolding value
leq_lt [] v s h = absurd (true≢false h)
leq_lt (x ∷ u) [] s h = absurd s
leq_lt (false ∷ u) (false ∷ v) s h = let k = leq_lt u v s h in omega arith
leq_lt (false ∷ u) (true ∷ v) s h = absurd (true≢false h)
leq_lt (true ∷ u) (false ∷ v) s h = let k = value_below v in let p = ap (λ n. 2 ^ n) (same_length u v s) in omega arith
leq_lt (true ∷ u) (true ∷ v) s h = let k = leq_lt u v s h in let p = ap (λ n. 2 ^ n) (same_length u v s) in omega arith

pub length_digits : (m n : ℕ) → length (digits m n) ≡ m
length_digits zero n = refl
length_digits (suc m) n = ap suc (length_digits m n)

-- the digit at place p, and the last p digits, of a remainder
pub digit_low : (p j n : ℕ) → digit p (n % 2 ^ (suc j + p)) ≡ digit p n
digit_low p j n = ap (λ k. eqb (k % 2) 1) (field_of n (suc j) p) ∙ ap (λ k. eqb k 1) (rw (sym (add-one j)) (mod-mod-pow (n / 2 ^ p) j 1))

pub digits_low : (p j n : ℕ) → digits p (n % 2 ^ (j + p)) ≡ digits p n
digits_low zero j n = refl
digits_low (suc p) j n =
    let e : j + suc p ≡ suc j + p = omega arith in
    ap (λ k. digits (suc p) (n % 2 ^ k)) e ∙ ap₂ (λ (x : Bool) (u : Digits). x ∷ u) (digit_low p j n) (digits_low p (suc j) n)

pub digits_mod : (m n : ℕ) → digits m (n % 2 ^ m) ≡ digits m n
digits_mod m n = rw (zero-add m) at (digits_low m 0 n)

pub digit_high : (m n : ℕ) → n < 2 ^ suc m → digit m n ≡ leb (2 ^ m) n
digit_high m n h = go (leb (2 ^ m) n) refl
  where
    few : n / 2 ^ m < 2
    few = div_below n (2 ^ m) 2 (pow_pos m) (omega arith)

    go : (t : Bool) → leb (2 ^ m) n ≡ t → digit m n ≡ t
    go true e =
        let l = leb-true (2 ^ m) n e in
        let f = few in
        let one = le-div 1 n (2 ^ m) (pow_pos m) (omega arith) in
        let is : n / 2 ^ m ≡ 1 = omega arith in
        rw is
    go false e =
        let l = leb-false (2 ^ m) n e in
        let none = div_below n (2 ^ m) 1 (pow_pos m) (omega arith) in
        let is : n / 2 ^ m ≡ 0 = omega arith in
        rw is

-- the first digit and the rest
pub digits_step : (m n : ℕ) → n < 2 ^ suc m → digits (suc m) n ≡ leb (2 ^ m) n ∷ digits m (n % 2 ^ m)
digits_step m n h = ap₂ (λ (x : Bool) (u : Digits). x ∷ u) (digit_high m n h) (sym (digits_mod m n))

pub digits_0 : (m n : ℕ) → n < 2 ^ m → digits (suc m) n ≡ false ∷ digits m n
digits_0 m n h = digits_step m n (omega arith) ∙ rw (lt-leb (2 ^ m) n h, mod-eq_of_lt h)

pub digits_1 : (m n : ℕ) → n < 2 ^ m → digits (suc m) (2 ^ m + n) ≡ true ∷ digits m n
digits_1 m n h =
    let l : 2 ^ m ≤ 2 ^ m + n = omega arith in
    let d : 2 ^ m + n - 2 ^ m ≡ n = omega arith in
    digits_step m (2 ^ m + n) (omega arith) ∙ rw (le-leb (2 ^ m) (2 ^ m + n) l, mod-eq-sub-mod l, d, mod-eq_of_lt h)

pub value_digits : (m n : ℕ) → n < 2 ^ m → value (digits m n) ≡ n
unfolding value
value_digits zero n h = omega arith
value_digits (suc m) n h = ap value (digits_step m n h) ∙ go (leb (2 ^ m) n) refl (value_digits m (n % 2 ^ m) (mod-lt n (pow_pos m)))
  where
    go : (t : Bool) → leb (2 ^ m) n ≡ t → value (digits m (n % 2 ^ m)) ≡ n % 2 ^ m → value (t ∷ digits m (n % 2 ^ m)) ≡ n
    go true e ih =
        let l = leb-true (2 ^ m) n e in
        let d : n - 2 ^ m < 2 ^ m = omega arith in
        let r = mod-eq-sub-mod l ∙ mod-eq_of_lt d in
        let p = ap (λ k. 2 ^ k) (length_digits m (n % 2 ^ m)) in
        omega arith
    go false e ih =
        let l = leb-false (2 ^ m) n e in
        let r = mod-eq_of_lt l in
        omega arith

pub digits_value : (u : Digits) → digits (length u) (value u) ≡ u
unfolding value
digits_value [] = refl
digits_value (false ∷ u) = digits_0 (length u) (value u) (value_below u) ∙ ap (λ v. false ∷ v) (digits_value u)
digits_value (true ∷ u) = digits_1 (length u) (value u) (value_below u) ∙ ap (λ v. true ∷ v) (digits_value u)

pub same_digits : (m a b : ℕ) → Same (digits m a) (digits m b)
same_digits zero a b = tt
same_digits (suc m) a b = same_digits m a b

pub of_value : (m n : ℕ) (u : Digits) → Same (digits m n) u → digits m (value u) ≡ u
of_value m n u s = ap (λ k. digits k (value u)) (sym (length_digits m n) ∙ same_length (digits m n) u s) ∙ digits_value u

pub value_fits : (m n : ℕ) (u : Digits) → Same (digits m n) u → value u < 2 ^ m
value_fits m n u s = let b = value_below u in let p = ap (λ k. 2 ^ k) (sym (length_digits m n) ∙ same_length (digits m n) u s) in omega arith

-- the order of digits is that of numbers
module _ (m a b : ℕ) (ha : a < 2 ^ m) (hb : b < 2 ^ m) where
  pub digits_le : leq (digits m a) (digits m b) ≡ true → a ≤ b
  digits_le h = let k = leq_le (digits m a) (digits m b) (same_digits m a b) h in let p = value_digits m a ha in let q = value_digits m b hb in omega arith

  pub digits_lt : leq (digits m a) (digits m b) ≡ false → b < a
  digits_lt h = let k = leq_lt (digits m a) (digits m b) (same_digits m a b) h in let p = value_digits m a ha in let q = value_digits m b hb in omega arith

  pub le_digits : a ≤ b → leq (digits m a) (digits m b) ≡ true
  le_digits h = go (leq (digits m a) (digits m b)) refl
    where
      go : (t : Bool) → leq (digits m a) (digits m b) ≡ t → leq (digits m a) (digits m b) ≡ true
      go true e = e
      go false e = let k = digits_lt e in let z : ⊥ = omega arith in absurd z

  pub lt_digits : b < a → leq (digits m a) (digits m b) ≡ false
  lt_digits h = go (leq (digits m a) (digits m b)) refl
    where
      go : (t : Bool) → leq (digits m a) (digits m b) ≡ t → leq (digits m a) (digits m b) ≡ false
      go false e = e
      go true e = let k = digits_le e in let z : ⊥ = omega arith in absurd z

-- one higher, one lower
pub ones_value : (b : Digits) → all_ones b ≡ true → value b + 1 ≡ 2 ^ length b
unfolding value
ones_value [] o = refl
ones_value (false ∷ b) o = absurd (false≢true o)
ones_value (true ∷ b) o = let h = ones_value b o in let t = twice true b in omega arith

pub mirror_value : (u : Digits) → value (mirror u) + value u + 1 ≡ 2 ^ length u
unfolding value
mirror_value [] = refl
mirror_value (false ∷ u) = let h = mirror_value u in let p = ap (λ k. 2 ^ k) (length-map u not) in let t = twice false u in omega arith
mirror_value (true ∷ u) = let h = mirror_value u in let t = twice true u in omega arith

pub next_value : (b : Digits) → all_ones b ≡ false → value (next b) ≡ value b + 1
unfolding value
next_value [] o = absurd (true≢false o)
next_value (x ∷ b) o = go x o (all_ones b) refl (λ k. next_value b k)
  where
    go : (x : Bool) → x && all_ones b ≡ false → (t : Bool) → all_ones b ≡ t → (all_ones b ≡ false → value (next b) ≡ value b + 1) → value (next (x ∷ b)) ≡ value (x ∷ b) + 1
    go true o true e ih = absurd (both_ways (all_ones b) o e)
    go false o true e ih = rw e (let h = ones_value b e in let k = mirror_value b in let p = ap (λ k. 2 ^ k) (length-map b not) in omega arith)
    go false o false e ih = rw e (ih e)
    go true o false e ih = rw e (let h = ih e in let p = ap (λ k. 2 ^ k) (same_length b (next b) (same_next b)) in omega arith)

pub previous_value : (a : Digits) → all_zeros a ≡ false → value (previous a) + 1 ≡ value a
previous_value a z =
    let o : all_ones (mirror a) ≡ false = ones_mirror a ∙ z in
    let h1 = next_value (mirror a) o in
    let h2 = mirror_value (next (mirror a)) in
    let h3 = mirror_value a in
    let p = ap (λ k. 2 ^ k) (sym (length-map a not) ∙ same_length (mirror a) (next (mirror a)) (same_next (mirror a))) in
    omega arith

-- the order of digits as a test of numbers
pub leq_digits : (m a b : ℕ) → a < 2 ^ m → b < 2 ^ m → leq (digits m a) (digits m b) ≡ leb a b
leq_digits m a b ha hb = go (leb a b) refl
  where
    go : (t : Bool) → leb a b ≡ t → leq (digits m a) (digits m b) ≡ t
    go true e = le_digits m a b ha hb (leb-true a b e)
    go false e = lt_digits m a b ha hb (leb-false a b e)
