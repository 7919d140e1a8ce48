-- The digits of a number of which one digit was turned, and the lists of such numbers place by place.
use Rattle.std.proofs.Common.{◌≡◌, ℕ, zero, suc, ◌+◌, ◌-◌, ◌*◌, ◌/◌, ◌%◌, ◌^◌, ◌<◌, ◌≤◌, Bool, true, false, cond, eqb, ◌∷◌, ◌++◌, sym, refl, ap, ◌∙◌, inl, inr, mod-lt, add-mul, arith, pow_pos, pow-add}
use lib.Pow.{mod-mod-pow}
use lib.Arith.{digits_lt}
use Rattle.std.proofs.lemmas.Nat.{shr_split, shr-shr, shr_high, mod_low, mod-pow-add, shr_below, div_below}
use Rattle.std.proofs.lemmas.Bool.{cases_Bool, cases_lt, eqb-true, eqb-false}
use Rattle.covers.specs.Digits.{digit}
use Rattle.covers.specs.WitnessNumbers.{alike, turned, each_turned, one_turned, under, inner_numbers, parting_numbers, numbers_beside}
use Rattle.covers.proofs.Numbers.{digit_low}

-- the same before the last r digits, or at the last r
pub same_before : (r q x y : ℕ) → x / 2 ^ r ≡ y / 2 ^ r → r ≤ q → x / 2 ^ q ≡ y / 2 ^ q
same_before r q x y e h =
    let k : r + (q - r) ≡ q = omega arith in
    ap (λ j. x / 2 ^ j) (sym k) ∙ sym (shr-shr x r (q - r)) ∙ ap (λ j. j / 2 ^ (q - r)) e ∙ shr-shr y r (q - r) ∙ ap (λ j. y / 2 ^ j) k

pub same_high : (r q x y : ℕ) → x / 2 ^ r ≡ y / 2 ^ r → r ≤ q → digit q x ≡ digit q y
same_high r q x y e h = ap (λ k. eqb (k % 2) 1) (same_before r q x y e h)

pub same_low : (r q x y : ℕ) → x % 2 ^ r ≡ y % 2 ^ r → q < r → digit q x ≡ digit q y
same_low r q x y e h =
    let k : suc (r - q - 1) + q ≡ r = omega arith in
    sym (digit_low q (r - q - 1) x) ∙ ap (λ j. digit q (x % 2 ^ j)) k ∙ ap (digit q) e ∙ sym (ap (λ j. digit q (y % 2 ^ j)) k) ∙ digit_low q (r - q - 1) y

-- fewer of the last digits
pub low_low : (r p x y : ℕ) → x % 2 ^ p ≡ y % 2 ^ p → r ≤ p → x % 2 ^ r ≡ y % 2 ^ r
low_low r p x y e h =
    let k : p - r + r ≡ p = omega arith in
    sym (mod-mod-pow x (p - r) r) ∙ ap (λ j. x % 2 ^ j % 2 ^ r) k ∙ ap (λ j. j % 2 ^ r) e ∙ sym (ap (λ j. y % 2 ^ j % 2 ^ r) k) ∙ mod-mod-pow y (p - r) r

digit_is_1 : (p x : ℕ) → digit p x ≡ true → x / 2 ^ p % 2 ≡ 1
digit_is_1 p x e = eqb-true (x / 2 ^ p % 2) 1 e

digit_is_0 : (p x : ℕ) → digit p x ≡ false → x / 2 ^ p % 2 ≡ 0
digit_is_0 p x e = let k = eqb-false (x / 2 ^ p % 2) 1 e in omega arith

-- the last p + 1 digits: the first of them and the rest
pub digit_split : (p x : ℕ) → x % 2 ^ suc p ≡ cond (digit p x) (2 ^ p) 0 + x % 2 ^ p
digit_split p x = elim (cases_Bool (digit p x)) [
  | inl e ↦ rw e (let k = digit_is_1 p x e in step ∙ ap (λ j. j * 2 ^ p + x % 2 ^ p) k ∙ omega arith)
  | inr e ↦ rw e (let k = digit_is_0 p x e in step ∙ ap (λ j. j * 2 ^ p + x % 2 ^ p) k ∙ omega arith)
]
  where
    step : x % 2 ^ suc p ≡ x / 2 ^ p % 2 * 2 ^ p + x % 2 ^ p
    step = let s : suc p ≡ 1 + p = omega arith in ap (λ j. x % 2 ^ j) s ∙ mod-pow-add x 1 p

pub digit_0 : (p x : ℕ) → x % 2 ^ suc p < 2 ^ p → (digit p x ≡ false) × (x % 2 ^ p ≡ x % 2 ^ suc p)
digit_0 p x h = go (digit p x) refl
  where
    go : (t : Bool) → digit p x ≡ t → (digit p x ≡ false) × (x % 2 ^ p ≡ x % 2 ^ suc p)
    go false e = (e, let s = rw e at (digit_split p x) in omega arith)
    go true e = let s = rw e at (digit_split p x) in let z : ⊥ = omega arith in absurd z

pub digit_1 : (p x : ℕ) → 2 ^ p ≤ x % 2 ^ suc p → (digit p x ≡ true) × (x % 2 ^ p ≡ x % 2 ^ suc p - 2 ^ p)
digit_1 p x h = go (digit p x) refl
  where
    go : (t : Bool) → digit p x ≡ t → (digit p x ≡ true) × (x % 2 ^ p ≡ x % 2 ^ suc p - 2 ^ p)
    go true e = (e, let s = rw e at (digit_split p x) in omega arith)
    go false e = let s = rw e at (digit_split p x) in let m = mod-lt x (pow_pos p) in let z : ⊥ = omega arith in absurd z

-- what stands before a digit, with it and without
pub digit_head : (p x : ℕ) → x / 2 ^ p ≡ x / 2 ^ suc p * 2 + cond (digit p x) 1 0
digit_head p x = elim (cases_Bool (digit p x)) [
  | inl e ↦ rw e (let k = digit_is_1 p x e in let h = halved in omega arith)
  | inr e ↦ rw e (let k = digit_is_0 p x e in let h = halved in omega arith)
]
  where
    halved : x / 2 ^ p / 2 ≡ x / 2 ^ suc p
    halved = let s : p + 1 ≡ suc p = omega arith in shr-shr x p 1 ∙ ap (λ j. x / 2 ^ j) s

-- raised and lowered
pub raised_is : (p x : ℕ) → digit p x ≡ false → turned p x ≡ x + 2 ^ p
raised_is p x e = rw e

pub lowered_is : (p x : ℕ) → digit p x ≡ true → turned p x + 2 ^ p ≡ x
lowered_is p x e =
    let s = rw e at (digit_split p x) in
    let h = shr_split x (suc p) in
    let t : turned p x ≡ x - 2 ^ p = rw e in
    omega arith

-- what stands before the turned digit, and behind it
record Around (p x : ℕ) : Type 0 where
  top : ℕ
  is : turned p x ≡ top * 2 ^ p + x % 2 ^ p
  half : top / 2 ≡ x / 2 ^ p / 2

around : (p x : ℕ) → Around p x
around p x = go (digit p x) refl
  where
    go : (t : Bool) → digit p x ≡ t → Around p x
    go false e =
        let k = digit_is_0 p x e in
        let s = shr_split x p in
        let t = raised_is p x e in
        let m = add-mul (x / 2 ^ p) 1 (2 ^ p) in
        record { top = x / 2 ^ p + 1; is = omega arith; half = omega arith }
    go true e =
        let k = digit_is_1 p x e in
        let s = shr_split x p in
        let t = lowered_is p x e in
        let one : x / 2 ^ p - 1 + 1 ≡ x / 2 ^ p = omega arith in
        let m = add-mul (x / 2 ^ p - 1) 1 (2 ^ p) in
        let n = ap (λ j. j * 2 ^ p) one in
        record { top = x / 2 ^ p - 1; is = omega arith; half = omega arith }

turned_low : (p x : ℕ) → turned p x % 2 ^ p ≡ x % 2 ^ p
turned_low p x = let a = around p x in ap (λ k. k % 2 ^ p) a.is ∙ mod_low a.top p (x % 2 ^ p) (mod-lt x (pow_pos p))

turned_high : (p x : ℕ) → turned p x / 2 ^ suc p ≡ x / 2 ^ suc p
turned_high p x =
    let a = around p x in
    let s : suc p ≡ p + 1 = omega arith in
    ap (λ k. turned p x / 2 ^ k) s ∙ sym (shr-shr (turned p x) p 1) ∙
    ap (λ k. k / 2) (ap (λ k. k / 2 ^ p) a.is ∙ shr_high a.top p (x % 2 ^ p) (mod-lt x (pow_pos p))) ∙ a.half ∙ shr-shr x p 1 ∙ ap (λ k. x / 2 ^ k) (sym s)

pub turned_before : (p r x : ℕ) → p < r → turned p x / 2 ^ r ≡ x / 2 ^ r
turned_before p r x h = same_before (suc p) r (turned p x) x (turned_high p x) h

pub turned_behind : (p r x : ℕ) → r ≤ p → turned p x % 2 ^ r ≡ x % 2 ^ r
turned_behind p r x h = low_low r p (turned p x) x (turned_low p x) h

-- the other digits stay
pub unturned : (p q x : ℕ) → (q ≡ p → ⊥) → digit q (turned p x) ≡ digit q x
unturned p q x ne = elim (cases_lt q p) [
  | inl h ↦ same_low p q (turned p x) x (turned_low p x) h
  | inr h ↦ same_high (suc p) q (turned p x) x (turned_high p x) (omega arith)
]

-- raised, it is not lower by its last digits
pub raised_least : (p r x : ℕ) → digit p x ≡ false → x % 2 ^ r ≤ turned p x % 2 ^ r
raised_least p r x e = elim (cases_lt p r) [
  | inl h ↦
      let s = shr_split x r in
      let t = shr_split (turned p x) r in
      let k = ap (λ j. j * 2 ^ r) (turned_before p r x h) in
      let i = raised_is p x e in
      omega arith
  | inr h ↦ let k = turned_behind p r x h in omega arith
]

-- a number with other digits at the last places still fits
pub fits_anyway : (n r x low : ℕ) → x < 2 ^ n → r ≤ n → low < 2 ^ r → x / 2 ^ r * 2 ^ r + low < 2 ^ n
fits_anyway n r x low h l k =
    let j : n - r + r ≡ n = omega arith in
    let p = ap (λ i. 2 ^ i) j in
    let e = pow-add 2 (n - r) r in
    let q = shr_below x (n - r) r (omega arith) in
    let d : x / 2 ^ r * 2 ^ r + low < 2 ^ (n - r) * 2 ^ r = digits_lt q k in
    omega arith

pub turned_fits : (n p x : ℕ) → x < 2 ^ n → p < n → turned p x < 2 ^ n
turned_fits n p x h l =
    let s = shr_split (turned p x) n in
    let k = ap (λ j. j * 2 ^ n) (turned_before p n x l) in
    let none = div_below x (2 ^ n) 1 (pow_pos n) (omega arith) in
    let z : x / 2 ^ n ≡ 0 = omega arith in
    let y = ap (λ j. j * 2 ^ n) z in
    let m = mod-lt (turned p x) (pow_pos n) in
    omega arith

-- the lists, place by place
module _ (d : Bool) (p x : ℕ) where
  pub each_turned_one : alike (digit p x) d ≡ true → each_turned d (suc p) x ≡ turned p x ∷ each_turned d p x
  each_turned_one e = ap (λ t. cond t (turned p x ∷ each_turned d p x) (each_turned d p x)) e

  pub each_turned_other : alike (digit p x) d ≡ false → each_turned d (suc p) x ≡ each_turned d p x
  each_turned_other e = ap (λ t. cond t (turned p x ∷ each_turned d p x) (each_turned d p x)) e

module _ (p b a : ℕ) where
  pub inner_one : under (suc p) b a ≡ true → inner_numbers (suc p) b a ≡ one_turned p b a ∷ inner_numbers p b a
  inner_one e = ap (λ t. cond t (one_turned p b a ∷ inner_numbers p b a) (each_turned false (suc p) b ++ each_turned true (suc p) a)) e

  pub parting_one : under p b a ≡ true → parting_numbers p b a ≡ turned p b ∷ inner_numbers p b a
  parting_one e = ap (λ t. cond t (turned p b ∷ inner_numbers p b a) (inner_numbers p b a)) e

  pub parting_rest : under p b a ≡ false → parting_numbers p b a ≡ inner_numbers p b a
  parting_rest e = ap (λ t. cond t (turned p b ∷ inner_numbers p b a) (inner_numbers p b a)) e

  pub beside_parting : (over : Bool) → alike (digit p b) (digit p a) ≡ false → numbers_beside over (suc p) b a ≡ parting_numbers p b a
  beside_parting over e = ap (λ t. cond t (cond over (one_turned p b a ∷ numbers_beside over p b a) (numbers_beside over p b a)) (parting_numbers p b a)) e

  pub beside_shared : alike (digit p b) (digit p a) ≡ true → numbers_beside false (suc p) b a ≡ numbers_beside false p b a
  beside_shared e = ap (λ t. cond t (numbers_beside false p b a) (parting_numbers p b a)) e

  pub beside_one : alike (digit p b) (digit p a) ≡ true → numbers_beside true (suc p) b a ≡ one_turned p b a ∷ numbers_beside true p b a
  beside_one e = ap (λ t. cond t (one_turned p b a ∷ numbers_beside true p b a) (parting_numbers p b a)) e

pub inner_rest : (p b a : ℕ) → under p b a ≡ false → inner_numbers p b a ≡ each_turned false p b ++ each_turned true p a
inner_rest zero b a e = refl
inner_rest (suc p) b a e = ap (λ t. cond t (one_turned p b a ∷ inner_numbers p b a) (each_turned false (suc p) b ++ each_turned true (suc p) a)) e
