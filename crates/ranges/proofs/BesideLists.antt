-- The numbers beside a range, place by place, as the code goes through them.
use Rattle.std.proofs.Common.{◌≡◌, ℕ, zero, suc, ◌+◌, ◌-◌, ◌%◌, ◌^◌, ◌<◌, Bool, true, false, cond, not, leb, [], ◌∷◌, sym, refl, ap, ◌∙◌, ap₂, arith}
use mathlib.Core.Bool.{beq}
use Rattle.std.proofs.lemmas.Bool.{not-true, not-false, ltb-true, eq-eqb, ne_eqb}
use Rattle.covers.specs.Digits.{digit}
use Rattle.covers.specs.WitnessNumbers.{alike, under, one_turned, inner_numbers, parting_numbers, numbers_beside, number_before, number_after, numbers_of_range}
use Rattle.covers.proofs.Turned.{inner_one, beside_parting, beside_shared, beside_one}

-- the test of two digits
beq_alike : (x y : Bool) → beq x y ≡ alike x y
beq_alike true true = refl
beq_alike true false = refl
beq_alike false true = refl
beq_alike false false = refl

same_test : (x y r s t : Bool) → r ≡ x → s ≡ y → beq r s ≡ t → alike x y ≡ t
same_test x y r s t e f k = ap₂ alike (sym e) (sym f) ∙ sym (beq_alike r s) ∙ k

-- at p places, of which the first is p - 1
module _ (p : ℕ) (some : 0 < p) where
  places : suc (p - 1) ≡ p
  places = omega arith

  module _ (b a : ℕ) (r s : Bool) (is : r ≡ digit (p - 1) b) (is' : s ≡ digit (p - 1) a) where
    pub beside_at_parting : (over : Bool) → not (beq r s) ≡ true → numbers_beside over p b a ≡ parting_numbers (p - 1) b a
    beside_at_parting over k =
        ap (λ j. numbers_beside over j b a) (sym places) ∙ beside_parting (p - 1) b a over (same_test (digit (p - 1) b) (digit (p - 1) a) r s false is is' (not-true (beq r s) k))

    pub beside_at_one : (over : Bool) → over ≡ true → not (beq r s) ≡ false → numbers_beside over p b a ≡ one_turned (p - 1) b a ∷ numbers_beside over (p - 1) b a
    beside_at_one over o k =
        ap₂ (λ t j. numbers_beside t j b a) o (sym places) ∙
        beside_one (p - 1) b a (same_test (digit (p - 1) b) (digit (p - 1) a) r s true is is' (not-false (beq r s) k)) ∙
        ap (λ t. one_turned (p - 1) b a ∷ numbers_beside t (p - 1) b a) (sym o)

    pub beside_at_shared : (over : Bool) → over ≡ false → not (beq r s) ≡ false → numbers_beside over p b a ≡ numbers_beside over (p - 1) b a
    beside_at_shared over o k =
        ap₂ (λ t j. numbers_beside t j b a) o (sym places) ∙
        beside_shared (p - 1) b a (same_test (digit (p - 1) b) (digit (p - 1) a) r s true is is' (not-false (beq r s) k)) ∙
        ap (λ t. numbers_beside t (p - 1) b a) (sym o)

-- as long as the number before is lower, some place is left
pub inner_at_one : (p b a : ℕ) → under p b a ≡ true → inner_numbers p b a ≡ one_turned (p - 1) b a ∷ inner_numbers (p - 1) b a
inner_at_one zero b a h = let z = ltb-true (b % 2 ^ 0) (a % 2 ^ 0) h in absurd (omega arith)
inner_at_one (suc p) b a h = let e : suc p - 1 ≡ p = omega arith in inner_one p b a h ∙ ap (λ j. one_turned j b a ∷ inner_numbers j b a) (sym e)

-- the numbers of a range, below a limit
module _ (n f l limit : ℕ) (top : limit ≡ 2 ^ n) where
  pub range_one : (l + 1) % limit ≡ f → numbers_of_range n f l ≡ f ∷ []
  unfolding numbers_of_range
  range_one e =
      ap (λ t. cond t (f ∷ []) (numbers_beside (leb (number_after n l) (number_before n f)) n (number_before n f) (number_after n l)))
      (eq-eqb (number_after n l) f (ap (λ k. (l + 1) % k) (sym top) ∙ e))

  pub range_beside : ((l + 1) % limit ≡ f → ⊥) →
      numbers_of_range n f l ≡ numbers_beside (leb ((l + 1) % limit) ((f + limit - 1) % limit)) n ((f + limit - 1) % limit) ((l + 1) % limit)
  unfolding numbers_of_range
  range_beside ne =
      ap (λ t. cond t (f ∷ []) (numbers_beside (leb (number_after n l) (number_before n f)) n (number_before n f) (number_after n l)))
      (ne_eqb (number_after n l) f (λ e. ne (ap (λ k. (l + 1) % k) top ∙ e))) ∙
      ap (λ k. numbers_beside (leb ((l + 1) % k) ((f + k - 1) % k)) n ((f + k - 1) % k) ((l + 1) % k)) (sym top)
