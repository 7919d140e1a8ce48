-- Two numbers that stand outside a set, each with one digit turned: when such numbers are parted.
use Rattle.std.proofs.Common.{◌≡◌, ℕ, zero, suc, ◌+◌, ◌*◌, ◌/◌, ◌%◌, ◌^◌, ◌<◌, ◌≤◌, Bool, true, false, cond, ◌⊎◌, List, [], ◌∷◌, ◌++◌, sym, refl, ap, ◌∙◌, subst, inl, inr, mod-lt, arith, pow_pos}
use Rattle.std.specs.List.{AllByRecursion}
use Rattle.std.proofs.lemmas.Nat.{shr_high, mod_low}
use Rattle.std.proofs.lemmas.Bool.{cases_lt, cases_eq, both_ways, ltb-true, ltb-false}
use Rattle.covers.specs.Digits.{digit, digits}
use Rattle.covers.specs.Rivals.{NumberSet, Pairs, Parted}
use Rattle.covers.specs.WitnessNumbers.{alike, turned, each_turned, one_turned, under, inner_numbers, parting_numbers}
use Rattle.covers.proofs.Lists.{all_mono, all_join, pairs_join}
use Rattle.covers.proofs.Witnesses.{Mix}
use Rattle.covers.proofs.Narrowest.{narrowest_takes}
use Rattle.covers.proofs.Turned.{same_high, same_low, digit_split, digit_1, turned_behind, unturned, raised_least, each_turned_one, each_turned_other, inner_one, inner_rest, parting_one, parting_rest}

-- each digit of the third is that of the first or that of the second
abbrev Mixes : ℕ → ℕ → ℕ → ℕ → Type 0
Mixes n x y z = (q : ℕ) → q < n → (digit q z ≡ digit q x) ⊎ (digit q z ≡ digit q y)

mixed : (n x y z : ℕ) → Mixes n x y z → Mix (digits n x) (digits n y) (digits n z)
mixed zero x y z f = tt
mixed (suc m) x y z f = (f m (omega arith), mixed m x y z (λ q h. f q (omega arith)))

exchanged : (n x y z : ℕ) → Mixes n x y z → Mixes n y x z
exchanged n x y z f q h = elim (f q h) [ inl e ↦ inr e | inr e ↦ inl e ]

-- a number turned at two places mixes to itself
turned_twice : (n p q x : ℕ) → (p ≡ q → ⊥) → Mixes n (turned p x) (turned q x) x
turned_twice n p q x ne j h = elim (cases_eq j p) [
  | inl e ↦ inr (sym (unturned q j x (λ k. ne (sym e ∙ k))))
  | inr e ↦ inl (sym (unturned p j x e))
]

-- one turned where the other has the same digit
turned_alike : (n p q x y : ℕ) → (q ≡ p → ⊥) → digit q x ≡ digit q y → Mixes n (turned p x) (turned q y) y
turned_alike n p q x y ne same j h = elim (cases_eq j q) [
  | inl e ↦ inl (ap (λ k. digit k y) e ∙ sym same ∙ sym (unturned p q x ne) ∙ ap (λ k. digit k (turned p x)) (sym e))
  | inr e ↦ inr (sym (unturned q j y e))
]

-- the last r digits of the one behind those before of the other, which is turned behind
spliced : (n q r x y : ℕ) → q < r → Mixes n x (turned q y) (y / 2 ^ r * 2 ^ r + x % 2 ^ r)
spliced n q r x y l j h = elim (cases_lt j r) [
  | inl k ↦ inl (same_low r j (y / 2 ^ r * 2 ^ r + x % 2 ^ r) x (mod_low (y / 2 ^ r) r (x % 2 ^ r) (mod-lt x (pow_pos r))) k)
  | inr k ↦ inr (same_high r j (y / 2 ^ r * 2 ^ r + x % 2 ^ r) y (shr_high (y / 2 ^ r) r (x % 2 ^ r) (mod-lt x (pow_pos r))) k ∙ sym (unturned q j y (λ e. omega arith)))
]

module _ (n : ℕ) (S : NumberSet) (before after : ℕ) where
  abbrev pub Member : ℕ → Type 0
  Member x = (x < 2 ^ n) × (S x ≡ true)

  abbrev pub Outside : ℕ → Type 0
  Outside x = (x < 2 ^ n) × (S x ≡ false)

  parted_by : (x y z : ℕ) → Outside z → Mixes n x y z → Parted n S x y
  parted_by x y z o m = (z, o.0, narrowest_takes (digits n x) (digits n y) (digits n z) (mixed n x y z m), o.1)

  -- the number after, if its last r digits are no higher, with those of another number that are no lower than those of the number before
  abbrev pub Deep : ℕ → Type 0
  Deep r = (x : ℕ) → before % 2 ^ r ≤ x % 2 ^ r → Outside (after / 2 ^ r * 2 ^ r + x % 2 ^ r)

  -- the number before, turned at place q, where not both have a 1; up to place m it is not lower by its last digits
  pub record Raised (m q x : ℕ) : Type 0 where
    pub is : x ≡ turned q before
    pub free : digit q before ≡ true → digit q after ≡ true → ⊥
    pub least : (r : ℕ) → r ≤ m → before % 2 ^ r ≤ x % 2 ^ r

  -- the number after, turned at place q, where it has a 1; the number before has one too, or q is deep
  pub record Lowered (m q x : ℕ) : Type 0 where
    pub is : x ≡ turned q after
    pub one : digit q after ≡ true
    pub reach : (digit q before ≡ true) ⊎ ((r : ℕ) × (q < r) × (r ≤ m) × Deep r)

  abbrev pub Side : ℕ → ℕ → ℕ → Type 0
  Side m q x = Raised m q x ⊎ Lowered m q x

  -- a member that is turned below place p
  abbrev pub TurnedBelow : ℕ → ℕ → ℕ → Type 0
  TurnedBelow m p x = Member x × ((q : ℕ) × (q < p) × Side m q x)

  pub turned_below_more : (m p r x : ℕ) → p ≤ r → TurnedBelow m p x → TurnedBelow m r x
  turned_below_more m p r x h (i, (q, l, s)) = (i, (q, omega arith, s))

  module _ (before_out : Outside before) (after_out : Outside after) where
    raised_lowered : (m p q x y : ℕ) → Raised m p x → Lowered m q y → (z : ℕ) × Outside z × Mixes n x y z
    raised_lowered m p q x y R L = elim L.reach [
      | inl e ↦
          let ne : q ≡ p → ⊥ = λ k. R.free (ap (λ j. digit j before) (sym k) ∙ e) (ap (λ j. digit j after) (sym k) ∙ L.one) in
          (after, after_out, rw (R.is, L.is) (turned_alike n p q before after ne (e ∙ sym L.one)))
      | inr d ↦ (after / 2 ^ d.0 * 2 ^ d.0 + x % 2 ^ d.0, d.3 x (R.least d.0 d.2), rw L.is (spliced n q d.0 x after d.1))
    ]

    sides_parted : (m p q x y : ℕ) → (p ≡ q → ⊥) → Side m p x → Side m q y → Parted n S x y
    sides_parted m p q x y ne (inl R) (inl R') = parted_by x y before before_out (rw (R.is, R'.is) (turned_twice n p q before ne))
    sides_parted m p q x y ne (inr L) (inr L') = parted_by x y after after_out (rw (L.is, L'.is) (turned_twice n p q after ne))
    sides_parted m p q x y ne (inl R) (inr L) = let c = raised_lowered m p q x y R L in parted_by x y c.0 c.1 c.2
    sides_parted m p q x y ne (inr L) (inl R) = let c = raised_lowered m q p y x R L in parted_by x y c.0 c.1 (exchanged n y x c.0 c.2)

    -- members that are turned below place p, any two of which are parted
    pub record Sound (m p : ℕ) (numbers : List ℕ) : Type 0 where
      pub each : AllByRecursion (TurnedBelow m p) numbers
      pub apart : Pairs (Parted n S) numbers

    pub sound_none : (m p : ℕ) → Sound m p []
    sound_none m p = record { each = tt; apart = tt }

    -- and one that is turned at place p
    pub sound_more : (m p x : ℕ) (numbers : List ℕ) → Member x → Side m p x → Sound m p numbers → Sound m (suc p) (x ∷ numbers)
    sound_more m p x numbers i s W = record {
      each = ((i, (p, omega arith, s)), all_mono (λ y t. turned_below_more m p (suc p) y (omega arith) t) numbers W.each);
      apart = (all_mono (λ y t. sides_parted m p t.1.0 x y (λ e. let l = t.1.1 in omega arith) s t.1.2) numbers W.each, W.apart);
    }

    pub sound_wider : (m p r : ℕ) (numbers : List ℕ) → p ≤ r → Sound m p numbers → Sound m r numbers
    sound_wider m p r numbers h W = record { each = all_mono (λ y t. turned_below_more m p r y h t) numbers W.each; apart = W.apart }

    raised_side : (m q : ℕ) → digit q before ≡ false → Raised m q (turned q before)
    raised_side m q e = record { is = refl; free = λ k j. both_ways (digit q before) e k; least = λ r h. raised_least q r before e }

    -- one number at a place where the number before has a 0, or both have a 1
    pub one_side : (m p : ℕ) → (digit p before ≡ false → Member (turned p before)) → (digit p after ≡ true → Member (turned p after)) → (digit p before ≡ true → digit p after ≡ true) →
        Member (one_turned p before after) × Side m p (one_turned p before after)
    one_side m p raised_in lowered_in f = go (digit p before) refl
      where
        go : (t : Bool) → digit p before ≡ t → Member (turned p (cond t after before)) × Side m p (turned p (cond t after before))
        go false e = (raised_in e, inl (raised_side m p e))
        go true e = (lowered_in (f e), inr (record { is = refl; one = f e; reach = inl e }))

    -- members turned at the last w places; and what is deep up to place m
    module _ (m w : ℕ)
        (raised_in : (q : ℕ) → q < w → digit q before ≡ false → Member (turned q before))
        (lowered_in : (q : ℕ) → q < w → digit q after ≡ true → Member (turned q after))
        (deep : (r : ℕ) → r ≤ m → after % 2 ^ r ≤ before % 2 ^ r → Deep r) where
      each_raised : (p : ℕ) → p ≤ w → Sound m p (each_turned false p before) × AllByRecursion (λ x. (q : ℕ) × Raised m q x) (each_turned false p before)
      each_raised zero h = (sound_none m 0, tt)
      each_raised (suc p) h = go (digit p before) refl (each_raised p (omega arith))
        where
          go : (t : Bool) → digit p before ≡ t → Sound m p (each_turned false p before) × AllByRecursion (λ x. (q : ℕ) × Raised m q x) (each_turned false p before) →
              Sound m (suc p) (each_turned false (suc p) before) × AllByRecursion (λ x. (q : ℕ) × Raised m q x) (each_turned false (suc p) before)
          go true e ih =
              let is = sym (each_turned_other false p before (ap (λ t. alike t false) e)) in
              (subst (Sound m (suc p)) is (sound_wider m p (suc p) (each_turned false p before) (omega arith) ih.0), subst (AllByRecursion (λ x. (q : ℕ) × Raised m q x)) is ih.1)
          go false e ih =
              let R = raised_side m p e in
              let i = raised_in p (omega arith) e in
              let is = sym (each_turned_one false p before (ap (λ t. alike t false) e)) in
              (subst (Sound m (suc p)) is (sound_more m p (turned p before) (each_turned false p before) i (inl R) ih.0), subst (AllByRecursion (λ x. (q : ℕ) × Raised m q x)) is ((p, R), ih.1))

      each_lowered : (p r : ℕ) → p ≤ w → p ≤ r → r ≤ m → Deep r → Sound m p (each_turned true p after) × AllByRecursion (λ x. (q : ℕ) × Lowered m q x) (each_turned true p after)
      each_lowered zero r h k l d = (sound_none m 0, tt)
      each_lowered (suc p) r h k l d = go (digit p after) refl (each_lowered p r (omega arith) (omega arith) l d)
        where
          go : (t : Bool) → digit p after ≡ t → Sound m p (each_turned true p after) × AllByRecursion (λ x. (q : ℕ) × Lowered m q x) (each_turned true p after) →
              Sound m (suc p) (each_turned true (suc p) after) × AllByRecursion (λ x. (q : ℕ) × Lowered m q x) (each_turned true (suc p) after)
          go false e ih =
              let is = sym (each_turned_other true p after (ap (λ t. alike t true) e)) in
              (subst (Sound m (suc p)) is (sound_wider m p (suc p) (each_turned true p after) (omega arith) ih.0), subst (AllByRecursion (λ x. (q : ℕ) × Lowered m q x)) is ih.1)
          go true e ih =
              let L : Lowered m p (turned p after) = record { is = refl; one = e; reach = inr (r, omega arith, l, d) } in
              let i = lowered_in p (omega arith) e in
              let is = sym (each_turned_one true p after (ap (λ t. alike t true) e)) in
              (subst (Sound m (suc p)) is (sound_more m p (turned p after) (each_turned true p after) i (inr L) ih.0), subst (AllByRecursion (λ x. (q : ℕ) × Lowered m q x)) is ((p, L), ih.1))

      -- both together, where the last p digits of the number after are no higher
      both_turned : (p : ℕ) → p ≤ w → p ≤ m → after % 2 ^ p ≤ before % 2 ^ p → Sound m p (each_turned false p before ++ each_turned true p after)
      both_turned p h k far =
          let A = each_raised p h in
          let B = each_lowered p p h (omega arith) k (deep p k far) in
          record {
            each = all_join (TurnedBelow m p) (each_turned false p before) (each_turned true p after) A.0.each B.0.each;
            apart = pairs_join (Parted n S) (each_turned false p before) (each_turned true p after) A.0.apart B.0.apart
                (all_mono (λ x R. all_mono (λ y L. let c = raised_lowered m R.0 L.0 x y R.1 L.1 in parted_by x y c.0 c.1 c.2) (each_turned true p after) B.1) (each_turned false p before) A.1);
          }

      pub inner_sound : (p : ℕ) → p ≤ w → p ≤ m → Sound m p (inner_numbers p before after)
      inner_sound zero h k = sound_none m 0
      inner_sound (suc p) h k = go (under (suc p) before after) refl (inner_sound p (omega arith) (omega arith))
        where
          go : (t : Bool) → under (suc p) before after ≡ t → Sound m p (inner_numbers p before after) → Sound m (suc p) (inner_numbers (suc p) before after)
          go true e ih =
              let l = ltb-true (before % 2 ^ suc p) (after % 2 ^ suc p) e in
              let s = one_side m p (raised_in p (omega arith)) (lowered_in p (omega arith)) (λ one. first_one l one) in
              subst (Sound m (suc p)) (sym (inner_one p before after e)) (sound_more m p (one_turned p before after) (inner_numbers p before after) s.0 s.1 ih)
            where
              first_one : before % 2 ^ suc p < after % 2 ^ suc p → digit p before ≡ true → digit p after ≡ true
              first_one l one = elim (cases_lt (after % 2 ^ suc p) (2 ^ p)) [
                | inl k ↦ let s = rw one at (digit_split p before) in let z : ⊥ = omega arith in absurd z
                | inr k ↦ (digit_1 p after k).0
              ]
          go false e ih = subst (Sound m (suc p)) (sym (inner_rest (suc p) before after e)) (both_turned (suc p) h k (ltb-false (before % 2 ^ suc p) (after % 2 ^ suc p) e))

      -- where both differ at place m
      pub parting_sound : m ≤ w → (digit m before ≡ digit m after → ⊥) → (under m before after ≡ true → Member (turned m before)) → Sound m (suc m) (parting_numbers m before after)
      parting_sound h ne i = go (under m before after) refl (inner_sound m h (omega arith))
        where
          go : (t : Bool) → under m before after ≡ t → Sound m m (inner_numbers m before after) → Sound m (suc m) (parting_numbers m before after)
          go true e ih =
              let R : Raised m m (turned m before) = record { is = refl; free = λ k j. ne (k ∙ sym j); least = λ r k. let t = turned_behind m r before k in omega arith } in
              subst (Sound m (suc m)) (sym (parting_one m before after e)) (sound_more m m (turned m before) (inner_numbers m before after) (i e) (inl R) ih)
          go false e ih = subst (Sound m (suc m)) (sym (parting_rest m before after e)) (sound_wider m m (suc m) (inner_numbers m before after) (omega arith) ih)
