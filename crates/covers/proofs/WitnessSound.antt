-- The numbers of a range are a witness of it.
use Rattle.std.proofs.Common.{◌≡◌, ℕ, zero, suc, ◌+◌, ◌-◌, ◌*◌, ◌/◌, ◌%◌, ◌^◌, ◌<◌, ◌≤◌, Bool, true, false, cond, eqb, leb, ◌⊎◌, List, [], ◌∷◌, sym, refl, ap, ◌∙◌, subst, inl, inr, mod-lt, mod-eq_of_lt, add-mul, arith, pow_pos}
use native.Mathlib.Nat.{mod_self, mod-eq-sub-mod}
use Rattle.std.specs.List.{AllByRecursion}
use Rattle.std.proofs.lemmas.Nat.{shr_split, shr_high, div_below}
use Rattle.std.proofs.lemmas.Bool.{cases_lt, eqb-false, leb-true, leb-false, le-leb, lt-leb, ltb-true}
use Rattle.std.proofs.lemmas.Bool.Decides.{nat_tests}
use Rattle.covers.specs.Digits.{digit}
use Rattle.covers.specs.Rivals.{NumberSet, in_range, Pairs, Parted, Witness}
use Rattle.covers.specs.WitnessNumbers.{alike, turned, parting_numbers, numbers_beside, under, number_before, number_after, numbers_of_range}
use Rattle.covers.proofs.Lists.{all_mono}
use Rattle.covers.proofs.Turned.{same_before, digit_head, turned_before, turned_fits, raised_is, lowered_is, fits_anyway, beside_parting, beside_shared, beside_one}
use Rattle.covers.proofs.Partings.{Member, Outside, Deep, Sound, sound_none, sound_more, one_side, parting_sound}

-- what stands before the last digits, of two numbers of which one has a 1 where the other has a 0
one_more : (q x y : ℕ) → x / 2 ^ suc q ≡ y / 2 ^ suc q → digit q x ≡ false → digit q y ≡ true → y / 2 ^ q * 2 ^ q ≡ x / 2 ^ q * 2 ^ q + 2 ^ q
one_more q x y same e f =
    let hx = rw e at (digit_head q x) in
    let hy = rw f at (digit_head q y) in
    let k : y / 2 ^ q ≡ x / 2 ^ q + 1 = omega arith in
    let m = add-mul (x / 2 ^ q) 1 (2 ^ q) in
    ap (λ j. j * 2 ^ q) k ∙ omega arith

equal_heads : (q x y : ℕ) → x / 2 ^ suc q ≡ y / 2 ^ suc q → digit q x ≡ digit q y → x / 2 ^ q ≡ y / 2 ^ q
equal_heads q x y same e =
    let d = ap {B = ℕ} (λ (t : Bool). cond t 1 0) e in
    let hx = digit_head q x in
    let hy = digit_head q y in
    omega arith

-- a set of the numbers between
module _ (n : ℕ) (S : NumberSet) (before after : ℕ) (hb : before < 2 ^ n) (ha : after < 2 ^ n) (order : before < after)
    (inside : (x : ℕ) → before < x → x < after → S x ≡ true) (low : (x : ℕ) → x ≤ before → S x ≡ false) (high : (x : ℕ) → after ≤ x → S x ≡ false) where
  between_parting : (m : ℕ) → m < n → before / 2 ^ suc m ≡ after / 2 ^ suc m → digit m before ≡ false → digit m after ≡ true →
      Sound n S before after (hb, low before (omega arith)) (ha, high after (omega arith)) m (suc m) (parting_numbers m before after)
  between_parting m h same e f =
      parting_sound n S before after (hb, low before (omega arith)) (ha, high after (omega arith)) m m raised_in lowered_in deep (omega arith) (λ k. clash (sym e ∙ k ∙ f)) mark
    where
      clash : false ≡ true → ⊥
      clash k = let z : ◌≡◌ {A = ℕ} 0 1 = ap (λ (t : Bool). cond t 1 0) k in omega arith

      g : after / 2 ^ m * 2 ^ m ≡ before / 2 ^ m * 2 ^ m + 2 ^ m
      g = one_more m before after same e f

      raised_in : (q : ℕ) → q < m → digit q before ≡ false → Member n S before after (turned q before)
      raised_in q l k =
          let t = raised_is q before k in
          let p = pow_pos q in
          let s = shr_split (turned q before) m in
          let r = ap (λ j. j * 2 ^ m) (turned_before q m before l) in
          let i = mod-lt (turned q before) (pow_pos m) in
          let sa = shr_split after m in
          let gg = g in
          let up : turned q before < after = omega arith in
          (omega arith, inside (turned q before) (omega arith) up)

      lowered_in : (q : ℕ) → q < m → digit q after ≡ true → Member n S before after (turned q after)
      lowered_in q l k =
          let t = lowered_is q after k in
          let p = pow_pos q in
          let s = shr_split (turned q after) m in
          let r = ap (λ j. j * 2 ^ m) (turned_before q m after l) in
          let i = mod-lt before (pow_pos m) in
          let sb = shr_split before m in
          let gg = g in
          (omega arith, inside (turned q after) (omega arith) (omega arith))

      deep : (r : ℕ) → r ≤ m → after % 2 ^ r ≤ before % 2 ^ r → Deep n S before after r
      deep r l far x least =
          let s = shr_split after r in
          (fits_anyway n r after (x % 2 ^ r) ha (omega arith) (mod-lt x (pow_pos r)), high (after / 2 ^ r * 2 ^ r + x % 2 ^ r) (omega arith))

      mark : under m before after ≡ true → Member n S before after (turned m before)
      mark u =
          let l = ltb-true (before % 2 ^ m) (after % 2 ^ m) u in
          let t = raised_is m before e in
          let p = pow_pos m in
          let sb = shr_split before m in
          let sa = shr_split after m in
          let gg = g in
          let up : turned m before < after = omega arith in
          (omega arith, inside (turned m before) (omega arith) up)

  between_sound : (p : ℕ) → p ≤ n → before / 2 ^ p ≡ after / 2 ^ p →
      AllByRecursion (λ x. (x < 2 ^ n) × (S x ≡ true)) (numbers_beside false p before after) × Pairs (Parted n S) (numbers_beside false p before after)
  between_sound zero h same = (tt, tt)
  between_sound (suc p) h same = go (digit p before) (digit p after) refl refl (λ s. between_sound p (omega arith) s)
    where
      Goal : List ℕ → Type 0
      Goal l = AllByRecursion (λ x. (x < 2 ^ n) × (S x ≡ true)) l × Pairs (Parted n S) l

      shared : digit p before ≡ digit p after → alike (digit p before) (digit p after) ≡ true → (before / 2 ^ p ≡ after / 2 ^ p → Goal (numbers_beside false p before after)) → Goal (numbers_beside false (suc p) before after)
      shared k e ih = subst Goal (sym (beside_shared p before after e)) (ih (equal_heads p before after same k))

      go : (s t : Bool) → digit p before ≡ s → digit p after ≡ t → (before / 2 ^ p ≡ after / 2 ^ p → Goal (numbers_beside false p before after)) → Goal (numbers_beside false (suc p) before after)
      go false false e f ih = shared (e ∙ sym f) (rw (e, f)) ih
      go true true e f ih = shared (e ∙ sym f) (rw (e, f)) ih
      go false true e f ih =
          let W = between_parting p (omega arith) same e f in
          subst Goal (sym (beside_parting p before after false (rw (e, f)))) (all_mono (λ x t. t.0) (parting_numbers p before after) W.each, W.apart)
      go true false e f ih =
          let k = one_more p after before (sym same) f e in
          let sb = shr_split before p in
          let sa = shr_split after p in
          let m = mod-lt after (pow_pos p) in
          let z : ⊥ = omega arith in absurd z

-- a set of all but the numbers from after to before
module _ (n : ℕ) (S : NumberSet) (before after : ℕ) (hb : before < 2 ^ n) (order : after ≤ before)
    (inside : (x : ℕ) → x < 2 ^ n → (before < x) ⊎ (x < after) → S x ≡ true) (outside : (x : ℕ) → after ≤ x → x ≤ before → S x ≡ false) where
  before_out : Outside n S before after before
  before_out = (hb, outside before order (omega arith))

  after_out : Outside n S before after after
  after_out = (omega arith, outside after (omega arith) order)

  around_raised : (q : ℕ) → q < n → digit q before ≡ false → Member n S before after (turned q before)
  around_raised q l k =
      let t = raised_is q before k in
      let p = pow_pos q in
      let i = turned_fits n q before hb l in
      (i, inside (turned q before) i (inl (omega arith)))

  around_lowered : (q : ℕ) → q < n → digit q after ≡ true → Member n S before after (turned q after)
  around_lowered q l k =
      let t = lowered_is q after k in
      let p = pow_pos q in
      let i = turned_fits n q after (omega arith) l in
      (i, inside (turned q after) i (inr (omega arith)))

  around_parting : (m : ℕ) → m < n → before / 2 ^ suc m ≡ after / 2 ^ suc m → digit m before ≡ true → digit m after ≡ false →
      Sound n S before after before_out after_out m (suc m) (parting_numbers m before after)
  around_parting m h same e f =
      parting_sound n S before after before_out after_out m n around_raised around_lowered deep (omega arith) (λ k. clash (sym f ∙ sym k ∙ e)) mark
    where
      clash : false ≡ true → ⊥
      clash k = let z : ◌≡◌ {A = ℕ} 0 1 = ap (λ (t : Bool). cond t 1 0) k in omega arith

      g : before / 2 ^ m * 2 ^ m ≡ after / 2 ^ m * 2 ^ m + 2 ^ m
      g = one_more m after before (sym same) f e

      deep : (r : ℕ) → r ≤ m → after % 2 ^ r ≤ before % 2 ^ r → Deep n S before after r
      deep r l far x least =
          let z = after / 2 ^ r * 2 ^ r + x % 2 ^ r in
          let s = shr_split after r in
          let head = same_before r m (after / 2 ^ r * 2 ^ r + x % 2 ^ r) after (shr_high (after / 2 ^ r) r (x % 2 ^ r) (mod-lt x (pow_pos r))) l in
          let k = ap (λ j. j * 2 ^ m) head in
          let sz = shr_split (after / 2 ^ r * 2 ^ r + x % 2 ^ r) m in
          let i = mod-lt (after / 2 ^ r * 2 ^ r + x % 2 ^ r) (pow_pos m) in
          let sb = shr_split before m in
          let gg = g in
          (fits_anyway n r after (x % 2 ^ r) (omega arith) (omega arith) (mod-lt x (pow_pos r)), outside (after / 2 ^ r * 2 ^ r + x % 2 ^ r) (omega arith) (omega arith))

      mark : under m before after ≡ true → Member n S before after (turned m before)
      mark u =
          let l = ltb-true (before % 2 ^ m) (after % 2 ^ m) u in
          let t = lowered_is m before e in
          let sb = shr_split before m in
          let sa = shr_split after m in
          let gg = g in
          let i = turned_fits n m before hb h in
          (i, inside (turned m before) i (inr (omega arith)))

  around_sound : (p : ℕ) → p ≤ n → before / 2 ^ p ≡ after / 2 ^ p → (m : ℕ) × Sound n S before after before_out after_out m p (numbers_beside true p before after)
  around_sound zero h same = (0, sound_none n S before after before_out after_out 0 0)
  around_sound (suc p) h same = go (digit p before) (digit p after) refl refl (λ s. around_sound p (omega arith) s)
    where
      Goal : ℕ → List ℕ → Type 0
      Goal p l = (m : ℕ) × Sound n S before after before_out after_out m p l

      shared : digit p before ≡ digit p after → alike (digit p before) (digit p after) ≡ true → (before / 2 ^ p ≡ after / 2 ^ p → Goal p (numbers_beside true p before after)) → Goal (suc p) (numbers_beside true (suc p) before after)
      shared k e ih =
          let W = ih (equal_heads p before after same k) in
          let s = one_side n S before after before_out after_out W.0 p (around_raised p (omega arith)) (around_lowered p (omega arith)) (λ one. sym k ∙ one) in
          (W.0, subst (Sound n S before after before_out after_out W.0 (suc p)) (sym (beside_one p before after e)) (sound_more n S before after before_out after_out W.0 p _ (numbers_beside true p before after) s.0 s.1 W.1))

      go : (s t : Bool) → digit p before ≡ s → digit p after ≡ t → (before / 2 ^ p ≡ after / 2 ^ p → Goal p (numbers_beside true p before after)) → Goal (suc p) (numbers_beside true (suc p) before after)
      go false false e f ih = shared (e ∙ sym f) (rw (e, f)) ih
      go true true e f ih = shared (e ∙ sym f) (rw (e, f)) ih
      go true false e f ih =
          (p, subst (Sound n S before after before_out after_out p (suc p)) (sym (beside_parting p before after true (rw (e, f)))) (around_parting p (omega arith) same e f))
      go false true e f ih =
          let k = one_more p before after same e f in
          let sb = shr_split before p in
          let sa = shr_split after p in
          let m = mod-lt before (pow_pos p) in
          let z : ⊥ = omega arith in absurd z

-- the number before and the number after on the circle
pub before_is : (n x : ℕ) → x < 2 ^ n → ((x ≡ 0) × (number_before n x ≡ 2 ^ n - 1)) ⊎ ((0 < x) × (number_before n x ≡ x - 1))
before_is n x h = elim (cases_lt 0 x) [
  | inl p ↦
      let l : 2 ^ n ≤ x + 2 ^ n - 1 = omega arith in
      let e : x + 2 ^ n - 1 - 2 ^ n ≡ x - 1 = omega arith in
      let k : x - 1 < 2 ^ n = omega arith in
      inr (p, mod-eq-sub-mod l ∙ ap (λ j. j % 2 ^ n) e ∙ mod-eq_of_lt k)
  | inr p ↦
      let z : x ≡ 0 = omega arith in
      let e : x + 2 ^ n - 1 ≡ 2 ^ n - 1 = omega arith in
      let k : 2 ^ n - 1 < 2 ^ n = omega arith in
      inl (z, ap (λ j. j % 2 ^ n) e ∙ mod-eq_of_lt k)
]

pub after_is : (n x : ℕ) → x < 2 ^ n → ((x + 1 ≡ 2 ^ n) × (number_after n x ≡ 0)) ⊎ ((x + 1 < 2 ^ n) × (number_after n x ≡ x + 1))
after_is n x h = elim (cases_lt (x + 1) (2 ^ n)) [
  | inl p ↦ inr (p, mod-eq_of_lt p)
  | inr p ↦ let e : x + 1 ≡ 2 ^ n = omega arith in inl (e, ap (λ j. j % 2 ^ n) e ∙ mod_self (2 ^ n))
]

first_in : (f l : ℕ) → in_range f l f ≡ true
first_in f l = grind (arith, nat_tests)

-- the numbers of a range, by the number b before it and the number a after it
module _ (N f l b a : ℕ) (hf : f < N) (hl : l < N) (first : ((f ≡ 0) × (b ≡ N - 1)) ⊎ ((0 < f) × (b ≡ f - 1))) (last : ((l + 1 ≡ N) × (a ≡ 0)) ⊎ ((l + 1 < N) × (a ≡ l + 1))) (proper : a ≡ f → ⊥) where
  -- where there is a number before it and a number after it
  inner_range : b < a → (b ≡ f - 1) × (a ≡ l + 1) × (0 < f) × (f ≤ l)
  inner_range h = elim first [
    | inl p ↦ elim last [ inl q ↦ let z : ⊥ = omega arith in absurd z | inr q ↦ let z : ⊥ = omega arith in absurd z ]
    | inr p ↦ elim last [
      | inl q ↦ let z : ⊥ = omega arith in absurd z
      | inr q ↦ let ne : l + 1 ≡ f → ⊥ = λ k. proper (q.1 ∙ k) in (p.1, q.1, p.0, omega arith)
    ]
  ]

  in_between : b < a → (x : ℕ) → b < x → x < a → in_range f l x ≡ true
  in_between h x p q = let (u, v, w, o) = inner_range h in rw (le-leb f l o) (grind (arith, nat_tests))

  out_low : b < a → (x : ℕ) → x ≤ b → in_range f l x ≡ false
  out_low h x p = let (u, v, w, o) = inner_range h in rw (le-leb f l o) (grind (arith, nat_tests))

  out_high : b < a → (x : ℕ) → a ≤ x → in_range f l x ≡ false
  out_high h x p = let (u, v, w, o) = inner_range h in rw (le-leb f l o) (grind (arith, nat_tests))

  in_around : a ≤ b → (x : ℕ) → x < N → (b < x) ⊎ (x < a) → in_range f l x ≡ true
  in_around h x hx c = elim c [
    | inl k ↦ elim first [
      | inl p ↦ let z : ⊥ = omega arith in absurd z
      | inr p ↦ elim last [ inl q ↦ let o : f ≤ l = omega arith in rw (le-leb f l o) (grind (arith, nat_tests)) | inr q ↦ let o : l < f = omega arith in rw (lt-leb f l o) (grind (arith, nat_tests)) ]
    ]
    | inr k ↦ elim last [
      | inl q ↦ let z : ⊥ = omega arith in absurd z
      | inr q ↦ elim first [ inl p ↦ let o : f ≤ l = omega arith in rw (le-leb f l o) (grind (arith, nat_tests)) | inr p ↦ let o : l < f = omega arith in rw (lt-leb f l o) (grind (arith, nat_tests)) ]
    ]
  ]

  out_around : a ≤ b → (x : ℕ) → a ≤ x → x ≤ b → in_range f l x ≡ false
  out_around h x k j = elim first [
    | inl p ↦ elim last [
      | inl q ↦ absurd (proper (q.1 ∙ sym p.0))
      | inr q ↦ let o : f ≤ l = omega arith in rw (le-leb f l o) (grind (arith, nat_tests))
    ]
    | inr p ↦ elim last [
      | inl q ↦ let o : f ≤ l = omega arith in rw (le-leb f l o) (grind (arith, nat_tests))
      | inr q ↦ let o : l < f = omega arith in rw (lt-leb f l o) (grind (arith, nat_tests))
    ]
  ]

no_head : (n x : ℕ) → x < 2 ^ n → x / 2 ^ n ≡ 0
no_head n x h = let k = div_below x (2 ^ n) 1 (pow_pos n) (omega arith) in omega arith

pub numbers_witness : (n f l : ℕ) → f < 2 ^ n → l < 2 ^ n → Witness n (in_range f l) (numbers_of_range n f l)
unfolding numbers_of_range
numbers_witness n f l hf hl = go (eqb (number_after n l) f) refl
  where
    before_fits : number_before n f < 2 ^ n
    before_fits = mod-lt (f + 2 ^ n - 1) (pow_pos n)

    after_fits : number_after n l < 2 ^ n
    after_fits = mod-lt (l + 1) (pow_pos n)

    heads : number_before n f / 2 ^ n ≡ number_after n l / 2 ^ n
    heads = no_head n (number_before n f) before_fits ∙ sym (no_head n (number_after n l) after_fits)

    by_order : (number_after n l ≡ f → ⊥) → (t : Bool) → leb (number_after n l) (number_before n f) ≡ t → Witness n (in_range f l) (numbers_beside t n (number_before n f) (number_after n l))
    by_order ne true e =
        let o = leb-true (number_after n l) (number_before n f) e in
        let W = around_sound n (in_range f l) (number_before n f) (number_after n l) before_fits o
        (in_around (2 ^ n) f l (number_before n f) (number_after n l) hf hl (before_is n f hf) (after_is n l hl) ne o)
        (out_around (2 ^ n) f l (number_before n f) (number_after n l) hf hl (before_is n f hf) (after_is n l hl) ne o) n (omega arith) heads in
        record { members = all_mono (λ x t. t.0) (numbers_beside true n (number_before n f) (number_after n l)) W.1.each; parted = W.1.apart }
    by_order ne false e =
        let o = leb-false (number_after n l) (number_before n f) e in
        let W = between_sound n (in_range f l) (number_before n f) (number_after n l) before_fits after_fits o
        (in_between (2 ^ n) f l (number_before n f) (number_after n l) hf hl (before_is n f hf) (after_is n l hl) ne o)
        (out_low (2 ^ n) f l (number_before n f) (number_after n l) hf hl (before_is n f hf) (after_is n l hl) ne o)
        (out_high (2 ^ n) f l (number_before n f) (number_after n l) hf hl (before_is n f hf) (after_is n l hl) ne o) n (omega arith) heads in
        record { members = W.0; parted = W.1 }

    go : (t : Bool) → eqb (number_after n l) f ≡ t →
        Witness n (in_range f l) (cond t (f ∷ []) (numbers_beside (leb (number_after n l) (number_before n f)) n (number_before n f) (number_after n l)))
    go true e = record { members = ((hf, first_in f l), tt); parted = (tt, tt) }
    go false e = by_order (eqb-false (number_after n l) f e) (leb (number_after n l) (number_before n f)) refl
