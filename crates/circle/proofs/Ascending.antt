-- Strictly ascending lists of numbers: one is known by its members.
use Rattle.std.proofs.Common.{◌≡◌, ℕ, zero, suc, ◌^◌, ◌<◌, ◌≤◌, Bool, true, false, cond, ◌⊎◌, List, [], ◌∷◌, ◌++◌, filter, sym, refl, ap, ◌∙◌, subst, ap₂, inl, inr, arith}
use Rattle.std.specs.List.{ContainsAt as Has, AllByRecursion}
use Rattle.std.proofs.ByRecursion.{all_kept_by, kept_by_passes}
use Rattle.std.proofs.lemmas.Bool.{false≢true, cases_lt, and_parts, and_cases}
use Rattle.covers.specs.Rivals.{Pairs, NumberSet}
use Rattle.covers.proofs.Lists.{all_mono, all_join, pairs_join}
use Rattle.circle.specs.Runs.{begins, passing, all_below, whole}

-- x stands in the list
abbrev pub In : ℕ → List ℕ → Type 0
In x [] = ⊥
In x (y ∷ l) = (x ≡ y) ⊎ In x l

abbrev pub Ascending : List ℕ → Type 0
Ascending l = Pairs (λ x y. x < y) l

pub in_from_has : (l : List ℕ) (x : ℕ) → Has l x → In x l
in_from_has [] x h = let k = h.1 in omega arith
in_from_has (y ∷ l) x (zero, k, e) = inl (sym (e 0))
in_from_has (y ∷ l) x (suc i, k, e) = inr (in_from_has l x (i, omega arith, e))

pub all_in : (P : ℕ → Type 0) (l : List ℕ) → AllByRecursion P l → (x : ℕ) → In x l → P x
all_in P [] h x i = absurd i
all_in P (y ∷ l) h x (inl e) = subst P (sym e) h.0
all_in P (y ∷ l) h x (inr i) = all_in P l h.1 x i

pub in_join_left : (l k : List ℕ) (x : ℕ) → In x l → In x (l ++ k)
in_join_left [] k x i = absurd i
in_join_left (y ∷ l) k x (inl e) = inl e
in_join_left (y ∷ l) k x (inr i) = inr (in_join_left l k x i)

pub in_join_right : (l k : List ℕ) (x : ℕ) → In x k → In x (l ++ k)
in_join_right [] k x i = i
in_join_right (y ∷ l) k x i = inr (in_join_right l k x i)

-- ascending lists with the same members are equal
pub same_ascending : (l k : List ℕ) → Ascending l → Ascending k → ((x : ℕ) → In x l → In x k) → ((x : ℕ) → In x k → In x l) → l ≡ k
same_ascending [] [] a b f g = refl
same_ascending [] (y ∷ k) a b f g = absurd (g y (inl refl))
same_ascending (x ∷ l) [] a b f g = absurd (f x (inl refl))
same_ascending (x ∷ l) (y ∷ k) a b f g =
    ap₂ (λ u v. u ∷ v) heads (same_ascending l k a.1 b.1 (λ z i. there z i (f z (inr i))) (λ z i. back z i (g z (inr i))))
  where
    later_l : (z : ℕ) → In z l → x < z
    later_l z i = all_in (λ w. x < w) l a.0 z i

    later_k : (z : ℕ) → In z k → y < z
    later_k z i = all_in (λ w. y < w) k b.0 z i

    heads : x ≡ y
    heads = elim (f x (inl refl)) [
      | inl e ↦ e
      | inr i ↦ elim (g y (inl refl)) [ inl e ↦ sym e | inr j ↦ (let p = later_k x i in let q = later_l y j in omega arith) ]
    ]

    there : (z : ℕ) → In z l → In z (y ∷ k) → In z k
    there z i (inl e) = let p = later_l z i in let q = heads in absurd (omega arith)
    there z i (inr j) = j

    back : (z : ℕ) → In z k → In z (x ∷ l) → In z l
    back z i (inl e) = let p = later_k z i in let q = heads in absurd (omega arith)
    back z i (inr j) = j

-- the numbers below k that pass
module _ (p : ℕ → Bool) where
  pub passing_below : (k : ℕ) → AllByRecursion (λ x. (x < k) × (p x ≡ true)) (passing p k)
  unfolding passing
  passing_below zero = tt
  passing_below (suc k) =
      all_join (λ x. (x < suc k) × (p x ≡ true)) (passing p k) (cond (p k) (k ∷ []) [])
      (all_mono {P = λ x. (x < k) × (p x ≡ true)} {Q = λ x. (x < suc k) × (p x ≡ true)} (λ x h. (let b = h.0 in omega arith, h.1)) (passing p k) (passing_below k))
      (go (p k) refl)
    where
      go : (t : Bool) → p k ≡ t → AllByRecursion (λ x. (x < suc k) × (p x ≡ true)) (cond t (k ∷ []) [])
      go true e = ((omega arith, e), tt)
      go false e = tt

  pub passing_ascends : (k : ℕ) → Ascending (passing p k)
  unfolding passing
  passing_ascends zero = tt
  passing_ascends (suc k) = go (p k) (passing_ascends k)
    where
      go : (t : Bool) → Ascending (passing p k) → Ascending (passing p k ++ cond t (k ∷ []) [])
      go true a = pairs_join (λ x y. x < y) (passing p k) (k ∷ []) a (tt, tt) (all_mono {P = λ x. (x < k) × (p x ≡ true)} {Q = λ x. AllByRecursion (λ y. x < y) (k ∷ [])} (λ x h. (h.0, tt)) (passing p k) (passing_below k))
      go false a = pairs_join (λ x y. x < y) (passing p k) [] a tt (all_mono {P = λ x. (x < k) × (p x ≡ true)} {Q = λ x. Unit {0}} (λ x h. tt) (passing p k) (passing_below k))

  pub passing_has : (k x : ℕ) → x < k → p x ≡ true → In x (passing p k)
  unfolding passing
  passing_has zero x h e = omega arith
  passing_has (suc k) x h e = elim (cases_lt x k) [
    | inl b ↦ in_join_left (passing p k) (cond (p k) (k ∷ []) []) x (passing_has k x b e)
    | inr b ↦ in_join_right (passing p k) (cond (p k) (k ∷ []) []) x (here b (p k) (ap p (same b) ∙ e))
  ]
    where
      same : k ≤ x → k ≡ x
      same b = omega arith

      here : k ≤ x → (t : Bool) → t ≡ true → In x (cond t (k ∷ []) [])
      here b true q = inl (sym (same b))
      here b false q = absurd (false≢true q)

-- what a filter keeps
module _ (p : ℕ → Bool) where
  pub kept_in : (l : List ℕ) (x : ℕ) → In x l → p x ≡ true → In x (filter p l)
  kept_in [] x i e = absurd i
  kept_in (y ∷ l) x (inl q) e = subst (λ t. In x (cond t (y ∷ filter p l) (filter p l))) (sym (ap p (sym q) ∙ e)) (inl q)
  kept_in (y ∷ l) x (inr i) e = go (p y) (kept_in l x i e)
    where
      go : (t : Bool) → In x (filter p l) → In x (cond t (y ∷ filter p l) (filter p l))
      go true j = inr j
      go false j = j

  pub kept_ascends : (l : List ℕ) → Ascending l → Ascending (filter p l)
  kept_ascends [] a = tt
  kept_ascends (y ∷ l) a = go (p y) (kept_ascends l a.1)
    where
      go : (t : Bool) → Ascending (filter p l) → Ascending (cond t (y ∷ filter p l) (filter p l))
      go true b = (all_kept_by p (λ x. y < x) l a.0, b)
      go false b = b

  -- an ascending list of numbers below k, all that pass among them: what it keeps are all that pass
  pub kept_passing : (l : List ℕ) (k : ℕ) → Ascending l → AllByRecursion (λ x. x < k) l → ((x : ℕ) → x < k → p x ≡ true → In x l) → filter p l ≡ passing p k
  kept_passing l k a low has =
      same_ascending (filter p l) (passing p k) (kept_ascends l a) (passing_ascends p k)
      (λ x i. passing_has p k x (all_in (λ y. y < k) (filter p l) (all_kept_by p (λ y. y < k) l low) x i) (all_in (λ y. p y ≡ true) (filter p l) (kept_by_passes p l) x i))
      (λ x i. let h = all_in (λ y. (y < k) × (p y ≡ true)) (passing p k) (passing_below p k) x i in kept_in l x (has x h.0 h.1) h.1)

  pub all_kept : (l : List ℕ) → AllByRecursion (λ x. p x ≡ true) l → filter p l ≡ l
  all_kept [] h = refl
  all_kept (y ∷ l) h = rw h.0 (ap (λ k. y ∷ k) (all_kept l h.1))

-- the begins of a set, by a filter of candidates
module _ (n : ℕ) (S : NumberSet) (candidates : List ℕ) (a : Pairs (λ x y. x < y) candidates) (low : AllByRecursion (λ x. x < 2 ^ n) candidates) where
  pub kept_firsts : ((x : ℕ) → x < 2 ^ n → begins n S x ≡ true → Has candidates x) → filter (begins n S) candidates ≡ passing (begins n S) (2 ^ n)
  kept_firsts has = kept_passing (begins n S) candidates (2 ^ n) a low (λ x h b. in_from_has candidates x (has x h b))

-- a test of all numbers below k
module _ (p : ℕ → Bool) where
  all_below_true : (k : ℕ) → all_below p k ≡ true → (x : ℕ) → x < k → p x ≡ true
  unfolding all_below
  all_below_true zero e x h = absurd (omega arith)
  all_below_true (suc k) e x h = elim (cases_lt x k) [
    | inl b ↦ all_below_true k (and_parts (p k) (all_below p k) e).1 x b
    | inr b ↦ ap p (let q : x ≡ k = omega arith in q) ∙ (and_parts (p k) (all_below p k) e).0
  ]

  all_below_false : (k : ℕ) → all_below p k ≡ false → (z : ℕ) × (z < k) × (p z ≡ false)
  unfolding all_below
  all_below_false zero e = absurd (false≢true (sym e))
  all_below_false (suc k) e = elim (and_cases (p k) (all_below p k) e) [
    | inl q ↦ (k, omega arith, q)
    | inr q ↦ (let r = all_below_false k q in (r.0, (let b = r.1 in omega arith), r.2))
  ]

pub whole_true : (n : ℕ) (S : NumberSet) → whole n S ≡ true → (x : ℕ) → x < 2 ^ n → S x ≡ true
unfolding whole
whole_true n S e = all_below_true S (2 ^ n) e

pub whole_false : (n : ℕ) (S : NumberSet) → whole n S ≡ false → (z : ℕ) × (z < 2 ^ n) × (S z ≡ false)
unfolding whole
whole_false n S e = all_below_false S (2 ^ n) e
