-- The candidates for the first numbers of runs: the old firsts and one number more.
use Rattle.std.proofs.Common.{◌≡◌, ℕ, suc, ◌+◌, ◌<◌, ◌≤◌, Bool, true, false, cond, ltb, List, [], ◌∷◌, length, filter, sym, refl, inl, inr, arith}
use Rattle.std.specs.List.{ContainsAt as Has, AllByRecursion}
use Rattle.std.proofs.ByRecursion.{all_kept_by, kept_by_passes}
use Rattle.std.proofs.lemmas.Bool.{ltb-true, lt-ltb, cases_order}
use Rattle.covers.proofs.Lists.{all_mono, all_join, pairs_join}
use Rattle.circle.proofs.Ascending.{In, Ascending, in_join_left, in_join_right, kept_in, kept_ascends}
use Rattle.run_table.specs.NewRuns.{below_and_above}

pub has_from_in : (l : List ℕ) (x : ℕ) → In x l → Has l x
has_from_in [] x i = absurd i
has_from_in (y ∷ l) x (inl e) = (0, omega arith, λ d. sym e)
has_from_in (y ∷ l) x (inr i) = let h = has_from_in l x i in (suc h.0, (let k = h.1 in omega arith), h.2)

module _ (x : ℕ) (l : List ℕ) where
  lower : AllByRecursion (λ f. f < x) (filter (λ f. ltb f x) l)
  lower = all_mono {P = λ f. ltb f x ≡ true} {Q = λ f. f < x} (λ f e. ltb-true f x e) (filter (λ f. ltb f x) l) (kept_by_passes (λ f. ltb f x) l)

  higher : AllByRecursion (λ f. x < f) (filter (λ f. ltb x f) l)
  higher = all_mono {P = λ f. ltb x f ≡ true} {Q = λ f. x < f} (λ f e. ltb-true x f e) (filter (λ f. ltb x f) l) (kept_by_passes (λ f. ltb x f) l)

  pub candidates_ascend : Ascending l → Ascending (below_and_above x l)
  candidates_ascend a =
      pairs_join (λ y z. y < z) (filter (λ f. ltb f x) l) (x ∷ filter (λ f. ltb x f) l) (kept_ascends (λ f. ltb f x) l a) (higher, kept_ascends (λ f. ltb x f) l a)
      (all_mono {P = λ f. f < x} {Q = λ f. AllByRecursion (λ z. f < z) (x ∷ filter (λ f. ltb x f) l)}
      (λ f h. (h, all_mono {P = λ z. x < z} {Q = λ z. f < z} (λ z k. omega arith) (filter (λ f. ltb x f) l) higher)) (filter (λ f. ltb f x) l) lower)

  pub candidates_below : (k : ℕ) → x < k → AllByRecursion (λ y. y < k) l → AllByRecursion (λ y. y < k) (below_and_above x l)
  candidates_below k h low = all_join (λ y. y < k) (filter (λ f. ltb f x) l) (x ∷ filter (λ f. ltb x f) l) (all_kept_by (λ f. ltb f x) (λ y. y < k) l low) (h, all_kept_by (λ f. ltb x f) (λ y. y < k) l low)

  pub new_in : In x (below_and_above x l)
  new_in = in_join_right (filter (λ f. ltb f x) l) (x ∷ filter (λ f. ltb x f) l) x (inl refl)

  pub old_in : (y : ℕ) → In y l → In y (below_and_above x l)
  old_in y i = elim (cases_order y x) [
    | inl e ↦ in_join_right (filter (λ f. ltb f x) l) (x ∷ filter (λ f. ltb x f) l) y (inl e)
    | inr o ↦ elim o [
      | inl h ↦ in_join_left (filter (λ f. ltb f x) l) (x ∷ filter (λ f. ltb x f) l) y (kept_in (λ f. ltb f x) l y i (lt-ltb y x h))
      | inr h ↦ in_join_right (filter (λ f. ltb f x) l) (x ∷ filter (λ f. ltb x f) l) y (inr (kept_in (λ f. ltb x f) l y i (lt-ltb x y h)))
    ]
  ]

-- none is below and above
pub not_both : (x : ℕ) (l : List ℕ) → length (filter (λ f. ltb f x) l) + length (filter (λ f. ltb x f) l) ≤ length l
not_both x [] = omega arith
not_both x (y ∷ l) = go (ltb y x) (ltb x y) refl refl (not_both x l)
  where
    go : (s t : Bool) → ltb y x ≡ s → ltb x y ≡ t → length (filter (λ f. ltb f x) l) + length (filter (λ f. ltb x f) l) ≤ length l →
        length (cond s (y ∷ filter (λ f. ltb f x) l) (filter (λ f. ltb f x) l)) + length (cond t (y ∷ filter (λ f. ltb x f) l) (filter (λ f. ltb x f) l)) ≤ suc (length l)
    go true true e k h = let p = ltb-true y x e in let q = ltb-true x y k in absurd (omega arith)
    go true false e k h = omega arith
    go false true e k h = omega arith
    go false false e k h = omega arith
