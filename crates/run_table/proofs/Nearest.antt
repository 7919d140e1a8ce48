-- The least of some numbers, and the nearest end of a run.
use Rattle.std.proofs.Common.{◌≡◌, ℕ, ◌+◌, ◌%◌, ◌^◌, ◌<◌, ◌≤◌, min, Bool, true, false, cond, ◌⊎◌, List, [], ◌∷◌, sym, refl, ap, ◌∙◌, inl, inr, arith}
use Rattle.std.specs.List.{AllByRecursion}
use Rattle.std.proofs.lemmas.Bool.{both_ways, cases_lt}
use Rattle.covers.specs.Rivals.{NumberSet}
use Rattle.circle.specs.Runs.{begins, ends, last_from}
use Rattle.circle.specs.Theorems.{Stretch}
use Rattle.circle.proofs.Ascending.{In, all_in}
use Rattle.circle.proofs.Circle.{ahead, ahead_fits}
use Rattle.circle.proofs.Stretches.{ends_out, last_of_begin, no_end_before}
use Rattle.run_table.specs.NewRuns.{least_of, steps, steps_to_end}
use Rattle.run_table.proofs.Steps.{steps_ahead, ahead_there}

module _ (p : ℕ → Bool) (d : ℕ → ℕ) where
  abbrev next_least : ℕ → ℕ → ℕ
  next_least m x = cond (p x) (min m (d x)) m

  next_le : (m x : ℕ) → next_least m x ≤ m
  next_le m x = go (p x)
    where
      go : (t : Bool) → cond t (min m (d x)) m ≤ m
      go true = omega arith
      go false = omega arith

  next_of : (m x : ℕ) → p x ≡ true → next_least m x ≤ d x
  next_of m x e = go (p x) e
    where
      go : (t : Bool) → t ≡ true → cond t (min m (d x)) m ≤ d x
      go true q = omega arith
      go false q = absurd (both_ways false refl q)

  next_from : (m x : ℕ) → (next_least m x ≡ m) ⊎ ((p x ≡ true) × (next_least m x ≡ d x))
  next_from m x = go (p x) refl
    where
      pick : (a b : ℕ) → (min a b ≡ a) ⊎ (min a b ≡ b)
      pick a b = elim (cases_lt a b) [ inl h ↦ inl (omega arith) | inr h ↦ inr (omega arith) ]

      go : (t : Bool) → p x ≡ t → (cond t (min m (d x)) m ≡ m) ⊎ ((p x ≡ true) × (cond t (min m (d x)) m ≡ d x))
      go true e = elim (pick m (d x)) [ inl q ↦ inl q | inr q ↦ inr (e, q) ]
      go false e = inl refl

  least_le : (m : ℕ) (l : List ℕ) → least_of p d m l ≤ m
  least_le m [] = omega arith
  least_le m (x ∷ l) = let a = least_le (next_least m x) l in let b = next_le m x in omega arith

  pub least_at_most : (m : ℕ) (l : List ℕ) (x : ℕ) → In x l → p x ≡ true → least_of p d m l ≤ d x
  least_at_most m [] x i e = absurd i
  least_at_most m (y ∷ l) x (inl q) e =
      let a = least_le (next_least m y) l in
      let b = next_of m y (ap p (sym q) ∙ e) in
      let k = ap d q in
      omega arith
  least_at_most m (y ∷ l) x (inr i) e = least_at_most (next_least m y) l x i e

  -- it is what was given, or it is reached
  pub least_reached : (m : ℕ) (l : List ℕ) → (least_of p d m l ≡ m) ⊎ ((x : ℕ) × In x l × (p x ≡ true) × (least_of p d m l ≡ d x))
  least_reached m [] = inl refl
  least_reached m (y ∷ l) = elim (least_reached (next_least m y) l) [
    | inl e ↦ elim (next_from m y) [ inl q ↦ inl (e ∙ q) | inr q ↦ inr (y, inl refl, q.0, e ∙ q.1) ]
    | inr r ↦ inr (r.0, inr r.1, r.2, r.3)
  ]

-- where a run begins, the fewest steps to an end lead to its last number
pub nearest_end : (n : ℕ) (T : NumberSet) (lasts : List ℕ) → n ≤ 64 → AllByRecursion (λ x. x < 2 ^ n) lasts →
    ((x : ℕ) → x < 2 ^ n → ends n T x ≡ true → In x lasts) →
    (g : ℕ) → g < 2 ^ n → begins n T g ≡ true → (g + steps_to_end n T lasts g) % 2 ^ n ≡ last_from n T g
unfolding steps_to_end
nearest_end n T lasts h low has g hg b = ap (λ k. (g + k) % 2 ^ n) fewest ∙ ahead_there n g (last_from n T g) hg s.fits
  where
    s : Stretch n T g (last_from n T g)
    s = last_of_begin n T g hg b

    near : least_of (ends n T) (steps n g) (2 ^ n) lasts ≤ ahead n g (last_from n T g)
    near =
        let k = least_at_most (ends n T) (steps n g) (2 ^ n) lasts (last_from n T g) (has (last_from n T g) s.fits s.ended) s.ended in
        let e = steps_ahead n g (last_from n T g) h hg s.fits in
        omega arith

    far : (x : ℕ) → In x lasts → ends n T x ≡ true → ahead n g (last_from n T g) ≤ steps n g x
    far x i e =
        let hx = all_in (λ y. y < 2 ^ n) lasts low x i in
        let k = no_end_before n T g x (last_from n T g) hg hx s.fits s.unbroken (ends_out n T x e) in
        let q = steps_ahead n g x h hg hx in
        omega arith

    fewest : least_of (ends n T) (steps n g) (2 ^ n) lasts ≡ ahead n g (last_from n T g)
    fewest = elim (least_reached (ends n T) (steps n g) (2 ^ n) lasts) [
      | inl e ↦ (let k = near in let m = ahead_fits n g (last_from n T g) hg s.fits in omega arith)
      | inr r ↦ (let k = near in let m = far r.0 r.1 r.2 in let q = r.3 in omega arith)
    ]
