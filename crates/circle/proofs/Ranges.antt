-- The numbers of several ranges.
use Rattle.std.proofs.Common.{◌≡◌, ℕ, true, false, List, [], ◌∷◌, map, refl, ap₂, inl, inr}
use Rattle.std.specs.List.{AllByRecursion}
use Rattle.std.proofs.lemmas.Bool.{false≢true, or_cases, or_from, or_left, or_right}
use Rattle.covers.specs.Rivals.{in_range, in_ranges}
use Rattle.covers.proofs.Lists.{all_mono}
use Rattle.circle.proofs.Ascending.{In}

-- the numbers of each range are among those of all
pub among : (ranges : List (ℕ × ℕ)) → AllByRecursion (λ r. (x : ℕ) → in_range r.0 r.1 x ≡ true → in_ranges ranges x ≡ true) ranges
among [] = tt
among (r ∷ ranges) = (
  (λ x h. or_left (in_range r.0 r.1 x) (in_ranges ranges x) h),
  all_mono {P = λ q. (x : ℕ) → in_range q.0 q.1 x ≡ true → in_ranges ranges x ≡ true}
      {Q = λ q. (x : ℕ) → in_range q.0 q.1 x ≡ true → in_ranges (r ∷ ranges) x ≡ true}
      (λ q f x h. or_right (in_range r.0 r.1 x) (in_ranges ranges x) (f x h)) ranges (among ranges),
)

module _ (x : ℕ) where
  pub in_none : (ranges : List (ℕ × ℕ)) → AllByRecursion (λ r. in_range r.0 r.1 x ≡ false) ranges → in_ranges ranges x ≡ false
  in_none [] h = refl
  in_none (r ∷ ranges) h = or_from (in_range r.0 r.1 x) (in_ranges ranges x) h.0 (in_none ranges h.1)

  -- a number that can only be the first of a range is the first of one
  pub first_of_one : (ranges : List (ℕ × ℕ)) → AllByRecursion (λ r. in_range r.0 r.1 x ≡ true → x ≡ r.0) ranges → in_ranges ranges x ≡ true → In x (map (λ r. r.0) ranges)
  first_of_one [] h e = absurd (false≢true e)
  first_of_one (r ∷ ranges) h e = elim (or_cases (in_range r.0 r.1 x) (in_ranges ranges x) e) [ inl k ↦ inl (h.0 k) | inr k ↦ inr (first_of_one ranges h.1 k) ]

  -- ranges given by their first numbers
  pub in_one : (last : ℕ → ℕ) (firsts : List ℕ) (f : ℕ) → In f firsts → in_range f (last f) x ≡ true → in_ranges (map (λ g. (g, last g)) firsts) x ≡ true
  in_one last [] f i e = absurd i
  in_one last (g ∷ firsts) f (inl q) e = or_left (in_range g (last g) x) (in_ranges (map (λ h. (h, last h)) firsts) x) (rw q at e)
  in_one last (g ∷ firsts) f (inr i) e = or_right (in_range g (last g) x) (in_ranges (map (λ h. (h, last h)) firsts) x) (in_one last firsts f i e)

-- ranges are given by their first numbers where these tell the last
pub by_firsts : (last : ℕ → ℕ) (ranges : List (ℕ × ℕ)) → AllByRecursion (λ r. r.1 ≡ last r.0) ranges → ranges ≡ map (λ f. (f, last f)) (map (λ r. r.0) ranges)
by_firsts last [] h = refl
by_firsts last (r ∷ ranges) h = ap₂ (λ (l : ℕ) (k : List (ℕ × ℕ)). (r.0, l) ∷ k) h.0 (by_firsts last ranges h.1)
