-- The list `runs` of a set meets `IsRuns`, and no other list does.
use Rattle.std.proofs.Common.{◌≡◌, ℕ, ◌+◌, ◌-◌, ◌^◌, ◌<◌, Bool, true, false, cond, List, [], ◌∷◌, map, filter, sym, refl, ap, ◌∙◌, ap₂, inl, inr, arith, pow_pos}
use Rattle.std.specs.List.{ContainsAt as Has, AllByRecursion}
use Rattle.std.proofs.lemmas.Bool.{both_ways, false≢true, cases_Bool, cases_lt, or_left}
use Rattle.covers.specs.Rivals.{NumberSet, in_range, in_ranges, Pairs}
use Rattle.covers.specs.Theorems.{Run}
use Rattle.covers.proofs.Lists.{all_mono, all_both, all_map, pairs_map}
use Rattle.circle.specs.Runs.{before, after, begins, passing, whole, last_from, runs}
use Rattle.circle.specs.Theorems.{Stretch, Longest, IsRuns, RunsAreRuns, RunsDetermined, RunsOfEqualSets}
use Rattle.circle.proofs.Circle.{before_fits, after_fits, ahead, ahead_cases, ahead_fits, ahead_self, no_step, ahead_before, le_in_range, in_range_le}
use Rattle.circle.proofs.Stretches.{begins_in, begins_out, begins_from, ends_out, ends_from, no_end_before, last_of_begin, only_last, begin_of}
use Rattle.circle.proofs.Ascending.{passing_below, passing_ascends, passing_has, kept_passing, kept_firsts, all_kept, whole_true, whole_false}
use Rattle.circle.proofs.Ranges.{among, in_none, first_of_one, in_one, by_firsts}

-- every number of the circle is in the set
module _ (n : ℕ) (S : NumberSet) (all : (x : ℕ) → x < 2 ^ n → S x ≡ true) where
  circle_is_runs : IsRuns n S ((0, 2 ^ n - 1) ∷ [])
  circle_is_runs =
      let p = pow_pos n in
      record {
        proper = (record { first_fits = p; last_fits = omega arith; proper = λ e. omega arith }, tt);
        covering = λ x h. or_left (in_range 0 (2 ^ n - 1) x) false (inside x h) ∙ sym (all x h);
        longest = (inl (refl, refl), tt);
        ascending = (tt, tt);
      }
    where
      inside : (x : ℕ) → x < 2 ^ n → in_range 0 (2 ^ n - 1) x ≡ true
      inside x h =
          let p = pow_pos n in
          let top : 2 ^ n - 1 < 2 ^ n = omega arith in
          let a = ahead_cases n 0 (2 ^ n - 1) p top in
          let b = ahead_cases n 0 x p h in
          le_in_range n 0 (2 ^ n - 1) x p top h (omega arith)

  only_circle : (ranges : List (ℕ × ℕ)) → IsRuns n S ranges → ranges ≡ (0, 2 ^ n - 1) ∷ []
  only_circle ranges R = go ranges (R.covering 0 (pow_pos n) ∙ all 0 (pow_pos n)) (all_mono {P = Longest n S} {Q = λ r. (r.0 ≡ 0) × (r.1 ≡ 2 ^ n - 1)} is_all ranges R.longest) R.ascending
    where
      is_all : (r : ℕ × ℕ) → Longest n S r → (r.0 ≡ 0) × (r.1 ≡ 2 ^ n - 1)
      is_all r (inl e) = e
      is_all r (inr e) = absurd (both_ways (S (before n r.0)) e.0 (all (before n r.0) (before_fits n r.0)))

      go : (ranges : List (ℕ × ℕ)) → in_ranges ranges 0 ≡ true → AllByRecursion (λ r. (r.0 ≡ 0) × (r.1 ≡ 2 ^ n - 1)) ranges → Pairs (λ r q. r.0 < q.0) ranges → ranges ≡ (0, 2 ^ n - 1) ∷ []
      go [] c e a = absurd (false≢true c)
      go (r ∷ []) c e a = ap₂ (λ (f l : ℕ). (f, l) ∷ []) e.0.0 e.0.1
      go (r ∷ q ∷ ranges) c e a = let b = a.0.0 in let z = e.1.0.0 in absurd (omega arith)

abbrev firsts : ℕ → NumberSet → List ℕ
firsts n S = passing (begins n S) (2 ^ n)

abbrev from_firsts : ℕ → NumberSet → List (ℕ × ℕ)
from_firsts n S = map (λ f. (f, last_from n S f)) (firsts n S)

-- some number of the circle is not
module _ (n : ℕ) (S : NumberSet) (z : ℕ) (hz : z < 2 ^ n) (sz : S z ≡ false) where
  -- a stretch leaves that number out, so it is no turn round the circle
  stretch_proper : (f l : ℕ) → f < 2 ^ n → Stretch n S f l → Run n f l
  stretch_proper f l hf s = record { first_fits = hf; last_fits = s.fits; proper = no_turn }
    where
      no_turn : f ≡ l + 1 → ⊥
      no_turn e =
          let a = ahead_cases n f l hf s.fits in
          let b = ahead_fits n f z hf hz in
          both_ways (S z) sz (s.unbroken z hz (le_in_range n f l z hf s.fits hz (omega arith)))

  begins_each : (Q : ℕ × ℕ → Type 0) → ((f : ℕ) → (f < 2 ^ n) × (begins n S f ≡ true) → Q (f, last_from n S f)) → AllByRecursion Q (from_firsts n S)
  begins_each Q g = all_map (λ f. (f, last_from n S f)) Q g (firsts n S) (passing_below (begins n S) (2 ^ n))

  firsts_cover : (x : ℕ) → x < 2 ^ n → in_ranges (from_firsts n S) x ≡ S x
  firsts_cover x hx = elim (cases_Bool (S x)) [ inl e ↦ member e ∙ sym e | inr e ↦ outside e ∙ sym e ]
    where
      member : S x ≡ true → in_ranges (from_firsts n S) x ≡ true
      member e =
          let b = begin_of n S x z hx e hz sz in
          let hf = b.1.fits in
          let s = last_of_begin n S b.0 hf b.1.begun in
          let k = no_end_before n S b.0 (last_from n S b.0) x hf s.fits hx b.1.unbroken (ends_out n S (last_from n S b.0) s.ended) in
          in_one x (last_from n S) (firsts n S) b.0 (passing_has (begins n S) (2 ^ n) b.0 hf b.1.begun) (le_in_range n b.0 (last_from n S b.0) x hf s.fits hx k)

      outside : S x ≡ false → in_ranges (from_firsts n S) x ≡ false
      outside e = in_none x (from_firsts n S) (begins_each (λ r. in_range r.0 r.1 x ≡ false) (λ f h.
          elim (cases_Bool (in_range f (last_from n S f) x)) [ inl i ↦ absurd (both_ways (S x) e ((last_of_begin n S f h.0 h.1).unbroken x hx i)) | inr i ↦ i ]))

  firsts_are_runs : IsRuns n S (from_firsts n S)
  firsts_are_runs = record {
    proper = begins_each (λ r. Run n r.0 r.1) (λ f h. stretch_proper f (last_from n S f) h.0 (last_of_begin n S f h.0 h.1));
    covering = firsts_cover;
    longest = begins_each (Longest n S) (λ f h. inr (begins_out n S f h.1, ends_out n S (last_from n S f) (last_of_begin n S f h.0 h.1).ended));
    ascending = pairs_map (λ f. (f, last_from n S f)) (λ r q. r.0 < q.0) {P = λ f. (f < 2 ^ n) × (begins n S f ≡ true)} {R = λ f g. f < g} (λ f g h k o. o)
        (firsts n S) (passing_below (begins n S) (2 ^ n)) (passing_ascends (begins n S) (2 ^ n));
  }

  -- a longest range inside the set begins a stretch
  begins_stretch : (f l : ℕ) → Run n f l → Longest n S (f, l) → ((x : ℕ) → x < 2 ^ n → in_range f l x ≡ true → S x ≡ true) → (f < 2 ^ n) × (begins n S f ≡ true) × Stretch n S f l
  begins_stretch f l r (inl e) inside =
      let hf = r.first_fits in
      let hl = r.last_fits in
      let e0 = e.0 in
      let e1 = e.1 in
      let a = ahead_cases n f l hf hl in
      let b = ahead_cases n f z hf hz in
      absurd (both_ways (S z) sz (inside z hz (le_in_range n f l z hf hl hz (omega arith))))
  begins_stretch f l r (inr e) inside =
      let hf = r.first_fits in
      let hl = r.last_fits in
      let o = ahead_self n f hf in
      let sf = inside f hf (le_in_range n f l f hf hl hf (omega arith)) in
      let sl = inside l hl (le_in_range n f l l hf hl hl (omega arith)) in
      (hf, begins_from n S f sf e.0, record { fits = hl; ended = ends_from n S l sl e.1; unbroken = inside })

  -- a begin in a stretch is its first number
  begin_first : (f l x : ℕ) → f < 2 ^ n → Stretch n S f l → x < 2 ^ n → begins n S x ≡ true → in_range f l x ≡ true → x ≡ f
  begin_first f l x hf s hx b i = elim (cases_lt 0 (ahead n f x)) [
    | inl k ↦ absurd (both_ways (S (before n x)) (begins_out n S x b) (reached k))
    | inr k ↦ no_step n f x hf hx k
  ]
    where
      reached : 0 < ahead n f x → S (before n x) ≡ true
      reached k =
          let a = ahead_before n f x hf hx k in
          let c = in_range_le n f l x hf s.fits hx i in
          s.unbroken (before n x) (before_fits n x) (le_in_range n f l (before n x) hf s.fits (before_fits n x) (omega arith))

  only_firsts : (ranges : List (ℕ × ℕ)) → IsRuns n S ranges → ranges ≡ from_firsts n S
  only_firsts ranges R =
      by_firsts (last_from n S) ranges (all_mono {P = Begins} {Q = λ r. r.1 ≡ last_from n S r.0} (λ r g. only_last n S r.0 r.1 g.0 g.1 g.2) ranges begun) ∙
      ap (map (λ f. (f, last_from n S f)))
      (sym (all_kept (begins n S) starts (all_map (λ r. r.0) (λ x. begins n S x ≡ true) {P = Begins} (λ r g. g.1) ranges begun)) ∙
      kept_passing (begins n S) starts (2 ^ n)
      (pairs_map (λ r. r.0) (λ x y. x < y) {P = Begins} {R = λ r q. r.0 < q.0} (λ r q g h o. o) ranges begun R.ascending)
      (all_map (λ r. r.0) (λ x. x < 2 ^ n) {P = Begins} (λ r g. g.0) ranges begun)
      (λ x hx b. first_of_one x ranges (all_mono {P = Begins} {Q = λ r. in_range r.0 r.1 x ≡ true → x ≡ r.0} (λ r g i. begin_first r.0 r.1 x g.0 g.2 hx b i) ranges begun)
      (R.covering x hx ∙ begins_in n S x b)))
    where
      Begins : ℕ × ℕ → Type 0
      Begins r = (r.0 < 2 ^ n) × (begins n S r.0 ≡ true) × Stretch n S r.0 r.1

      starts : List ℕ
      starts = map (λ r. r.0) ranges

      begun : AllByRecursion Begins ranges
      begun = all_both {P = λ r. Run n r.0 r.1 × Longest n S r} {Q = λ r. (x : ℕ) → in_range r.0 r.1 x ≡ true → in_ranges ranges x ≡ true}
          (λ r p f. begins_stretch r.0 r.1 p.0 p.1 (λ x hx i. sym (R.covering x hx) ∙ f x i)) ranges
          (all_both {P = λ r. Run n r.0 r.1} {Q = Longest n S} (λ r p q. (p, q)) ranges R.proper R.longest) (among ranges)

-- the runs of any set
pub are_runs : RunsAreRuns
unfolding runs
are_runs n S = go (whole n S) refl
  where
    go : (t : Bool) → whole n S ≡ t → IsRuns n S (cond t ((0, 2 ^ n - 1) ∷ []) (from_firsts n S))
    go true e = circle_is_runs n S (whole_true n S e)
    go false e = let w = whole_false n S e in firsts_are_runs n S w.0 w.1 w.2

pub determined : RunsDetermined
unfolding runs
determined n S ranges R = go (whole n S) refl
  where
    go : (t : Bool) → whole n S ≡ t → ranges ≡ cond t ((0, 2 ^ n - 1) ∷ []) (from_firsts n S)
    go true e = only_circle n S (whole_true n S e) ranges R
    go false e = let w = whole_false n S e in only_firsts n S w.0 w.1 w.2 ranges R

-- how to compute them: with every number in the set
pub runs_of_circle : (n : ℕ) (S : NumberSet) → ((x : ℕ) → x < 2 ^ n → S x ≡ true) → runs n S ≡ (0, 2 ^ n - 1) ∷ []
runs_of_circle n S all = only_circle n S all (runs n S) (are_runs n S)

-- with a number outside it, from any ascending list that has all the begins
pub runs_of_candidates : (n : ℕ) (S : NumberSet) (z : ℕ) → z < 2 ^ n → S z ≡ false →
    (candidates : List ℕ) → Pairs (λ x y. x < y) candidates → AllByRecursion (λ x. x < 2 ^ n) candidates →
    ((x : ℕ) → x < 2 ^ n → begins n S x ≡ true → Has candidates x) →
    runs n S ≡ map (λ f. (f, last_from n S f)) (filter (begins n S) candidates)
runs_of_candidates n S z hz sz candidates a low has =
    only_firsts n S z hz sz (runs n S) (are_runs n S) ∙ ap (map (λ f. (f, last_from n S f))) (sym (kept_firsts n S candidates a low has))

-- with no begin, the set has every number of the circle or none
pub all_or_none : (n : ℕ) (S : NumberSet) → ((x : ℕ) → x < 2 ^ n → begins n S x ≡ false) → (x : ℕ) → x < 2 ^ n → S x ≡ S 0
all_or_none n S none x hx = go (S x) (S 0) refl refl
  where
    clash : (y z : ℕ) → y < 2 ^ n → S y ≡ true → z < 2 ^ n → S z ≡ false → ⊥
    clash y z hy sy hz sz =
        let b = begin_of n S y z hy sy hz sz in
        both_ways (begins n S b.0) (none b.0 b.1.fits) b.1.begun

    go : (s t : Bool) → S x ≡ s → S 0 ≡ t → s ≡ t
    go true true e k = refl
    go false false e k = refl
    go true false e k = absurd (clash x 0 hx e (pow_pos n) k)
    go false true e k = absurd (clash 0 x (pow_pos n) k hx e)

pub equal_sets : RunsOfEqualSets
equal_sets n S T same = determined n T (runs n S) (record {
  proper = R.proper;
  covering = λ x hx. R.covering x hx ∙ same x hx;
  longest = all_mono {P = Longest n S} {Q = Longest n T} as_longest (runs n S) R.longest;
  ascending = R.ascending;
})
  where
    R : IsRuns n S (runs n S)
    R = are_runs n S

    as_longest : (r : ℕ × ℕ) → Longest n S r → Longest n T r
    as_longest r (inl e) = inl e
    as_longest r (inr e) = inr (sym (same (before n r.0) (before_fits n r.0)) ∙ e.0, sym (same (after n r.1) (after_fits n r.1)) ∙ e.1)
