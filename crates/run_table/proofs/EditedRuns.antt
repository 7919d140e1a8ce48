-- The runs that are computed for an edit are the runs of the set after it.
use Rattle.std.proofs.Common.{◌≡◌, ℕ, ◌+◌, ◌-◌, ◌%◌, ◌^◌, ◌<◌, ◌≤◌, true, false, not, List, [], ◌∷◌, map, filter, sym, refl, ap, ◌∙◌, subst, ap₂, inl, inr, arith}
use Rattle.std.specs.List.{AllByRecursion}
use Rattle.std.proofs.ByRecursion.{all_kept_by, kept_by_passes}
use Rattle.std.proofs.lemmas.Bool.{true≢false, cases_Bool, and_right, or_right, not_from_true}
use Rattle.covers.specs.Rivals.{NumberSet, in_range, in_ranges}
use Rattle.covers.specs.Theorems.{Run as ProperRun}
use Rattle.covers.proofs.Lists.{all_both, all_map, pairs_map}
use Rattle.circle.specs.Runs.{before, begins, ends, last_from, runs}
use Rattle.circle.proofs.Ascending.{In, Ascending, kept_in}
use Rattle.circle.proofs.Circle.{before_fits}
use Rattle.circle.proofs.Stretches.{begins_out}
use Rattle.circle.proofs.Runs.{are_runs, runs_of_circle, runs_of_candidates, all_or_none, equal_sets}
use Rattle.rows.specs.declared.range.Range.{Range}
use Rattle.rows.specs.declared.edit.Edit.{Edit}
use Rattle.rows.specs.declared.edit.Edit.TheVariants.{Add, Drop}
use Rattle.rows.specs.Ranges.{ranges_of}
use Rattle.rows.specs.Edits.{adding, edit_in_width, edited}
use Rattle.run_table.specs.NewRuns.{below_and_above, first_candidate, firsts_of, lasts_of, new_lasts, new_runs, run_from, set_after, steps_to_end}
use Rattle.run_table.proofs.Edges.{ends_fit, first_inside, begin_listed, end_listed, new_begin, new_end, first_candidate_fits, last_candidate_fits, edited_same}
use Rattle.run_table.proofs.Candidates.{has_from_in, candidates_ascend, candidates_below, new_in, old_in}
use Rattle.run_table.proofs.Nearest.{nearest_end}

pub firsts_same : (R : List Range) → map (λ r. r.0) (ranges_of R) ≡ firsts_of R
firsts_same [] = refl
firsts_same (r ∷ R) = ap (λ l. r.first ∷ l) (firsts_same R)

lasts_same : (R : List Range) → map (λ r. r.1) (ranges_of R) ≡ lasts_of R
lasts_same [] = refl
lasts_same (r ∷ R) = ap (λ l. r.last ∷ l) (lasts_same R)

-- runs given by their first numbers
ranges_from : (n : ℕ) (T : NumberSet) (lasts : List ℕ) (l : List ℕ) → AllByRecursion (λ g. (g + steps_to_end n T lasts g) % 2 ^ n ≡ last_from n T g) l →
    ranges_of (map (run_from n T lasts) l) ≡ map (λ f. (f, last_from n T f)) l
ranges_from n T lasts [] h = refl
ranges_from n T lasts (g ∷ l) h = ap₂ (λ (x : ℕ) (k : List (ℕ × ℕ)). (g, x) ∷ k) h.0 (ranges_from n T lasts l h.1)

-- a table that holds the runs of its own set, and an edit in the width
module _ (n : ℕ) (R : List Range) (e : Edit) (few : n ≤ 64) (w : edit_in_width n e ≡ true) (own : ranges_of R ≡ runs n (in_ranges (ranges_of R))) where
  abbrev old_set : NumberSet
  old_set = in_ranges (ranges_of R)

  abbrev new_set : NumberSet
  new_set = set_after R e

  abbrev candidates : List ℕ
  candidates = below_and_above (first_candidate n e) (firsts_of R)

  abbrev kept : List ℕ
  kept = filter (begins n new_set) candidates

  firsts_are : map (λ r. r.0) (runs n old_set) ≡ firsts_of R
  firsts_are = ap (map (λ r. r.0)) (sym own) ∙ firsts_same R

  lasts_are : map (λ r. r.1) (runs n old_set) ≡ lasts_of R
  lasts_are = ap (map (λ r. r.1)) (sym own) ∙ lasts_same R

  proper : AllByRecursion (λ r. ProperRun n r.0 r.1) (runs n old_set)
  proper = (are_runs n old_set).proper

  firsts_ascend : Ascending (firsts_of R)
  firsts_ascend = rw firsts_are at (pairs_map (λ r. r.0) (λ x y. x < y) {P = λ r. ProperRun n r.0 r.1} {R = λ r q. r.0 < q.0} (λ r q g h o. o) (runs n old_set) proper (are_runs n old_set).ascending)

  firsts_low : AllByRecursion (λ x. x < 2 ^ n) (firsts_of R)
  firsts_low = rw firsts_are at (all_map (λ r. r.0) (λ x. x < 2 ^ n) {P = λ r. ProperRun n r.0 r.1} (λ r p. p.first_fits) (runs n old_set) proper)

  lasts_low : AllByRecursion (λ x. x < 2 ^ n) (lasts_of R)
  lasts_low = rw lasts_are at (all_map (λ r. r.1) (λ x. x < 2 ^ n) {P = λ r. ProperRun n r.0 r.1} (λ r p. p.last_fits) (runs n old_set) proper)

  ascend : Ascending candidates
  ascend = candidates_ascend (first_candidate n e) (firsts_of R) firsts_ascend

  low : AllByRecursion (λ x. x < 2 ^ n) candidates
  low = candidates_below (first_candidate n e) (firsts_of R) (2 ^ n) (first_candidate_fits n e w) firsts_low

  -- every begin is a candidate
  begin_in : (x : ℕ) → x < 2 ^ n → begins n new_set x ≡ true → In x candidates
  begin_in x hx b = elim (new_begin n e old_set x w hx b) [
    | inl o ↦ old_in (first_candidate n e) (firsts_of R) x (rw firsts_are at (begin_listed n old_set x hx o))
    | inr q ↦ rw q (new_in (first_candidate n e) (firsts_of R))
  ]

  -- every end is among the lasts
  end_in : (x : ℕ) → x < 2 ^ n → ends n new_set x ≡ true → In x (new_lasts n e R)
  end_in x hx b = elim (new_end n e old_set x w hx b) [
    | inl o ↦ inr (rw lasts_are at (end_listed n old_set x hx o))
    | inr q ↦ inl q
  ]

  ranges_are : ranges_of (new_runs n e R) ≡ map (λ f. (f, last_from n new_set f)) kept
  unfolding new_runs
  ranges_are = ranges_from n new_set (new_lasts n e R) kept (all_both {P = λ g. g < 2 ^ n} {Q = λ g. begins n new_set g ≡ true} {R = λ g. (g + steps_to_end n new_set (new_lasts n e R) g) % 2 ^ n ≡ last_from n new_set g}
      (λ g hg b. nearest_end n new_set (new_lasts n e R) few (last_candidate_fits n e w, lasts_low) end_in g hg b) kept
      (all_kept_by (begins n new_set) (λ g. g < 2 ^ n) candidates low) (kept_by_passes (begins n new_set) candidates))

  -- with a number outside the set
  not_whole : (z : ℕ) → z < 2 ^ n → new_set z ≡ false → ranges_of (new_runs n e R) ≡ runs n new_set
  not_whole z hz sz = ranges_are ∙ sym (runs_of_candidates n new_set z hz sz candidates ascend low (λ x hx b. has_from_in candidates x (begin_in x hx b)))

  nowhere_begun : kept ≡ [] → (x : ℕ) → x < 2 ^ n → begins n new_set x ≡ false
  nowhere_begun none x hx = elim (cases_Bool (begins n new_set x)) [
    | inl b ↦ absurd (rw none at (kept_in (begins n new_set) candidates x (begin_in x hx b) b))
    | inr b ↦ b
  ]

  first_kept : (g : ℕ) (l : List ℕ) → kept ≡ g ∷ l → begins n new_set g ≡ true
  first_kept g l q = (subst (AllByRecursion (λ x. begins n new_set x ≡ true)) q (kept_by_passes (begins n new_set) candidates)).0

  none_run : kept ≡ [] → new_runs n e R ≡ []
  unfolding new_runs
  none_run q = ap (map (run_from n new_set (new_lasts n e R))) q

  no_kept : new_runs n e R ≡ [] → kept ≡ []
  unfolding new_runs
  no_kept none = unmapped kept none
    where
      unmapped : (l : List ℕ) → map (run_from n new_set (new_lasts n e R)) l ≡ [] → l ≡ []
      unmapped [] q = refl
      unmapped (x ∷ l) q = let z : ◌≡◌ {A = ℕ} 0 1 = cc in absurd (omega arith)

-- nothing kept after an addition
circle_left : (n : ℕ) (R : List Range) (e : Edit) → n ≤ 64 → edit_in_width n e ≡ true → ranges_of R ≡ runs n (in_ranges (ranges_of R)) →
    new_runs n e R ≡ [] → adding e ≡ true → runs n (set_after R e) ≡ (0, 2 ^ n - 1) ∷ []
circle_left n R (Drop r) few w own none a = absurd (true≢false (sym a))
circle_left n R (Add r) few w own none a =
    let p = ends_fit n r.first r.last w in
    let in_set = or_right (in_ranges (ranges_of R) r.first) (in_range r.first r.last r.first) (first_inside n r.first r.last p.0 p.1) in
    let same = all_or_none n (set_after R (Add r)) (nowhere_begun n R (Add r) few w own (no_kept n R (Add r) few w own none)) in
    runs_of_circle n (set_after R (Add r)) (λ x hx. same x hx ∙ sym (same r.first p.0) ∙ in_set)

-- and in every other case
runs_left : (n : ℕ) (R : List Range) (e : Edit) → n ≤ 64 → edit_in_width n e ≡ true → ranges_of R ≡ runs n (in_ranges (ranges_of R)) →
    (new_runs n e R ≡ [] → adding e ≡ true → ⊥) → ranges_of (new_runs n e R) ≡ runs n (set_after R e)
runs_left n R (Add r) few w own some = go (kept n R (Add r) few w own) refl
  where
    go : (k : List ℕ) → kept n R (Add r) few w own ≡ k → ranges_of (new_runs n (Add r) R) ≡ runs n (set_after R (Add r))
    go [] q = absurd (some (none_run n R (Add r) few w own q) refl)
    go (g ∷ k) q = not_whole n R (Add r) few w own (before n g) (before_fits n g) (begins_out n (set_after R (Add r)) g (first_kept n R (Add r) few w own g k q))
runs_left n R (Drop r) few w own some =
    let p = ends_fit n r.first r.last w in
    not_whole n R (Drop r) few w own r.first p.0
    (and_right (in_ranges (ranges_of R) r.first) (not (in_range r.first r.last r.first)) (not_from_true (in_range r.first r.last r.first) (first_inside n r.first r.last p.0 p.1)))

-- the table of any set, and an edit in the width
module _ (n : ℕ) (R : List Range) (e : Edit) (S : NumberSet) (few : n ≤ 64) (w : edit_in_width n e ≡ true) (is : ranges_of R ≡ runs n S) where
  same_set : (x : ℕ) → x < 2 ^ n → in_ranges (ranges_of R) x ≡ S x
  same_set x hx = ap (λ l. in_ranges l x) is ∙ (are_runs n S).covering x hx

  own_runs : ranges_of R ≡ runs n (in_ranges (ranges_of R))
  own_runs = is ∙ sym (equal_sets n (in_ranges (ranges_of R)) S same_set)

  after_edit : runs n (set_after R e) ≡ runs n (edited e S)
  after_edit = equal_sets n (set_after R e) (edited e S) (λ x hx. edited_same e (in_ranges (ranges_of R)) S x (same_set x hx))

  pub whole_after : new_runs n e R ≡ [] → adding e ≡ true → (0, 2 ^ n - 1) ∷ [] ≡ runs n (edited e S)
  whole_after none a = sym (circle_left n R e few w own_runs none a) ∙ after_edit

  pub runs_after : (new_runs n e R ≡ [] → adding e ≡ true → ⊥) → ranges_of (new_runs n e R) ≡ runs n (edited e S)
  runs_after some = runs_left n R e few w own_runs some ∙ after_edit
