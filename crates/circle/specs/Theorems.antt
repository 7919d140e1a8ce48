-- What the runs of a set are, and the theorems about them.
use Rattle.std.specs.Prelude.{◌≡◌, ℕ, ◌-◌, ◌^◌, ◌<◌, true, false, ◌⊎◌, List, [], ◌∷◌, length}
use Rattle.std.specs.List.{AllByRecursion}
use Rattle.covers.specs.Rules.{rows_of_runs}
use Rattle.covers.specs.Rivals.{NumberSet, in_range, in_ranges, Pairs, TakesPrecisely, Shortest, Within}
use Rattle.covers.specs.Theorems.{Run}
use Rattle.circle.specs.Runs.{before, after, begins, ends, last_from, rows_of_set, runs}

-- every number from f up the circle to l is in the set, and the number after l is not
pub record Stretch (n : ℕ) (S : NumberSet) (f l : ℕ) : Type 0 where
  pub fits : l < 2 ^ n
  pub ended : ends n S l ≡ true
  pub unbroken : (x : ℕ) → x < 2 ^ n → in_range f l x ≡ true → S x ≡ true

-- where a run begins, `last_from` is the one end of an unbroken stretch
pub record LastsDetermined : Type 0 where
  pub stretches : (n : ℕ) (S : NumberSet) (f : ℕ) → f < 2 ^ n → begins n S f ≡ true → Stretch n S f (last_from n S f)
  pub no_other : (n : ℕ) (S : NumberSet) (f l : ℕ) → f < 2 ^ n → begins n S f ≡ true → Stretch n S f l → l ≡ last_from n S f

-- a run cannot be lengthened: it is the whole circle, or the numbers right before and after it are not in the set
abbrev pub Longest : ℕ → NumberSet → ℕ × ℕ → Type 0
Longest n S r = ((r.0 ≡ 0) × (r.1 ≡ 2 ^ n - 1)) ⊎ ((S (before n r.0) ≡ false) × (S (after n r.1) ≡ false))

-- the ranges are the longest unbroken stretches of the set, in ascending order of their first numbers
pub record IsRuns (n : ℕ) (S : NumberSet) (ranges : List (ℕ × ℕ)) : Type 0 where
  -- both ends of each are on the circle, and one that goes round leaves a number out
  pub proper : AllByRecursion (λ r. Run n r.0 r.1) ranges
  -- together they have just the numbers of the set
  pub covering : (x : ℕ) → x < 2 ^ n → in_ranges ranges x ≡ S x
  pub longest : AllByRecursion (Longest n S) ranges
  pub ascending : Pairs (λ r q. r.0 < q.0) ranges

-- `runs` are the runs of the set
abbrev pub RunsAreRuns : Type 0
RunsAreRuns = (n : ℕ) (S : NumberSet) → IsRuns n S (runs n S)

-- no other list is
abbrev pub RunsDetermined : Type 0
RunsDetermined = (n : ℕ) (S : NumberSet) (ranges : List (ℕ × ℕ)) → IsRuns n S ranges → ranges ≡ runs n S

-- sets with the same numbers on the circle have the same runs
abbrev pub RunsOfEqualSets : Type 0
RunsOfEqualSets = (n : ℕ) (S T : NumberSet) → ((x : ℕ) → x < 2 ^ n → S x ≡ T x) → runs n S ≡ runs n T

-- the ranges do not touch on the circle: the numbers right before and after each are in none of them, also those round from
-- 2 ^ n − 1 to 0; the whole circle has no neighbours
abbrev pub Untouched : ℕ → List (ℕ × ℕ) → Type 0
Untouched n ranges = AllByRecursion (Longest n (in_ranges ranges)) ranges

-- which ranges of width 3 touch
pub record UntouchedAsWritten : Type 0 where
  -- 0 to 1 and 6 to 7 touch round the circle, 1 to 2 and 3 to 4 in line
  pub round : Untouched 3 ((0, 1) ∷ (6, 7) ∷ []) → ⊥
  pub in_line : Untouched 3 ((1, 2) ∷ (3, 4) ∷ []) → ⊥
  -- between 0 to 1 and 3 to 6 there are 2 and 7
  pub apart : Untouched 3 ((0, 1) ∷ (3, 6) ∷ [])
  pub circle : Untouched 3 ((0, 7) ∷ [])

-- on the way up the circle from the last number of r to the first of q is a number that neither has
abbrev pub Between : ℕ → ℕ × ℕ → ℕ × ℕ → Type 0
Between n r q = (x : ℕ) × (x < 2 ^ n) × (in_range r.1 q.0 x ≡ true) × (in_range r.0 r.1 x ≡ false) × (in_range q.0 q.1 x ≡ false)

-- the runs do not touch
pub record RunsUntouched : Type 0 where
  pub proper : (n : ℕ) (S : NumberSet) → AllByRecursion (λ r. Run n r.0 r.1) (runs n S)
  pub untouched : (n : ℕ) (S : NumberSet) → Untouched n (runs n S)
  -- any two are apart, also the later one from the earlier round the circle
  pub apart : (n : ℕ) (S : NumberSet) → Pairs (λ r q. Between n r q × Between n q r) (runs n S)

-- the lists of any k runs that do not touch have at most 2 · k times the rows of any rival
abbrev pub UntouchedBounded : Type 0
UntouchedBounded = (n : ℕ) (ranges : List (ℕ × ℕ)) → AllByRecursion (λ r. Run n r.0 r.1) ranges → Untouched n ranges →
    Within (length ranges) n (rows_of_runs n ranges)

-- the rows of k runs take just the set and are at most 2 · k times those of any rival; those of one run are the fewest; each has
-- as many symbols as the width has digits
pub record RowsOfRuns : Type 0 where
  pub of_width : (n : ℕ) (S : NumberSet) → AllByRecursion (λ row. length row ≡ n) (rows_of_set n S)
  pub exact : (n : ℕ) (S : NumberSet) → TakesPrecisely n (rows_of_set n S) S
  pub bounded : (n : ℕ) (S : NumberSet) → Within (length (runs n S)) n (rows_of_set n S)
  pub shortest : (n : ℕ) (S : NumberSet) → length (runs n S) ≡ 1 → Shortest n (rows_of_set n S)
