-- The theorems, in numbers.
use Rattle.std.specs.Prelude.{◌≡◌, ℕ, ◌+◌, ◌^◌, ◌<◌, ◌≤◌, false, ◌⊎◌, List, length, ◌==◌, bit_and}
use Rattle.std.specs.List.{AllByRecursion}
use Rattle.covers.specs.Digits.{Digits, digits, value}
use Rattle.covers.specs.Symbols.{Symbols, takes}
use Rattle.covers.specs.Words.{value_word, care_word, symbols}
use Rattle.covers.specs.Rules.{rows_of_run, rows_of_runs, most_rows}
use Rattle.covers.specs.Rivals.{NumberSet, in_range, in_ranges, TakesPrecisely, Shortest, Within, Witness}

-- digits and back, from either side
pub record DigitsAndBack : Type 0 where
  pub number_back : (n x : ℕ) → x < 2 ^ n → value (digits n x) ≡ x
  pub digits_back : (u : Digits) → digits (length u) (value u) ≡ u

-- the words of a row and its symbols, from either side; and what a row takes, by its words
pub record WordsAndBack : Type 0 where
  pub symbols_back : (r : Symbols) → symbols (length r) (value_word r) (care_word r) ≡ r
  pub value_fits : (r : Symbols) → value_word r < 2 ^ length r
  pub care_fits : (r : Symbols) → care_word r < 2 ^ length r
  pub words_back : (n value care : ℕ) → value < 2 ^ n → care < 2 ^ n → bit_and value care ≡ value →
      (value_word (symbols n value care) ≡ value) × (care_word (symbols n value care) ≡ care)
  pub takes_by_mask : (n value care x : ℕ) → value < 2 ^ n → care < 2 ^ n → bit_and value care ≡ value →
      takes (symbols n value care) (digits n x) ≡ (bit_and x care == value)

-- a run at width n: both ends are numbers of the width, and where it goes round it leaves a number out
pub record Run (n f l : ℕ) : Type 0 where
  pub first_fits : f < 2 ^ n
  pub last_fits : l < 2 ^ n
  pub proper : f ≡ l + 1 → ⊥

-- the list of a run takes just the numbers of the run
abbrev pub ListsExact : Type 0
ListsExact = (n f l : ℕ) → Run n f l → TakesPrecisely n (rows_of_run n f l) (in_range f l)

-- the list of a run has at most 2n − 2 rows, or one where n is 1
abbrev pub ListsFew : Type 0
ListsFew = (n f l : ℕ) → 1 ≤ n → length (rows_of_run n f l) ≤ most_rows n

-- a witness of a set is no longer than any list that takes precisely the set
abbrev pub LowerBound : Type 0
LowerBound = (n : ℕ) (S : NumberSet) (numbers : List ℕ) (rows : List Symbols) →
    Witness n S numbers → TakesPrecisely n rows S → length numbers ≤ length rows

-- every run has a witness of as many numbers as its list has rows
abbrev pub ListsWitnessed : Type 0
ListsWitnessed = (n f l : ℕ) → Run n f l →
    (numbers : List ℕ) × (length numbers ≡ length (rows_of_run n f l)) × Witness n (in_range f l) numbers

-- no list that takes just the numbers of a run is shorter than ours
abbrev pub ListsShortest : Type 0
ListsShortest = (n f l : ℕ) → Run n f l → Shortest n (rows_of_run n f l)

-- the numbers right beside a run, counted in line and not round from 2 ^ n − 1 to 0, are in none of the runs
abbrev pub ApartInLine : ℕ → List (ℕ × ℕ) → ℕ × ℕ → Type 0
ApartInLine n runs r = (x : ℕ) → x < 2 ^ n → (x + 1 ≡ r.0) ⊎ (x ≡ r.1 + 1) → in_ranges runs x ≡ false

-- the lists of k runs take just the numbers of the runs, and have at most 2 · k times the rows of any rival if the runs are
-- apart in line, even where two of them touch from 2 ^ n − 1 round to 0
pub record SeveralRuns : Type 0 where
  pub exact : (n : ℕ) (runs : List (ℕ × ℕ)) → AllByRecursion (λ r. Run n r.0 r.1) runs → TakesPrecisely n (rows_of_runs n runs) (in_ranges runs)
  pub bounded : (n : ℕ) (runs : List (ℕ × ℕ)) → AllByRecursion (λ r. Run n r.0 r.1) runs → AllByRecursion (ApartInLine n runs) runs →
      Within (length runs) n (rows_of_runs n runs)
