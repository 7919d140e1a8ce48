-- The runs of a set of numbers on the circle of 2 ^ n numbers, on which 0 follows 2 ^ n - 1.
use Rattle.std.specs.Prelude.{ℕ, zero, suc, ◌+◌, ◌-◌, ◌%◌, ◌^◌, Bool, true, cond, not, ◌&&◌, List, [], ◌∷◌, ◌++◌, map, length, Some, None, Option, nat_lt, slice_index_or}
use Rattle.covers.specs.Rivals.{NumberSet}
use Rattle.covers.specs.Rules.{rows_of_runs}
use Rattle.covers.specs.Symbols.{Symbols}

-- the neighbours of x on the circle; `covers/specs/WitnessNumbers` has them in other sums, on which its proofs stand
abbrev pub before : ℕ → ℕ → ℕ
before n x = (x + (2 ^ n - 1)) % 2 ^ n

abbrev pub after : ℕ → ℕ → ℕ
after n x = (x + 1) % 2 ^ n

-- x is in the set and the number before it is not
abbrev pub begins : ℕ → NumberSet → NumberSet
begins n S x = S x && not (S (before n x))

-- x is in the set and the number after it is not
abbrev pub ends : ℕ → NumberSet → NumberSet
ends n S x = S x && not (S (after n x))

-- the numbers below k that pass the test, ascending
unfoldable pub passing : (ℕ → Bool) → ℕ → List ℕ
passing p zero = []
passing p (suc k) = passing p k ++ cond (p k) (k ∷ []) []

-- every number below k passes the test
unfoldable pub all_below : (ℕ → Bool) → ℕ → Bool
all_below p zero = true
all_below p (suc k) = p k && all_below p k

-- every number of the circle is in the set
unfoldable pub whole : ℕ → NumberSet → Bool
whole n S = all_below S (2 ^ n)

-- where at most k steps up the circle lead from x, as long as the next number is in the set
unfoldable pub climb : ℕ → ℕ → NumberSet → ℕ → ℕ
climb zero n S x = x
climb (suc k) n S x = cond (S (after n x)) (climb k n S (after n x)) x

-- the last number of the unbroken stretch that begins at f
unfoldable pub last_from : ℕ → NumberSet → ℕ → ℕ
last_from n S f = climb (2 ^ n) n S f

-- the runs, each by its first and last number: the whole circle is one run,
-- and otherwise one begins at each number of the set that follows a number outside it
unfoldable pub runs : ℕ → NumberSet → List (ℕ × ℕ)
runs n S = cond (whole n S) ((0, 2 ^ n - 1) ∷ []) (map (λ f. (f, last_from n S f)) (passing (begins n S) (2 ^ n)))

-- the list of a set: those of its runs, one after the other
abbrev pub rows_of_set : ℕ → NumberSet → List Symbols
rows_of_set n S = rows_of_runs n (runs n S)

-- both ends of the run at an index, or nothing beyond the last
abbrev pub run_at : List (ℕ × ℕ) → ℕ → Option (ℕ × ℕ)
run_at list i = cond (nat_lt i (length list)) (Some (slice_index_or list i (0, 0))) None
