-- How the runs of the set after an edit are computed: terms for the contracts of the private functions, and for how many
-- ranges an edit leaves where those before it are the runs of no set.
use Rattle.std.specs.Prelude.{ℕ, ◌+◌, ◌-◌, ◌%◌, ◌^◌, min, Bool, cond, List, [], ◌∷◌, ◌++◌, map, filter, nat_lt}
use Rattle.covers.specs.Rivals.{NumberSet, in_ranges}
use Rattle.circle.specs.Runs.{before, after, begins, ends}
use Rattle.rows.specs.declared.range.Range.{Range}
use Rattle.rows.specs.declared.edit.Edit.{Edit}
use Rattle.rows.specs.declared.edit.Edit.TheVariants.{Add, Drop}
use Rattle.rows.specs.Edits.{edited}
use Rattle.rows.specs.Ranges.{ranges_of}

-- where a run may begin after the edit and did not before
abbrev pub first_candidate : ℕ → Edit → ℕ
first_candidate n (Add range) = range.first
first_candidate n (Drop range) = after n range.last

-- where a run may end after the edit and did not before
abbrev pub last_candidate : ℕ → Edit → ℕ
last_candidate n (Add range) = range.last
last_candidate n (Drop range) = before n range.first

-- how many steps up the circle lead from one number to another: 2 ^ 64 steps are whole turns
abbrev pub steps : ℕ → ℕ → ℕ → ℕ
steps n from to = (to + 2 ^ 64 - from) % 2 ^ n

-- the set after the edit, by the runs before it
abbrev pub set_after : List Range → Edit → NumberSet
set_after runs e = edited e (in_ranges (ranges_of runs))

-- the least d of the numbers that pass the test, or what is given if none is less
abbrev pub least_of : (ℕ → Bool) → (ℕ → ℕ) → ℕ → List ℕ → ℕ
least_of p d least [] = least
least_of p d least (x ∷ l) = least_of p d (cond (p x) (min least (d x)) least) l

-- the fewest steps that lead from g up the circle to one of the numbers at which a run of the set ends, 2 ^ n if there is none
unfoldable pub steps_to_end : ℕ → NumberSet → List ℕ → ℕ → ℕ
steps_to_end n T lasts g = least_of (ends n T) (steps n g) (2 ^ n) lasts

-- the run from g to the nearest of these ends
abbrev pub run_from : ℕ → NumberSet → List ℕ → ℕ → Range
run_from n T lasts g = record { first = g; last = (g + steps_to_end n T lasts g) % 2 ^ n }

abbrev pub firsts_of : List Range → List ℕ
firsts_of runs = map (λ r. r.first) runs

abbrev pub lasts_of : List Range → List ℕ
lasts_of runs = map (λ r. r.last) runs

-- where a run may end after the edit
abbrev pub new_lasts : ℕ → Edit → List Range → List ℕ
new_lasts n e runs = last_candidate n e ∷ lasts_of runs

-- where a run may begin after the edit, ascending: the old firsts below x, x, and the old firsts above it
abbrev pub below_and_above : ℕ → List ℕ → List ℕ
below_and_above x firsts = filter (λ f. nat_lt f x) firsts ++ x ∷ filter (λ f. nat_lt x f) firsts

-- the first numbers of the ranges that an edit leaves: of those before it, and of the one new number, each at which the set
-- after it begins
abbrev pub firsts_left : ℕ → Edit → List (ℕ × ℕ) → List ℕ
firsts_left n e ranges = filter (begins n (edited e (in_ranges ranges))) (below_and_above (first_candidate n e) (map (λ r. r.0) ranges))

-- the runs of the set after the edit that begin at one of these numbers
abbrev pub runs_at : ℕ → Edit → List Range → List ℕ → List Range
runs_at n e runs firsts = map (run_from n (set_after runs e) (new_lasts n e runs)) (filter (begins n (set_after runs e)) firsts)

-- those that begin at any of the candidates
unfoldable pub new_runs : ℕ → Edit → List Range → List Range
new_runs n e runs = runs_at n e runs (below_and_above (first_candidate n e) (firsts_of runs))
