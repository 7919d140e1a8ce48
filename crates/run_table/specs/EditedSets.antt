-- The set after an edit, and its runs as they are computed: terms for the contracts of the private functions.
use Rattle.std.specs.Prelude.{ℕ, min, cond, List}
use Rattle.covers.specs.Rivals.{NumberSet}
use Rattle.circle.specs.Runs.{ends}
use Rattle.rows.specs.declared.range.Range.{Range}
use Rattle.rows.specs.Widths.{places_of}
use Rattle.run_table.specs.declared.edited_set.EditedSet.{EditedSet}
use Rattle.run_table.specs.NewRuns.{new_lasts, new_runs, run_from, runs_at, set_after, steps, steps_to_end}

-- the set itself
abbrev pub set_of : EditedSet → NumberSet
set_of s = set_after s.runs.now s.edit

-- the steps from a number up to another if a run ends there and they are fewer, else as many as before
abbrev pub nearer : EditedSet → ℕ → ℕ → ℕ → ℕ
nearer s fewest from last =
    cond (ends (places_of s.width) (set_of s) last) (min fewest (steps (places_of s.width) from last)) fewest

-- the fewest steps that lead from a number up the circle to the end of a run
abbrev pub nearest : EditedSet → ℕ → ℕ
nearest s from = steps_to_end (places_of s.width) (set_of s) (new_lasts (places_of s.width) s.edit s.runs.now) from

-- the run that begins at a number
abbrev pub run_at_first : EditedSet → ℕ → Range
run_at_first s first = run_from (places_of s.width) (set_of s) (new_lasts (places_of s.width) s.edit s.runs.now) first

-- the runs that begin at one of these numbers, and all runs
abbrev pub runs_at_firsts : EditedSet → List ℕ → List Range
runs_at_firsts s firsts = runs_at (places_of s.width) s.edit s.runs.now firsts

abbrev pub all_runs : EditedSet → List Range
all_runs s = new_runs (places_of s.width) s.edit s.runs.now
