-- Tables and their runs.
use Rattle.std.proofs.Common.{◌≡◌, ℕ, ◌-◌, ◌^◌, ◌<◌, ◌≤◌, min, true, false, ◌||◌, List, [], ◌∷◌, ◌++◌, length, take, sym, refl, ap, ◌∙◌, arith, length-take}
use Rattle.std.proofs.lemmas.List.{length-map, take_at}
use Rattle.std.specs.List.{list_any}
use Rattle.covers.specs.Rivals.{NumberSet, in_range, in_ranges}
use Rattle.circle.specs.Runs.{runs}
use Rattle.circle.proofs.Runs.{are_runs, determined, runs_of_circle}
use Rattle.rows.specs.declared.range.Range.{Range}
use Rattle.run_table.specs.declared.table.RunTable.{RunTable}
use Rattle.rows.specs.Ranges.{ranges_of}
use Rattle.run_table.specs.Tables.{TableOf, standing, table_runs}

-- at most 16 entries stand
pub standing_few : (t : RunTable) → length (standing t) ≤ 16
standing_few t = let e = length-take (min t.count 16) t.runs in omega arith

pub table_length : (t : RunTable) → length (table_runs t) ≡ length (standing t)
unfolding table_runs
table_length t = length-map (standing t) (λ r. (r.first, r.last))

pub table_few : (t : RunTable) → length (table_runs t) ≤ 16
table_few t = let e = table_length t in let h = standing_few t in omega arith

-- whether one of the runs has a number
pub any_in_ranges : (R : List Range) (x : ℕ) → list_any (λ r. in_range r.first r.last x) R ≡ in_ranges (ranges_of R) x
any_in_ranges [] x = refl
any_in_ranges (r ∷ R) x = ap (λ b. in_range r.first r.last x || b) (any_in_ranges R x)

-- runs at the start of an array, and their number
pub held_runs : (R front rest : List Range) → front ≡ R → length R ≤ 16 → take (min (length R) 16) (front ++ rest) ≡ R
held_runs R front rest e h = let k = ap length e in take_at front rest (min (length R) 16) (omega arith) ∙ e

-- the runs of no number and of every number
pub of_none : (n : ℕ) → [] ≡ runs n (λ _. false)
of_none n = determined n (λ _. false) [] (record { proper = tt; covering = λ x h. refl; longest = tt; ascending = tt })

pub of_all : (n : ℕ) → (0, 2 ^ n - 1) ∷ [] ≡ runs n (λ _. true)
of_all n = sym (runs_of_circle n (λ _. true) (λ x h. refl))

-- the numbers of a table of a set
pub numbers_of : (n : ℕ) (S : NumberSet) (t : RunTable) → TableOf n S t → (x : ℕ) → x < 2 ^ n → in_ranges (table_runs t) x ≡ S x
numbers_of n S t e x h = ap (λ l. in_ranges l x) e ∙ (are_runs n S).covering x h
