-- What an edit of a table answers.
use Rattle.std.proofs.Common.{◌≡◌, ℕ, ◌-◌, ◌^◌, ◌<◌, ◌≤◌, true, List, [], ◌∷◌, filter, length, Ok, Err, sym, refl, ap, ◌∙◌, arith}
use Rattle.std.proofs.lemmas.List.{length-map}
use Rattle.covers.specs.Rivals.{NumberSet}
use Rattle.circle.specs.Runs.{begins, runs}
use Rattle.rows.specs.declared.refusal.Refusal.TheVariants.{TooManyRuns}
use Rattle.rows.specs.declared.range.Range.{Range}
use Rattle.rows.specs.declared.edit.Edit.{Edit}
use Rattle.run_table.specs.declared.table.RunTable.{RunTable}
use Rattle.rows.specs.Ranges.{ranges_of}
use Rattle.run_table.specs.Tables.{table_runs}
use Rattle.rows.specs.Edits.{adding, edit_in_width, edited}
use Rattle.run_table.specs.NewRuns.{below_and_above, first_candidate, firsts_left, firsts_of, new_lasts, new_runs, run_from, set_after}
use Rattle.run_table.specs.Answers.{EditAnswered}
use Rattle.run_table.proofs.EditedRuns.{firsts_same, whole_after, runs_after}
use Rattle.run_table.proofs.Tables.{table_few}

-- as many runs are computed as ranges are left
pub left_counted : (n : ℕ) (e : Edit) (R : List Range) (ranges : List (ℕ × ℕ)) → ranges_of R ≡ ranges → length (new_runs n e R) ≡ length (firsts_left n e ranges)
unfolding new_runs
left_counted n e R ranges stands =
    let firsts = filter (begins n (set_after R e)) (below_and_above (first_candidate n e) (firsts_of R)) in
    length-map firsts (run_from n (set_after R e) (new_lasts n e R)) ∙
    ap (λ (F : List ℕ). length (filter (begins n (set_after R e)) (below_and_above (first_candidate n e) F))) (sym (firsts_same R)) ∙
    ap (λ (l : List (ℕ × ℕ)). length (firsts_left n e l)) stands

-- the table of a set
module _ (t : RunTable) (n : ℕ) (e : Edit) (S : NumberSet) (R : List Range) (few : n ≤ 64) (w : edit_in_width n e ≡ true) (stands : ranges_of R ≡ table_runs t) (is : table_runs t ≡ runs n S) where
  ranges_are : ranges_of R ≡ runs n S
  ranges_are = stands ∙ is

  with_table : (u : RunTable) → table_runs u ≡ runs n (edited e S) → EditAnswered n e S (Ok u)
  with_table u q = let k = ap length q in let h = table_few u in (q, omega arith)

  pub answered_whole : new_runs n e R ≡ [] → adding e ≡ true → (u : RunTable) → table_runs u ≡ (0, 2 ^ n - 1) ∷ [] → EditAnswered n e S (Ok u)
  answered_whole none a u q = with_table u (q ∙ whole_after n R e S few w ranges_are none a)

  pub answered_runs : (new_runs n e R ≡ [] → adding e ≡ true → ⊥) → (u : RunTable) → table_runs u ≡ ranges_of (new_runs n e R) → EditAnswered n e S (Ok u)
  answered_runs some u q = with_table u (q ∙ runs_after n R e S few w ranges_are some)

  pub answered_many : 16 < length (new_runs n e R) → EditAnswered n e S (Err TooManyRuns)
  answered_many h =
      let k = ap length (runs_after n R e S few w ranges_are (λ none a. let z = ap length none in omega arith)) in
      let m : length (ranges_of (new_runs n e R)) ≡ length (new_runs n e R) = length-map (new_runs n e R) (λ r. (r.first, r.last)) in
      (refl, omega arith)
