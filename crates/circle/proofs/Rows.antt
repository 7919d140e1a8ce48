-- The rows of the runs of a set.
use Rattle.std.proofs.Common.{◌≡◌, ℕ, false, List, [], ◌∷◌, length, sym, refl, ap, ◌∙◌, subst, arith}
use Rattle.std.specs.List.{AllByRecursion}
use Rattle.std.proofs.lemmas.List.{append-nil}
use Rattle.covers.specs.Rules.{rows_of_run, rows_of_runs}
use Rattle.covers.specs.Rivals.{Shortest}
use Rattle.covers.specs.Theorems.{Run}
use Rattle.covers.proofs.Exactness.{runs_exact}
use Rattle.covers.proofs.Lists.{all_join}
use Rattle.covers.proofs.RowLengths.{Long, run_rows_long}
use Rattle.covers.proofs.Shortness.{shortest}
use Rattle.circle.specs.Runs.{rows_of_set, runs}
use Rattle.circle.specs.Theorems.{RowsOfRuns}
use Rattle.circle.proofs.Runs.{are_runs, determined}
use Rattle.circle.proofs.Untouched.{untouched, untouched_bounded}

runs_long : (n : ℕ) (runs : List (ℕ × ℕ)) → Long n (rows_of_runs n runs)
runs_long n [] = tt
runs_long n (r ∷ runs) = all_join (λ q. length q ≡ n) (rows_of_run n r.0 r.1) (rows_of_runs n runs) (run_rows_long n r.0 r.1) (runs_long n runs)

-- one run
one_shortest : (n : ℕ) (ranges : List (ℕ × ℕ)) → AllByRecursion (λ r. Run n r.0 r.1) ranges → length ranges ≡ 1 → Shortest n (rows_of_runs n ranges)
one_shortest n [] h e = absurd (omega arith)
one_shortest n (r ∷ []) h e = subst (Shortest n) (sym (append-nil (rows_of_run n r.0 r.1))) (shortest n r.0 r.1 h.0)
one_shortest n (r ∷ q ∷ ranges) h e = absurd (omega arith)

pub rows : RowsOfRuns
rows = record {
  of_width = λ n S. runs_long n (runs n S);
  exact = λ n S x hx. runs_exact n (runs n S) (are_runs n S).proper x hx ∙ (are_runs n S).covering x hx;
  bounded = λ n S. untouched_bounded n (runs n S) (are_runs n S).proper (untouched n S (runs n S) (are_runs n S));
  shortest = λ n S. one_shortest n (runs n S) (are_runs n S).proper;
}

-- the empty set has no runs, and no rows
pub no_runs : (n : ℕ) → runs n (λ _. false) ≡ []
no_runs n = sym (determined n (λ _. false) [] (record { proper = tt; covering = λ x h. refl; longest = tt; ascending = tt }))

pub no_rows : (n : ℕ) → rows_of_set n (λ _. false) ≡ []
no_rows n = ap (rows_of_runs n) (no_runs n)
