-- The list of a range: exact, shortest, and not long.
use Rattle.std.proofs.Common.{◌≡◌, ℕ, ◌+◌, ◌^◌, ◌<◌, ◌≤◌, Bool, true, false, eqb, length, refl, ◌∙◌, arith, pow_pos}
use Rattle.std.proofs.lemmas.Bool.{eqb-true, eqb-false}
use Rattle.std.proofs.lemmas.Bool.Decides.{nat_tests}
use Rattle.covers.specs.Rules.{run_first, run_last, rows_of_range, most_rows}
use Rattle.covers.specs.Rivals.{in_range, TakesPrecisely, Shortest}
use Rattle.covers.specs.Theorems.{Run}
use Rattle.covers.proofs.Exactness.{run_exact}
use Rattle.covers.proofs.Shortness.{shortest}
use Rattle.covers.proofs.RowCounts.{lists_few}
use Rattle.covers.proofs.RowLengths.{Long, run_rows_long}

module _ (n f l : ℕ) (hf : f < 2 ^ n) (hl : l < 2 ^ n) where
  pub range_run : Run n (run_first f l) (run_last n f l)
  range_run = go (eqb f (l + 1)) refl
    where
      go : (t : Bool) → eqb f (l + 1) ≡ t → Run n (run_first f l) (run_last n f l)
      go true e = rw e (let p = pow_pos n in record { first_fits = omega arith; last_fits = omega arith; proper = λ k. omega arith })
      go false e = rw e (record { first_fits = hf; last_fits = hl; proper = eqb-false f (l + 1) e })

  pub range_numbers : (x : ℕ) → x < 2 ^ n → in_range (run_first f l) (run_last n f l) x ≡ in_range f l x
  range_numbers x hx = go (eqb f (l + 1)) refl
    where
      go : (t : Bool) → eqb f (l + 1) ≡ t → in_range (run_first f l) (run_last n f l) x ≡ in_range f l x
      go true e = let k = eqb-true f (l + 1) e in rw e (let p = pow_pos n in grind (arith, nat_tests))
      go false e = rw e

  pub range_exact : TakesPrecisely n (rows_of_range n f l) (in_range f l)
  unfolding rows_of_range
  range_exact x hx = run_exact n (run_first f l) (run_last n f l) range_run x hx ∙ range_numbers x hx

  pub range_shortest : Shortest n (rows_of_range n f l)
  unfolding rows_of_range
  range_shortest = shortest n (run_first f l) (run_last n f l) range_run

pub range_long : (n f l : ℕ) → Long n (rows_of_range n f l)
unfolding rows_of_range
range_long n f l = run_rows_long n (run_first f l) (run_last n f l)

pub range_few : (n f l : ℕ) → 1 ≤ n → length (rows_of_range n f l) ≤ most_rows n
unfolding rows_of_range
range_few n f l h = lists_few n (run_first f l) (run_last n f l) h

pub most_few : (n : ℕ) → n ≤ 32 → most_rows n ≤ 62
most_few n h = grind (arith, nat_tests)
