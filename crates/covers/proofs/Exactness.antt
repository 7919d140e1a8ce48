-- The list of a run, and the lists of several, take just their numbers.
use Rattle.std.proofs.Common.{◌≡◌, ℕ, ◌^◌, ◌<◌, ◌≤◌, Bool, true, false, ◌&&◌, ◌||◌, leb, List, [], ◌∷◌, refl, ◌∙◌, ap₂}
use Rattle.std.specs.List.{AllByRecursion}
use Rattle.std.proofs.lemmas.Bool.{leb-true, leb-false}
use Rattle.covers.specs.Digits.{digits}
use Rattle.covers.specs.Symbols.{list_takes}
use Rattle.covers.specs.Rules.{straight_rows, round_rows, rows_of_run, rows_of_runs}
use Rattle.covers.specs.Rivals.{in_range, in_ranges, TakesPrecisely}
use Rattle.covers.specs.Theorems.{Run, ListsExact}
use Rattle.covers.proofs.Taken.{taken_append}
use Rattle.covers.proofs.StraightLists.{straight_exact}
use Rattle.covers.proofs.RoundLists.{round_exact}
use Rattle.covers.proofs.Numbers.{same_digits, le_digits, lt_digits, leq_digits}

module _ (n f l x : ℕ) (hf : f < 2 ^ n) (hl : l < 2 ^ n) (hx : x < 2 ^ n) where
  straight_takes : f ≤ l → list_takes (straight_rows n f l) (digits n x) ≡ leb f x && leb x l
  straight_takes h =
      straight_exact (digits n f) (digits n l) (same_digits n f l) (le_digits n f l hf hl h) (digits n x) (same_digits n f x) ∙
      ap₂ ◌&&◌ (leq_digits n f x hf hx) (leq_digits n x l hx hl)

  round_takes : l < f → list_takes (round_rows n f l) (digits n x) ≡ leb f x || leb x l
  round_takes h =
      round_exact (digits n f) (digits n l) (same_digits n f l) (lt_digits n f l hf hl h) (digits n x) (same_digits n f x) ∙
      ap₂ ◌||◌ (leq_digits n f x hf hx) (leq_digits n x l hx hl)

pub run_exact : ListsExact
run_exact n f l r x hx = go (leb f l) refl
  where
    go : (t : Bool) → leb f l ≡ t → list_takes (rows_of_run n f l) (digits n x) ≡ in_range f l x
    go true e = rw e (straight_takes n f l x r.first_fits r.last_fits hx (leb-true f l e))
    go false e = rw e (round_takes n f l x r.first_fits r.last_fits hx (leb-false f l e))

pub runs_exact : (n : ℕ) (runs : List (ℕ × ℕ)) → AllByRecursion (λ r. Run n r.0 r.1) runs → TakesPrecisely n (rows_of_runs n runs) (in_ranges runs)
runs_exact n [] h x hx = refl
runs_exact n (r ∷ runs) h x hx =
    taken_append (rows_of_run n r.0 r.1) (rows_of_runs n runs) (digits n x) ∙
    ap₂ ◌||◌ (run_exact n r.0 r.1 h.0 x hx) (runs_exact n runs h.1 x hx)
