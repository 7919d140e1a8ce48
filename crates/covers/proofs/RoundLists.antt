-- The list of a round range is exact.
use Rattle.std.proofs.Common.{◌≡◌, Bool, true, false, not, ◌&&◌, ◌||◌, List, [], ◌∷◌, map, sym, refl, ap, ◌∙◌, ap₂}
use Rattle.std.proofs.lemmas.Bool.{both_ways, true≢false}
use Rattle.covers.specs.declared.symbol.Symbol.TheVariants.{Zero, One}
use Rattle.covers.specs.Digits.{Digits, leq, all_ones, all_zeros}
use Rattle.covers.specs.Symbols.{Symbols, takes, list_takes}
use Rattle.covers.specs.Rules.{across, swap_first, round}
use Rattle.covers.proofs.Witnesses.{Same, outer, Exact, same_sym}
use Rattle.covers.proofs.Order.{ones_most, zeros_least}
use Rattle.covers.proofs.Taken.{or_false, admits_swap, dashes_take, taken_hit}
use Rattle.covers.proofs.StraightLists.{across_exact}

taken_swap_first : (l : List Symbols) (x : Bool) (u : Digits) → list_takes (map swap_first l) (x ∷ u) ≡ list_takes l (not x ∷ u)
taken_swap_first [] x u = refl
taken_swap_first ([] ∷ l) x u = taken_swap_first l x u
taken_swap_first ((s ∷ r) ∷ l) x u = ap₂ ◌||◌ (ap (λ t. t && takes r u) (admits_swap s x)) (taken_swap_first l x u)

pub round_exact : (f l : Digits) → Same f l → leq f l ≡ false → Exact f (outer f l) (round f l)
round_exact [] l s h u t = absurd (true≢false h)
round_exact (x ∷ f) [] s h u t = absurd s
round_exact (x ∷ f) (y ∷ l) s h [] t = absurd t
round_exact (false ∷ f) (false ∷ l) s h (false ∷ u) t = taken_hit Zero false (round f l) u refl ∙ round_exact f l s h u t
round_exact (false ∷ f) (false ∷ l) s h (true ∷ u) t = rw (dashes_take f u t)
round_exact (true ∷ f) (true ∷ l) s h (true ∷ u) t = taken_hit One true (round f l) u refl ∙ round_exact f l s h u t
round_exact (true ∷ f) (true ∷ l) s h (false ∷ u) t = rw (dashes_take f u t)
round_exact (true ∷ f) (false ∷ l) s h (false ∷ u) t = taken_swap_first (across f l) false u ∙ (across_exact f l u s t).1
round_exact (true ∷ f) (false ∷ l) s h (true ∷ u) t = taken_swap_first (across f l) true u ∙ (across_exact f l u s t).0 ∙ sym (or_false (leq f u))
round_exact (false ∷ f) (true ∷ l) s h (z ∷ u) t = absurd (true≢false h)

pub not_ones : (f l : Digits) → Same f l → leq f l ≡ false → all_ones l ≡ false
not_ones f l s h = go (all_ones l) refl
  where
    go : (t : Bool) → all_ones l ≡ t → all_ones l ≡ false
    go true e = absurd (both_ways (leq f l) h (ones_most l f e (same_sym f l s)))
    go false e = e

pub not_zeros : (f l : Digits) → Same f l → leq f l ≡ false → all_zeros f ≡ false
not_zeros f l s h = go (all_zeros f) refl
  where
    go : (t : Bool) → all_zeros f ≡ t → all_zeros f ≡ false
    go true e = absurd (both_ways (leq f l) h (zeros_least f l e s))
    go false e = e
