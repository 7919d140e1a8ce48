-- The letters of a row, one after the other.
use Rattle.std.proofs.Common.{◌≡◌, ℕ, zero, suc, ◌-◌, ◌<◌, List, [], ◌∷◌, ◌++◌, map, sym, ap, ◌∙◌, append_assoc, arith}
use Rattle.covers.specs.Symbols.{letter}
use Rattle.covers.specs.Words.{symbols, symbol_at}

symbols_step : (p value care : ℕ) → 0 < p → symbols p value care ≡ symbol_at value care (p - 1) ∷ symbols (p - 1) value care
symbols_step zero value care h = absurd (omega arith)
symbols_step (suc m) value care h = let e : m ≡ suc m - 1 = omega arith in ap (λ k. symbol_at value care k ∷ symbols k value care) e

-- one letter more
pub letters_more : (done all : List ℕ) (p value care : ℕ) → 0 < p → done ++ map letter (symbols p value care) ≡ all →
    (done ++ letter (symbol_at value care (p - 1)) ∷ []) ++ map letter (symbols (p - 1) value care) ≡ all
letters_more done all p value care h is =
    append_assoc done (letter (symbol_at value care (p - 1)) ∷ []) (map letter (symbols (p - 1) value care)) ∙
    ap (λ r. done ++ map letter r) (sym (symbols_step p value care h)) ∙ is
