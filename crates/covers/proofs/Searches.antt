-- What a search through a list answers, as a test of the list.
use Rattle.std.proofs.Common.{◌≡◌, ℕ, zero, suc, ◌<◌, Bool, true, false, ◌||◌, List, [], ◌∷◌, length, sym, ap, ◌∙◌, refl, arith}
use Rattle.std.specs.Bool.{MatchBool}
use Rattle.std.specs.List.{list_any, AllWithin, HoldsAt}

module _ {X : Type 0} (p : X → Bool) where
  or_true : (b : Bool) → (b || true) ≡ true
  or_true true = refl
  or_true false = refl

  some_passes : (xs : List X) (k : ℕ) → k < length xs → HoldsAt (λ x. p x ≡ true) xs k → list_any p xs ≡ true
  some_passes [] k lt h = absurd (omega arith)
  some_passes (x ∷ xs) zero lt h = ap (λ b. b || list_any p xs) (h x)
  some_passes (x ∷ xs) (suc k) lt h = ap (λ b. p x || b) (some_passes xs k (omega arith) (λ d. h d)) ∙ or_true (p x)

  none_passes : (xs : List X) → AllWithin (λ x. p x ≡ false) xs 0 (length xs) → list_any p xs ≡ false
  none_passes [] h = refl
  none_passes (x ∷ xs) h = ap (λ b. b || list_any p xs) (h 0 x (omega arith) (omega arith)) ∙ none_passes xs (λ k d low high. h (suc k) d (omega arith) (omega arith))

  -- the answer of `any`, by what the library says of its two cases
  pub any_is : (r : Bool) (xs : List X) →
      MatchBool r ((k : ℕ) × (k < length xs) × HoldsAt (λ x. p x ≡ true) xs k) (AllWithin (λ x. p x ≡ false) xs 0 (length xs)) → r ≡ list_any p xs
  any_is true xs m = sym (some_passes xs m.0 m.1 m.2)
  any_is false xs m = sym (none_passes xs m)
