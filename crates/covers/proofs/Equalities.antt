-- Comparisons that are equality.
use Rattle.std.proofs.Common.{◌≡◌, Bool, true, Some, None, refl, ap, subst}
use Rattle.std.proofs.lemmas.Bool.{false≢true}
use Rattle.std.specs.Prelude.{Option}
use Rattle.std.specs.Option.{option_eq}
use Rattle.covers.specs.Equality.{IsEquality}

-- of options, where it is one of what they hold
module _ {X : Type 0} {eq : X → X → Bool} (is : IsEquality eq) where
  same : (a b : Option X) → option_eq eq a b ≡ true → a ≡ b
  same None None e = refl
  same None (Some y) e = absurd (false≢true e)
  same (Some x) None e = absurd (false≢true e)
  same (Some x) (Some y) e = ap Some (is.same x y e)

  itself : (a : Option X) → option_eq eq a a ≡ true
  itself None = refl
  itself (Some x) = is.yes x x refl

  pub option_equality : IsEquality (option_eq eq)
  option_equality = record { same = same; yes = λ a b e. subst (λ c. option_eq eq a c ≡ true) e (itself a) }
