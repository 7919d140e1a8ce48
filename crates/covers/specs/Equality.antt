-- What it means that a comparison is equality.
use Rattle.std.specs.Prelude.{◌≡◌, Bool, true}

-- it says yes exactly where both values are the same
pub record IsEquality {X : Type 0} (eq : X → X → Bool) : Type 0 where
  pub same : (a b : X) → eq a b ≡ true → a ≡ b
  pub yes : (a b : X) → a ≡ b → eq a b ≡ true
