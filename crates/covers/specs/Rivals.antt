-- What it means that a list is exact, that it is shortest, and what a witness is.
use Rattle.std.specs.Prelude.{◌≡◌, ℕ, ◌*◌, ◌^◌, ◌<◌, ◌≤◌, Bool, true, false, cond, ◌&&◌, ◌||◌, List, [], ◌∷◌, length, nat_le}
use Rattle.std.specs.List.{AllByRecursion}
use Rattle.covers.specs.declared.symbol.Symbol.TheVariants.{Zero, One, Dash}
use Rattle.covers.specs.Digits.{Digits, digits}
use Rattle.covers.specs.Symbols.{Symbols, takes, list_takes}

-- a set of numbers is a test
abbrev pub NumberSet : Type 0
NumberSet = ℕ → Bool

-- the numbers of a range: from first to last, or, if first is above last, those from first on and those up to last
abbrev pub in_range : ℕ → ℕ → NumberSet
in_range f l x = cond (nat_le f l) (nat_le f x && nat_le x l) (nat_le f x || nat_le x l)

-- the numbers of several ranges
abbrev pub in_ranges : List (ℕ × ℕ) → NumberSet
in_ranges [] x = false
in_ranges (r ∷ ranges) x = in_range r.0 r.1 x || in_ranges ranges x

-- the list takes just the numbers of the set, among those of the width
abbrev pub TakesPrecisely : ℕ → List Symbols → NumberSet → Type 0
TakesPrecisely n rows S = (x : ℕ) → x < 2 ^ n → list_takes rows (digits n x) ≡ S x

-- a list of rows of the width that takes the same numbers
pub record Rival (n : ℕ) (rows other : List Symbols) : Type 0 where
  pub of_width : AllByRecursion (λ r. length r ≡ n) other
  pub same_numbers : TakesPrecisely n other (λ x. list_takes rows (digits n x))

-- no rival is shorter
abbrev pub Shortest : ℕ → List Symbols → Type 0
Shortest n rows = (other : List Symbols) → Rival n rows other → length rows ≤ length other

-- the list is at most 2 · k times as long as any rival
abbrev pub Within : ℕ → ℕ → List Symbols → Type 0
Within k n rows = (other : List Symbols) → Rival n rows other → length rows ≤ 2 * k * length other

-- the narrowest row that takes both numbers: their common digits, and dashes where they differ
abbrev pub narrowest : Digits → Digits → Symbols
narrowest [] v = []
narrowest (x ∷ u) [] = []
narrowest (false ∷ u) (false ∷ v) = Zero ∷ narrowest u v
narrowest (false ∷ u) (true ∷ v) = Dash ∷ narrowest u v
narrowest (true ∷ u) (false ∷ v) = Dash ∷ narrowest u v
narrowest (true ∷ u) (true ∷ v) = One ∷ narrowest u v

-- any two of the list, the earlier first
abbrev pub Pairs : {X : Type 0} → (X → X → Type 0) → List X → Type 0
Pairs R [] = Unit {0}
Pairs R (x ∷ l) = AllByRecursion (R x) l × Pairs R l

-- the narrowest row that takes x and y also takes a number outside the set
abbrev pub Parted : ℕ → NumberSet → ℕ → ℕ → Type 0
Parted n S x y = (z : ℕ) × (z < 2 ^ n) × (takes (narrowest (digits n x) (digits n y)) (digits n z) ≡ true) × (S z ≡ false)

-- members of the set, any two of which are parted: each row of an exact list takes at most one of them
pub record Witness (n : ℕ) (S : NumberSet) (numbers : List ℕ) : Type 0 where
  pub members : AllByRecursion (λ x. (x < 2 ^ n) × (S x ≡ true)) numbers
  pub parted : Pairs (Parted n S) numbers
