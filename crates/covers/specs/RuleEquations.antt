-- The row rules once more, as equations between numbers: one field a rule, under the conditions that the earlier rules leave to it.
use Rattle.std.specs.Prelude.{◌≡◌, ℕ, suc, ◌+◌, ◌-◌, ◌^◌, ◌<◌, ◌≤◌, [], ◌∷◌, ◌++◌, map, replicate}
use Rattle.covers.specs.declared.symbol.Symbol.TheVariants.{Zero, One, Dash}
use Rattle.covers.specs.Digits.{digits}
use Rattle.covers.specs.Symbols.{Symbols}
use Rattle.covers.specs.Rules.{swap, below, insert, widen, behind, swap_first, straight_rows, round_rows}

-- a row of m dashes
abbrev pub plain : ℕ → Symbols
plain m = replicate m Dash

pub record RuleEquations : Type 0 where
  -- every number of m places: one row of dashes
  pub whole : (m : ℕ) → straight_rows m 0 (2 ^ m - 1) ≡ plain m ∷ []
  -- both ends begin with the same digit: that digit before each row of the list that their other digits give
  pub same_first_zero : (m a b : ℕ) → a ≤ b → b < 2 ^ m →
      straight_rows (suc m) a b ≡ map (λ r. Zero ∷ r) (straight_rows m a b)
  pub same_first_one : (m a b : ℕ) → a ≤ b → b < 2 ^ m →
      straight_rows (suc m) (2 ^ m + a) (2 ^ m + b) ≡ map (λ r. One ∷ r) (straight_rows m a b)
  -- from 0: a row for each 1 in b + 1
  pub from_zero : (m b : ℕ) → b + 1 < 2 ^ m → straight_rows m 0 b ≡ below (digits m (b + 1))
  -- to the highest number: the list of the mirrored range, with 0 and 1 exchanged
  pub to_highest : (m a : ℕ) → 0 < a → a < 2 ^ m →
      straight_rows m a (2 ^ m - 1) ≡ map (map swap) (straight_rows m 0 (2 ^ m - 1 - a))
  -- 01a to 10b: both ends in the inner quarters
  pub inner_quarters : (m a b : ℕ) → a < 2 ^ m → b < 2 ^ m →
      straight_rows (suc (suc m)) (2 ^ m + a) (2 ^ suc m + b) ≡
      behind Zero One (straight_rows m a (2 ^ m - 1)) ++ behind One Zero (straight_rows m 0 b)
  -- 00a to 10b: the second quarter is whole
  pub second_quarter : (m a b : ℕ) → 0 < a → a < 2 ^ m → b < 2 ^ m →
      straight_rows (suc (suc m)) a (2 ^ suc m + b) ≡
      (Zero ∷ One ∷ plain m) ∷ map (insert Zero) (straight_rows (suc m) a (2 ^ m + b))
  -- 01a to 11b: the third quarter is whole
  pub third_quarter : (m a b : ℕ) → a < 2 ^ m → b + 1 < 2 ^ m →
      straight_rows (suc (suc m)) (2 ^ m + a) (2 ^ suc m + (2 ^ m + b)) ≡
      (One ∷ Zero ∷ plain m) ∷ map (insert One) (straight_rows (suc m) a (2 ^ m + b))
  -- 00a to 11b with a > b + 1: the ends are apart
  pub ends_apart : (m a b : ℕ) → a < 2 ^ m → b + 1 < a →
      straight_rows (suc (suc m)) a (2 ^ suc m + (2 ^ m + b)) ≡
      behind Zero Zero (straight_rows m a (2 ^ m - 1)) ++
      (Zero ∷ One ∷ plain m) ∷ (One ∷ Zero ∷ plain m) ∷ behind One One (straight_rows m 0 b)
  -- 00a to 11b with a ≤ b + 1: the ends overlap
  pub ends_overlap : (m a b : ℕ) → 0 < a → a < 2 ^ m → b + 1 < 2 ^ m → a ≤ b + 1 →
      straight_rows (suc (suc m)) a (2 ^ suc m + (2 ^ m + b)) ≡
      (Zero ∷ One ∷ plain m) ∷ map widen (straight_rows (suc m) a (2 ^ m + b))
  -- round, both ends begin with 0
  pub round_low : (m f l : ℕ) → f < 2 ^ m → l < f →
      round_rows (suc m) f l ≡ (One ∷ plain m) ∷ map (λ r. Zero ∷ r) (round_rows m f l)
  -- round, both ends begin with 1
  pub round_high : (m f l : ℕ) → f < 2 ^ m → l < f →
      round_rows (suc m) (2 ^ m + f) (2 ^ m + l) ≡ (Zero ∷ plain m) ∷ map (λ r. One ∷ r) (round_rows m f l)
  -- round, from 1f to 0l: the straight list from 0f to 1l with its first symbols exchanged
  pub round_across : (m f l : ℕ) → f < 2 ^ m → l < 2 ^ m →
      round_rows (suc m) (2 ^ m + f) l ≡ map swap_first (straight_rows (suc m) f (2 ^ m + l))
