-- Rows of symbols, and the numbers that they take.
use Rattle.std.specs.Prelude.{ℕ, Bool, true, false, not, ◌&&◌, ◌||◌, List, [], ◌∷◌}
use Rattle.covers.specs.declared.symbol.Symbol.{Symbol}
use Rattle.covers.specs.declared.symbol.Symbol.TheVariants.{Zero, One, Dash}
use Rattle.covers.specs.Digits.{Digits}

-- the character by which a symbol is written: 0, 1 or a hyphen
abbrev pub letter : Symbol → ℕ
letter Zero = 48
letter One = 49
letter Dash = 45

-- a row, by its symbols, the first place first
abbrev pub Symbols : Type 0
Symbols = List Symbol

-- a symbol that is no dash admits its own digit only
abbrev pub admits : Symbol → Bool → Bool
admits Zero x = not x
admits One x = x
admits Dash x = true

-- a row takes a number if each symbol admits the digit at its place
abbrev pub takes : Symbols → Digits → Bool
takes [] [] = true
takes [] (x ∷ u) = false
takes (s ∷ r) [] = false
takes (s ∷ r) (x ∷ u) = admits s x && takes r u

-- a list takes what some row of it takes
abbrev pub list_takes : List Symbols → Digits → Bool
list_takes [] u = false
list_takes (r ∷ rows) u = takes r u || list_takes rows u
