-- Worked examples: ten ranges and their rows.
use Rattle.std.specs.Prelude.{◌≡◌, ℕ, List, [], ◌∷◌, map}
use Rattle.covers.specs.declared.symbol.Symbol.TheVariants.{Zero, One, Dash}
use Rattle.covers.specs.Symbols.{Symbols}
use Rattle.covers.specs.Rules.{rows_of_range}

pub record Example : Type 0 where
  pub width : ℕ
  pub first : ℕ
  pub last : ℕ
  pub rows : List Symbols

abbrev example : ℕ → ℕ → ℕ → List Symbols → Example
example w f l rows = record { width = w; first = f; last = l; rows = rows }

abbrev pub examples : List Example
examples =
    -- 01-, -01, 1-0
    example 3 1 6 ((Zero ∷ One ∷ Dash ∷ []) ∷ (Dash ∷ Zero ∷ One ∷ []) ∷ (One ∷ Dash ∷ Zero ∷ []) ∷ []) ∷
    -- 0--, 100
    example 3 0 4 ((Zero ∷ Dash ∷ Dash ∷ []) ∷ (One ∷ Zero ∷ Zero ∷ []) ∷ []) ∷
    -- 1--, 011
    example 3 3 7 ((One ∷ Dash ∷ Dash ∷ []) ∷ (Zero ∷ One ∷ One ∷ []) ∷ []) ∷
    -- 01-, 10-
    example 3 2 5 ((Zero ∷ One ∷ Dash ∷ []) ∷ (One ∷ Zero ∷ Dash ∷ []) ∷ []) ∷
    -- 01-, 10-, 001
    example 3 1 5 ((Zero ∷ One ∷ Dash ∷ []) ∷ (One ∷ Zero ∷ Dash ∷ []) ∷ (Zero ∷ Zero ∷ One ∷ []) ∷ []) ∷
    -- 10-, 01-, 110
    example 3 2 6 ((One ∷ Zero ∷ Dash ∷ []) ∷ (Zero ∷ One ∷ Dash ∷ []) ∷ (One ∷ One ∷ Zero ∷ []) ∷ []) ∷
    -- 0011, 01--, 10--, 1100
    example 4 3 12 ((Zero ∷ Zero ∷ One ∷ One ∷ []) ∷ (Zero ∷ One ∷ Dash ∷ Dash ∷ []) ∷ (One ∷ Zero ∷ Dash ∷ Dash ∷ []) ∷ (One ∷ One ∷ Zero ∷ Zero ∷ []) ∷ []) ∷
    -- 01--, -01-, -001, 1-00
    example 4 1 12 ((Zero ∷ One ∷ Dash ∷ Dash ∷ []) ∷ (Dash ∷ Zero ∷ One ∷ Dash ∷ []) ∷ (Dash ∷ Zero ∷ Zero ∷ One ∷ []) ∷ (One ∷ Dash ∷ Zero ∷ Zero ∷ []) ∷ []) ∷
    -- 6 round to 4: 0--, 11-, 100
    example 3 6 4 ((Zero ∷ Dash ∷ Dash ∷ []) ∷ (One ∷ One ∷ Dash ∷ []) ∷ (One ∷ Zero ∷ Zero ∷ []) ∷ []) ∷
    -- 3 round to 0: 11, 00
    example 2 3 0 ((One ∷ One ∷ []) ∷ (Zero ∷ Zero ∷ []) ∷ []) ∷ []

-- the rules give each range of the table the rows beside it
abbrev pub ExamplesHold : Type 0
ExamplesHold = map (λ e. rows_of_range e.width e.first e.last) examples ≡ map (λ e. e.rows) examples
