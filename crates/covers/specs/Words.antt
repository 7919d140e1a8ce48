-- A row as two words: its value and its care mask.
use Rattle.std.specs.Prelude.{ℕ, zero, suc, ◌+◌, ◌^◌, cond, [], ◌∷◌, length}
use Rattle.covers.specs.declared.symbol.Symbol.{Symbol}
use Rattle.covers.specs.declared.symbol.Symbol.TheVariants.{Zero, One, Dash}
use Rattle.covers.specs.Digits.{digit}
use Rattle.covers.specs.Symbols.{Symbols}

-- the value: a 1 at each place whose symbol is 1
abbrev pub value_word : Symbols → ℕ
value_word [] = 0
value_word (Zero ∷ r) = value_word r
value_word (One ∷ r) = 2 ^ length r + value_word r
value_word (Dash ∷ r) = value_word r

-- the care mask: a 1 at each place whose symbol is no dash
abbrev pub care_word : Symbols → ℕ
care_word [] = 0
care_word (Zero ∷ r) = 2 ^ length r + care_word r
care_word (One ∷ r) = 2 ^ length r + care_word r
care_word (Dash ∷ r) = care_word r

-- the symbol at place p of a row of this value and care mask; the last place is place 0
abbrev pub symbol_at : ℕ → ℕ → ℕ → Symbol
symbol_at value care p = cond (digit p care) (cond (digit p value) One Zero) Dash

-- the symbols at the last n places
abbrev pub symbols : ℕ → ℕ → ℕ → Symbols
symbols zero value care = []
symbols (suc m) value care = symbol_at value care m ∷ symbols m value care
