-- What the bytes of a sheet say, and what can be wrong with them.
use Rattle.std.specs.Prelude.{ℕ, ◌+◌, ◌*◌, Bool, true, false, cond, ◌&&◌, ◌||◌, List, [], ◌∷◌, ◌++◌, take, drop, ◌==◌}
use Rattle.std.specs.List.{flat_map}
use Rattle.covers.specs.declared.symbol.Symbol.{Symbol}
use Rattle.covers.specs.declared.symbol.Symbol.TheVariants.{Zero, One, Dash}
use Rattle.covers.specs.Digits.{Digits, digits, value}
use Rattle.covers.specs.Symbols.{Symbols}

-- the bits of bytes, the highest bit of a byte first
unfoldable pub bits_of : List ℕ → Digits
bits_of sheet = flat_map (digits 8) sheet

-- the width and the number of rows, by the header
unfoldable pub width_field : List ℕ → ℕ
width_field sheet = value (take 5 (bits_of sheet)) + 1

unfoldable pub count_field : List ℕ → ℕ
count_field sheet = value (take 7 (drop 5 (bits_of sheet)))

-- the bits of the symbols, as many as the header asks for
unfoldable pub symbol_bits : List ℕ → Digits
symbol_bits sheet = take (2 * (count_field sheet * width_field sheet)) (drop 16 (bits_of sheet))

-- the bits that have to be zero: the last four of the header, and all after the symbols
unfoldable pub zero_bits : List ℕ → Digits
zero_bits sheet = take 4 (drop 12 (bits_of sheet)) ++ drop (2 * (count_field sheet * width_field sheet)) (drop 16 (bits_of sheet))

-- the two bits at a place among bits taken two by two, as a number
unfoldable pub code_at : Digits → ℕ → ℕ
code_at u j = value (take 2 (drop (2 * j) u))

-- whether among bits, taken two by two, there are two that are no symbol's code
abbrev pub unknown_code : Digits → Bool
unknown_code [] = false
unknown_code (x ∷ []) = false
unknown_code (x ∷ (y ∷ u)) = (x && y) || unknown_code u

-- the symbol of a code; what is no symbol's code counts as a dash
abbrev pub symbol_of : Bool → Bool → Symbol
symbol_of false false = Zero
symbol_of false true = One
symbol_of true y = Dash

-- the symbol of a code that is given as a number
abbrev pub symbol_coded : ℕ → Symbol
symbol_coded k = cond (k == 0) Zero (cond (k == 1) One Dash)

-- the symbols of bits, taken two by two
abbrev pub symbols_of : Digits → Symbols
symbols_of [] = []
symbols_of (x ∷ []) = []
symbols_of (x ∷ (y ∷ u)) = symbol_of x y ∷ symbols_of u
