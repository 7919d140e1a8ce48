-- The packed sheet: rows as bits, and bits as bytes.
use Rattle.std.specs.Prelude.{◌≡◌, ℕ, zero, suc, ◌+◌, ◌-◌, ◌*◌, ◌/◌, ◌≤◌, true, false, List, [], ◌∷◌, ◌++◌, length, drop}
use Rattle.std.specs.List.{flat_map, AllByRecursion}
use Rattle.covers.specs.declared.symbol.Symbol.{Symbol}
use Rattle.covers.specs.declared.symbol.Symbol.TheVariants.{Zero, One, Dash}
use Rattle.covers.specs.Digits.{Digits, digits, value}
use Rattle.covers.specs.Symbols.{Symbols}

-- the two bits of a symbol
abbrev pub code : Symbol → Digits
code Zero = false ∷ (false ∷ [])
code One = false ∷ (true ∷ [])
code Dash = true ∷ (false ∷ [])

-- the code as a number
unfoldable pub code_number : Symbol → ℕ
code_number s = value (code s)

-- the symbols of rows, one row after the other
abbrev pub all_symbols : List Symbols → Symbols
all_symbols rows = flat_map (λ r. r) rows

-- the bits of a sheet: one less than the width, the number of rows, four zeros, and the codes of the symbols
unfoldable pub sheet_bits : ℕ → List Symbols → Digits
sheet_bits width rows = digits 5 (width - 1) ++ (digits 7 (length rows) ++ (digits 4 0 ++ flat_map code (all_symbols rows)))

-- the first n bits, with zeros past the end
abbrev pub filled : ℕ → Digits → Digits
filled zero u = []
filled (suc n) [] = false ∷ filled n []
filled (suc n) (x ∷ u) = x ∷ filled n u

-- the byte that begins with the symbol at an index
unfoldable pub byte_from : Symbols → ℕ → ℕ
byte_from all first = value (filled 8 (flat_map code (drop first all)))

-- the first n bytes of bits: eight bits to a byte, the highest first
unfoldable pub bytes : ℕ → Digits → List ℕ
bytes zero u = []
bytes (suc n) u = value (filled 8 u) ∷ bytes n (drop 8 u)

-- as many bytes as it takes to hold every bit
unfoldable pub bytes_of : Digits → List ℕ
bytes_of u = bytes ((length u + 7) / 8) u

-- the most rows of a sheet
abbrev pub most_rows : ℕ
most_rows = 120

-- how many bytes a sheet has
unfoldable pub size_of_sheet : ℕ → ℕ → ℕ
size_of_sheet width count = 2 + (2 * (count * width) + 7) / 8

-- the bytes are the sheet of these rows, each of this width, and not too many
pub record Sheet (width : ℕ) (rows : List Symbols) (sheet : List ℕ) : Type 0 where
  pub low : 1 ≤ width
  pub high : width ≤ 32
  pub few : length rows ≤ most_rows
  pub even : AllByRecursion (λ r. length r ≡ width) rows
  pub same : sheet ≡ bytes_of (sheet_bits width rows)
