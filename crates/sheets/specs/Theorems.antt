-- What is proved of sheets.
use Rattle.std.specs.Prelude.{◌≡◌, ℕ, List, [], ◌∷◌}
use Rattle.covers.specs.declared.symbol.Symbol.TheVariants.{Zero, One, Dash}
use Rattle.covers.specs.Symbols.{Symbols}
use Rattle.sheets.specs.Format.{bytes_of, sheet_bits, Sheet}

-- the same bytes are never the sheet of other rows, or of another width
abbrev pub OneReading : Type 0
OneReading = (sheet : List ℕ) (v w : ℕ) (rows others : List Symbols) → Sheet v rows sheet → Sheet w others sheet → (v ≡ w) × (rows ≡ others)

-- the rows 0011, 01-- and 10-0 at width 4: 00011 0000011 0000, then 00000101 00011010 01001000
abbrev pub WorkedExample : Type 0
WorkedExample =
    bytes_of (sheet_bits 4 ((Zero ∷ (Zero ∷ (One ∷ (One ∷ [])))) ∷ ((Zero ∷ (One ∷ (Dash ∷ (Dash ∷ [])))) ∷ ((One ∷ (Zero ∷ (Dash ∷ (Zero ∷ [])))) ∷ [])))) ≡
    0x18 ∷ (0x30 ∷ (0x05 ∷ (0x1a ∷ (0x48 ∷ []))))
