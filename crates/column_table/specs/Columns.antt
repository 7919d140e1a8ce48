-- What the columns of a column table mean.
use Rattle.std.specs.Prelude.{ℕ, zero, suc, Bool, true, false, List, [], ◌∷◌, map, Some, None, Option, slice_index_or}
use Rattle.std.specs.List.{range_with_len}
use Rattle.covers.specs.declared.symbol.Symbol.{Symbol}
use Rattle.covers.specs.declared.symbol.Symbol.TheVariants.{Zero, One, Dash}
use Rattle.covers.specs.Digits.{digit}
use Rattle.covers.specs.Symbols.{Symbols}
use Rattle.covers.specs.Words.{value_word, care_word, symbol_at}
use Rattle.column_table.specs.declared.column.Column.{Column}
use Rattle.column_table.specs.declared.slot_set.SlotSet.{SlotSet}
use Rattle.device.specs.States.{Slot}
use Rattle.rows.specs.MadeRows.{row_made}

-- the symbol that admits just these digits
abbrev pub admitting_symbol : Bool → Bool → Option Symbol
admitting_symbol true true = Some Dash
admitting_symbol true false = Some Zero
admitting_symbol false true = Some One
admitting_symbol false false = None

-- the symbol of a slot in a column
abbrev pub column_symbol : Column → ℕ → Option Symbol
column_symbol c slot = admitting_symbol (digit slot c.zeros.bits) (digit slot c.ones.bits)

abbrev pub one_more : Option Symbol → Option Symbols → Option Symbols
one_more (Some s) (Some r) = Some (s ∷ r)
one_more (Some s) None = None
one_more None content = None

abbrev pub no_slots : SlotSet
no_slots = record { bits = 0 }

abbrev pub blank_column : Column
blank_column = record { zeros = no_slots; ones = no_slots }

-- the symbols of a slot in the last n columns, or nothing if it admits no digit in one of them
abbrev pub slot_symbols : ℕ → List Column → ℕ → Option Symbols
slot_symbols zero columns slot = Some []
slot_symbols (suc m) columns slot = one_more (column_symbol (slice_index_or columns m blank_column) slot) (slot_symbols m columns slot)

-- the row of these symbols
abbrev pub slot_with : Option Symbols → Slot
slot_with (Some r) = Some (row_made (value_word r) (care_word r))
slot_with None = None

unfoldable pub column_slot : ℕ → List Column → ℕ → Slot
column_slot n columns slot = slot_with (slot_symbols n columns slot)

-- the slots of a table of so many
unfoldable pub column_slots : ℕ → List Column → ℕ → List Slot
column_slots n columns count = map (column_slot n columns) (range_with_len 0 count)

-- what a slot with this content asks for at a place
abbrev pub row_symbol : Slot → ℕ → Option Symbol
row_symbol (Some r) place = Some (symbol_at r.value r.care place)
row_symbol None place = None
