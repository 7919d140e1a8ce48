-- That the meaning of a column table is lawful.
use Rattle.std.specs.Prelude.{◌≡◌, ℕ, zero, suc, ◌^◌, ◌<◌, List, [], ◌∷◌, map, length, Some, None, Option, slice_index_or, refl}
use Rattle.std.proofs.Common.{ap, arith}
use Rattle.std.specs.List.{range_with_len, AllByRecursion}
use Rattle.std.proofs.lemmas.List.FromFn.{length-map-range_with_len}
use Rattle.covers.specs.declared.symbol.Symbol.{Symbol}
use Rattle.covers.specs.Symbols.{Symbols}
use Rattle.covers.specs.Words.{care_word}
use Rattle.covers.proofs.RowWords.{care_word_fits}
use Rattle.rows.specs.Widths.{places_of}
use Rattle.rows.proofs.Widths.{places_some, places_most}
use Rattle.column_table.specs.declared.column.Column.{Column}
use Rattle.column_table.specs.declared.table.ColumnTable.{ColumnTable}
use Rattle.device.specs.States.{SlotWithin, Lawful}
use Rattle.rows.specs.MadeRows.{row_made}
use Rattle.column_table.specs.Columns.{column_symbol, blank_column, one_more, slot_symbols, slot_with, column_slot, column_slots}
use Rattle.column_table.specs.ColumnTables.{slot_count, column_table_state}

-- so many symbols, or nothing
abbrev pub Counts : ℕ → Option Symbols → Type 0
Counts n (Some r) = length r ≡ n
Counts n None = Unit {0}

pub slot_symbols_count : (n : ℕ) (columns : List Column) (slot : ℕ) → Counts n (slot_symbols n columns slot)
slot_symbols_count zero columns slot = refl
slot_symbols_count (suc m) columns slot = go (column_symbol (slice_index_or columns m blank_column) slot) (slot_symbols m columns slot) (slot_symbols_count m columns slot)
  where
    go : (s : Option Symbol) (content : Option Symbols) → Counts m content → Counts (suc m) (one_more s content)
    go (Some s) (Some r) h = ap suc h
    go (Some s) None h = tt
    go None content h = tt

slot_within : (n : ℕ) (content : Option Symbols) → Counts n content → SlotWithin n (slot_with content)
unfolding row_made
slot_within n (Some r) h = let f = care_word_fits r in let e = ap (λ k. 2 ^ k) h in let fits : care_word r < 2 ^ n = omega arith in fits
slot_within n None h = tt

slots_within : (n : ℕ) (columns : List Column) (slots : List ℕ) → AllByRecursion (SlotWithin n) (map (column_slot n columns) slots)
unfolding column_slot
slots_within n columns [] = tt
slots_within n columns (i ∷ slots) = (slot_within n (slot_symbols n columns i) (slot_symbols_count n columns i), slots_within n columns slots)

pub column_table_lawful : (t : ColumnTable) → Lawful (column_table_state t)
unfolding column_slots
column_table_lawful t =
    record {
      some_place = places_some t.width;
      few_places = places_most t.width;
      few_slots = omega (arith, length-map-range_with_len (column_slot (places_of t.width) t.columns) 0 (slot_count t));
      rows_within = slots_within (places_of t.width) t.columns (range_with_len 0 (slot_count t));
    }
