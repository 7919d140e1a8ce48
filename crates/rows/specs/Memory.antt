-- Rows as they lie in memory.
use Rattle.std.specs.Prelude.{ℕ, ◌+◌, List, ◌++◌, map, length, take, drop, bit_and}
use Rattle.covers.specs.Symbols.{Symbols}
use Rattle.covers.specs.Words.{value_word, care_word, symbols}
use Rattle.rows.specs.declared.row.Row.{Row}
use Rattle.rows.specs.declared.row_words.RowWords.{RowWords}

-- the symbols of a row at width n
abbrev pub symbols_of : ℕ → Row → Symbols
symbols_of n row = symbols n row.value row.care

-- the row that two words stand for, as a row is made: the value counts only where the row cares
abbrev pub as_made : RowWords → RowWords
as_made words = record { value = bit_and words.value words.care; care = words.care }

-- its symbols at a width
abbrev pub row_of : ℕ → RowWords → Symbols
row_of width words = symbols width (bit_and words.value words.care) words.care

-- the rows of all of memory
abbrev pub rows_of : ℕ → List RowWords → List Symbols
rows_of width memory = map (row_of width) memory

-- the words of a row
abbrev pub words_of : Symbols → RowWords
words_of r = record { value = value_word r; care = care_word r }

-- memory with a list written from an index on
abbrev pub written : {X : Type 0} → List X → ℕ → List X → List X
written memory at items = take at memory ++ (items ++ drop (at + length items) memory)
