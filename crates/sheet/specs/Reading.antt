-- What the bytes of a sheet are read as.
use Rattle.std.specs.Prelude.{◌≡◌, ℕ, cond, List, ◌++◌, map, length, drop, Some, None, Option, nat_lt}
use Rattle.covers.specs.declared.symbol.Symbol.{Symbol}
use Rattle.covers.specs.Symbols.{Symbols}
use Rattle.rows.specs.Widths.{places_of}
use Rattle.rows.specs.declared.row_words.RowWords.{RowWords}
use Rattle.sheets.specs.Format.{Sheet}
use Rattle.sheets.specs.Reading.{symbol_coded}
use Rattle.rows.specs.Memory.{words_of}
use Rattle.sheet.specs.declared.sheet_size.SheetSize.{SheetSize}

-- the symbol of a code that is given as a number, where it is one's
abbrev pub symbol_if_coded : ℕ → Option Symbol
symbol_if_coded k = cond (nat_lt k 3) (Some (symbol_coded k)) None

-- the size is this width and this number of rows
abbrev pub HasSize : SheetSize → ℕ → ℕ → Type 0
HasSize size width count = (places_of size.width ≡ width) × (size.count ≡ count)

-- the bytes are the sheet of some rows, whose width and number the size tells
abbrev pub IsSheet : List ℕ → SheetSize → Type 0
IsSheet sheet size = (rows : List Symbols) × (Sheet (places_of size.width) rows sheet × (size.count ≡ length rows))

-- the words of these rows stand at the start of memory, and the rest is as before
abbrev pub Holds : List Symbols → List RowWords → List RowWords → Type 0
Holds rows before after = after ≡ map words_of rows ++ drop (length rows) before

-- the bytes are the sheet of the rows that memory holds now, and the size is theirs
abbrev pub IsRead : List ℕ → SheetSize → List RowWords → List RowWords → Type 0
IsRead sheet size before after = (rows : List Symbols) × (Sheet (places_of size.width) rows sheet × (size.count ≡ length rows) × Holds rows before after)
