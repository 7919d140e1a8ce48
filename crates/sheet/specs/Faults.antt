-- What is refused, and in which order.
use Rattle.std.specs.Prelude.{ℕ, ◌^◌, Bool, cond, not, ◌||◌, List, length, Some, None, Ok, Err, Option, Result, nat_le, nat_lt}
use Rattle.std.specs.List.{list_any}
use Rattle.std.specs.Option.{option_or}
use Rattle.covers.specs.Digits.{all_zeros}
use Rattle.rows.specs.declared.refusal.Refusal.{Refusal}
use Rattle.rows.specs.declared.refusal.Refusal.TheVariants.{MemoryTooShort, RowOutsideWidth, TooManyRows, SheetTooShort, UnknownSymbol, SheetNotClean}
use Rattle.rows.specs.declared.row_words.RowWords.{RowWords}
use Rattle.sheets.specs.Format.{most_rows, size_of_sheet}
use Rattle.sheets.specs.Reading.{width_field, count_field, symbol_bits, zero_bits, unknown_code}

-- the refusal that an answer is, if it is one
abbrev pub refusal_in : {X : Type 0} → Result X Refusal → Option Refusal
refusal_in (Ok x) = None
refusal_in (Err e) = Some e

-- whether some row cares beyond the width
abbrev pub cares_outside : ℕ → List RowWords → Bool
cares_outside width rows = list_any (λ r. nat_le (2 ^ width) r.care) rows

-- why rows have no sheet: the first reason that holds
unfoldable pub rows_fault : ℕ → List RowWords → Option Refusal
rows_fault width rows =
    cond (cares_outside width rows) (Some RowOutsideWidth)
    (cond (nat_lt most_rows (length rows)) (Some TooManyRows) None)

-- why bytes are no sheet: the first reason that holds
unfoldable pub sheet_fault : List ℕ → Option Refusal
sheet_fault sheet =
    cond (nat_lt (length sheet) 2) (Some SheetTooShort)
    (cond (nat_lt most_rows (count_field sheet)) (Some TooManyRows)
    (cond (nat_lt (length sheet) (size_of_sheet (width_field sheet) (count_field sheet))) (Some SheetTooShort)
    (cond (unknown_code (symbol_bits sheet)) (Some UnknownSymbol)
    (cond (not (all_zeros (zero_bits sheet)) || nat_lt (size_of_sheet (width_field sheet) (count_field sheet)) (length sheet)) (Some SheetNotClean) None))))

-- why so many are not written into memory with room for so many: it is too short, if at all
abbrev pub room_fault : ℕ → ℕ → Option Refusal
room_fault room count = cond (nat_lt room count) (Some MemoryTooShort) None

-- why rows are not packed into so many bytes of memory
abbrev pub pack_fault : ℕ → List RowWords → ℕ → Option Refusal
pack_fault width rows room = option_or (rows_fault width rows) (room_fault room (size_of_sheet width (length rows)))

-- why a sheet is not read into memory for so many rows
abbrev pub read_fault : List ℕ → ℕ → Option Refusal
read_fault sheet room = option_or (sheet_fault sheet) (room_fault room (count_field sheet))
