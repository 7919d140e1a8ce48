-- The numbers of the refusals.
use Rattle.std.specs.Prelude.{ℕ, List, ◌++◌, Ok, Err, Result, codes, decimal}
use Rattle.rows.specs.declared.refusal.Refusal.{Refusal}
use Rattle.rows.specs.declared.refusal.Refusal.TheVariants.{WidthOutOfRange, NumberOutsideWidth, MemoryTooShort, NoSuchSlot, RowOutsideWidth, TooManyRuns, TooManyRows, FilterHeld, NotHeld, SheetTooShort, UnknownSymbol, SheetNotClean, MalformedLine}

abbrev pub number_of : Refusal → ℕ
number_of WidthOutOfRange = 1
number_of NumberOutsideWidth = 2
number_of MemoryTooShort = 3
number_of NoSuchSlot = 4
number_of RowOutsideWidth = 5
number_of TooManyRuns = 6
number_of TooManyRows = 7
number_of FilterHeld = 8
number_of NotHeld = 9
number_of SheetTooShort = 10
number_of UnknownSymbol = 11
number_of SheetNotClean = 12
number_of MalformedLine = 13

-- a refusal as it is printed, as "refused 4"
abbrev pub refusal_text : Refusal → List ℕ
refusal_text refusal = codes "refused " ++ decimal (number_of refusal)

-- what is after a call that may be refused: a granted one changes it, a refused one leaves it the same
abbrev pub if_granted : {X S : Type 0} → Result X Refusal → S → S → S
if_granted (Ok x) changed same = changed
if_granted (Err e) changed same = same
