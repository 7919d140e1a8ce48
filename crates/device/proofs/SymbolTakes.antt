-- What the slots take, by the symbols of their rows.
use Rattle.std.proofs.Common.{◌≡◌, ℕ, ◌^◌, ◌<◌, ◌||◌, List, [], ◌∷◌, Some, None, sym, refl, ap₂, arith}
use lib.Bits.{and_le_r}
use Rattle.std.specs.List.{AllByRecursion}
use Rattle.covers.specs.Digits.{digits}
use Rattle.covers.specs.Symbols.{takes, list_takes}
use Rattle.covers.proofs.RowWords.{words_take}
use Rattle.rows.specs.declared.row.Row.{Row}
use Rattle.device.specs.States.{Slot, SlotWithin, row_takes, some_slot_takes}
use Rattle.device.specs.SymbolLaws.{rows_in}
use Rattle.rows.specs.Memory.{symbols_of}

pub row_by_symbols : (n : ℕ) (r : Row) (x : ℕ) → r.care < 2 ^ n → row_takes r x ≡ takes (symbols_of n r) (digits n x)
row_by_symbols n r x h =
    let l = and_le_r r.value r.care in
    let e = r.clean in
    sym (words_take n r.value r.care x (omega arith) h r.clean)

pub slots_by_symbols : (n : ℕ) (slots : List Slot) (x : ℕ) → AllByRecursion (SlotWithin n) slots → some_slot_takes slots x ≡ list_takes (rows_in n slots) (digits n x)
slots_by_symbols n [] x h = refl
slots_by_symbols n (Some r ∷ slots) x h = ap₂ ◌||◌ (row_by_symbols n r x h.0) (slots_by_symbols n slots x h.1)
slots_by_symbols n (None ∷ slots) x h = slots_by_symbols n slots x h.1
