-- The line of a slot is the line of the ledger's row.
use Rattle.std.proofs.Common.{◌≡◌, ℕ, zero, suc, ◌-◌, List, [], ◌∷◌, ◌++◌, map, length, get_or, replicate, slice_get, Some, None, sym, refl, ap, ◌∙◌, ap₂}
use Rattle.covers.specs.Symbols.{Symbols}
use Rattle.covers.specs.Words.{value_word, care_word, symbols}
use Rattle.covers.proofs.RowLengths.{Long}
use Rattle.covers.proofs.RowWords.{symbols_back, clean_word}
use Rattle.rows.specs.MadeRows.{row_made}
use Rattle.device.specs.States.{Slot}
use Rattle.ledger.specs.Ledger.{Ledger, Laid, ledger_rows, slot_with}
use Rattle.ledger.proofs.Rows.{ledger_rows_right}
use Rattle.lines.specs.Printed.{row_bytes}
use Rattle.console.specs.Closing.{slot_line, row_lines}

empty_line : (n k i : ℕ) → slot_line n (get_or (replicate k None) i None) ≡ None
empty_line n zero i = refl
empty_line n (suc k) zero = refl
empty_line n (suc k) (suc i) = empty_line n k i

placed_line : (n k : ℕ) (rows : List Symbols) (i : ℕ) → Long n rows → slot_line n (get_or (map slot_with rows ++ replicate k None) i None) ≡ slice_get (row_lines rows) i
unfolding row_made
placed_line n k [] i h = empty_line n k i
placed_line n k (r ∷ rows) zero h =
    ap (λ s. Some (row_bytes s)) (ap (λ v. symbols n v (care_word r)) (clean_word r) ∙ ap (λ m. symbols m (value_word r) (care_word r)) (sym h.0) ∙ symbols_back r)
placed_line n k (r ∷ rows) (suc i) h = placed_line n k rows i h.1

-- the slots of a ledger's rows
pub ledger_line : (n : ℕ) (slots : List Slot) (b : Ledger) (i : ℕ) → n ≡ b.width → Laid b slots → slot_line n (get_or slots i None) ≡ slice_get (row_lines (ledger_rows b)) i
ledger_line n slots b i w p =
    ap₂ (λ m s. slot_line m (get_or s i None)) w p ∙ placed_line b.width (b.slots - length (ledger_rows b)) (ledger_rows b) i (ledger_rows_right b).of_width
