-- The row that a value and a care mask make.
use Rattle.std.specs.Prelude.{ℕ, bit_and}
use Rattle.covers.proofs.Masks.{and_again}
use Rattle.rows.specs.declared.row.Row.{Row}

-- ones of the value where it does not care are cleared
unfoldable pub row_made : ℕ → ℕ → Row
row_made value care = record { value = bit_and value care; care = care; clean = and_again value care }
