-- Rows that are made of words.
use Rattle.std.proofs.Common.{◌≡◌, ℕ, refl}
use lib.Bits.{bit_and}
use Rattle.rows.specs.declared.row.Row.{Row}
use Rattle.rows.proofs.SameRows.{row_same}
use Rattle.rows.specs.MadeRows.{row_made}

-- the row made of a row's own words
pub row_made_row : (r : Row) → row_made r.value r.care ≡ r
unfolding row_made
row_made_row r = row_same (row_made r.value r.care) r r.clean refl

-- a row with the words that are made
pub is_made : (r : Row) (v c : ℕ) → r.value ≡ bit_and v c → r.care ≡ c → r ≡ row_made v c
unfolding row_made
is_made r v c p q = row_same r (row_made v c) p q
