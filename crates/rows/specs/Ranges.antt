-- Ranges by their ends.
use Rattle.std.specs.Prelude.{ℕ, List, map}
use Rattle.rows.specs.declared.range.Range.{Range}

-- each range by its first and last number
abbrev pub ranges_of : List Range → List (ℕ × ℕ)
ranges_of ranges = map (λ r. (r.first, r.last)) ranges
