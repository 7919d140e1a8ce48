-- What a width means.
use Rattle.std.specs.Prelude.{◌≡◌, ℕ, ◌+◌, ◌%◌, ◌^◌, ◌<◌, ◌≤◌, Bool, ◌&&◌, Ok, Err, Result, nat_lt}
use Rattle.rows.specs.declared.refusal.Refusal.{Refusal}
use Rattle.rows.specs.declared.refusal.Refusal.TheVariants.{WidthOutOfRange}
use Rattle.rows.specs.declared.width.Width.{Width}

-- the number of places, 1 to 32: every value of the type has one
abbrev pub places_of : Width → ℕ
places_of w = w.spare % 32 + 1

-- what making a width of a number answers: the width of so many places, or the refusal of a number outside 1 to 32
abbrev pub WidthMade : ℕ → Result Width Refusal → Type 0
WidthMade places (Ok w) = places_of w ≡ places
WidthMade places (Err e) = (e ≡ WidthOutOfRange) × (1 ≤ places → 32 < places)

-- both ends are numbers of the width
abbrev pub in_width : ℕ → ℕ → ℕ → Bool
in_width n first last = nat_lt first (2 ^ n) && nat_lt last (2 ^ n)
