-- What the call for the narrowest row of two numbers promises.
use Rattle.std.specs.Prelude.{◌≡◌, ℕ, true, false, Ok, Err, Result}
use Rattle.covers.specs.Digits.{digits}
use Rattle.covers.specs.Symbols.{Symbols, takes}
use Rattle.rows.specs.declared.refusal.Refusal.{Refusal}
use Rattle.rows.specs.declared.refusal.Refusal.TheVariants.{NumberOutsideWidth}
use Rattle.rows.specs.declared.row.Row.{Row}
use Rattle.rows.specs.Widths.{in_width}

-- a row is answered where both are numbers of the width, and else the refusal
abbrev pub RowForBoth : ℕ → ℕ → ℕ → Result Row Refusal → Type 0
RowForBoth n a b (Ok row) = in_width n a b ≡ true
RowForBoth n a b (Err e) = (e ≡ NumberOutsideWidth) × (in_width n a b ≡ false)

-- the row takes both numbers
abbrev pub TakesBoth : ℕ → ℕ → ℕ → Symbols → Type 0
TakesBoth n a b row = (takes row (digits n a) ≡ true) × (takes row (digits n b) ≡ true)

-- every row that takes both numbers takes all that this one takes
abbrev pub TakesLeast : ℕ → ℕ → ℕ → Symbols → Type 0
TakesLeast n a b row = (other : Symbols) → TakesBoth n a b other → (x : ℕ) → takes row (digits n x) ≡ true → takes other (digits n x) ≡ true
