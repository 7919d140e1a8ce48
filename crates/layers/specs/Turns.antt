-- How a turn carries numbers and rows.
use Rattle.std.specs.Prelude.{◌≡◌, ℕ, ◌-◌, false, if◌then◌else◌, nat_lt, reverse}
use Rattle.covers.specs.declared.symbol.Symbol.TheVariants.{Dash}
use Rattle.covers.specs.Digits.{digit, digits, value}
use Rattle.covers.specs.Words.{symbol_at}
use Rattle.rows.specs.declared.row.Row.{Row}
use Rattle.rows.specs.MadeRows.{row_made}
use Rattle.device.specs.Levels.{Carrying}

-- the last n digits, read from the other end
unfoldable pub turned : ℕ → ℕ → ℕ
turned n x = value (reverse (digits n x))

abbrev pub turned_row : ℕ → Row → Row
turned_row n r = row_made (turned n r.value) (turned n r.care)

-- a turn undoes itself
abbrev pub turn_carrying : ℕ → Carrying
turn_carrying n = record { number_there = turned n; number_back = turned n; row_there = turned_row n; row_back = turned_row n }

-- the result has at each of the last n places the digit that lies as far from the other end, and 0 beyond them
abbrev pub TurnsDigits : ℕ → ℕ → ℕ → Type 0
TurnsDigits n number result =
    (place : ℕ) → digit place result ≡
    (if nat_lt place n then digit (n - 1 - place) number else false)

-- the result has at each of the last n places the symbol that lies as far from the other end, and a dash beyond them
abbrev pub TurnsSymbols : ℕ → Row → Row → Type 0
TurnsSymbols n row result =
    (place : ℕ) → symbol_at result.value result.care place ≡
    (if nat_lt place n then symbol_at row.value row.care (n - 1 - place) else Dash)
