-- How a flip carries numbers and rows.
use Rattle.std.specs.Prelude.{◌≡◌, ℕ, ◌%◌, ◌^◌, Bool, not, ◌&&◌, if◌then◌else◌, nat_lt, bit_xor}
use Rattle.covers.specs.declared.symbol.Symbol.{Symbol}
use Rattle.covers.specs.declared.symbol.Symbol.TheVariants.{Zero, One, Dash}
use Rattle.covers.specs.Digits.{digit}
use Rattle.covers.specs.Words.{symbol_at}
use Rattle.rows.specs.declared.row.Row.{Row}
use Rattle.rows.specs.MadeRows.{row_made}
use Rattle.device.specs.Levels.{Carrying}

-- the digits at the marked places exchanged, of which the last n count
abbrev pub flipped : ℕ → ℕ → ℕ → ℕ
flipped mask n x = bit_xor x (mask % 2 ^ n)

-- a value under a dash stays clear
abbrev pub flipped_row : ℕ → ℕ → Row → Row
flipped_row mask n r = row_made (flipped mask n r.value) r.care

-- a flip undoes itself
abbrev pub flip_carrying : ℕ → ℕ → Carrying
flip_carrying mask n =
    record { number_there = flipped mask n; number_back = flipped mask n; row_there = flipped_row mask n; row_back = flipped_row mask n }

-- the mask marks the place, which is one of the last n
abbrev pub is_marked : ℕ → ℕ → ℕ → Bool
is_marked mask n place = nat_lt place n && digit place mask

-- 1 for 0 and 0 for 1; a dash stays a dash
abbrev pub other_symbol : Symbol → Symbol
other_symbol Zero = One
other_symbol One = Zero
other_symbol Dash = Dash

-- the result has the other digit at each marked place, and the same at any other, also beyond the last n
abbrev pub FlipsDigits : ℕ → ℕ → ℕ → ℕ → Type 0
FlipsDigits mask n number result =
    (place : ℕ) → digit place result ≡
    (if is_marked mask n place then not (digit place number) else digit place number)

-- the result has the other symbol at each marked place, and the same at any other, also beyond the last n
abbrev pub FlipsSymbols : ℕ → ℕ → Row → Row → Type 0
FlipsSymbols mask n row result =
    (place : ℕ) → symbol_at result.value result.care place ≡
    (if is_marked mask n place
    then other_symbol (symbol_at row.value row.care place)
    else symbol_at row.value row.care place)
