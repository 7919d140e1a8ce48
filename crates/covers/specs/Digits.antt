-- Numbers as binary digits, the first digit the highest.
use Rattle.std.specs.Prelude.{ℕ, zero, suc, ◌+◌, ◌/◌, ◌%◌, ◌^◌, Bool, true, false, cond, not, ◌&&◌, List, [], ◌∷◌, map, length, ◌==◌}

abbrev pub Digits : Type 0
Digits = List Bool

-- the digit of x at place p; the last place is place 0
abbrev pub digit : ℕ → ℕ → Bool
digit p x = x / 2 ^ p % 2 == 1

-- the last n digits of x
abbrev pub digits : ℕ → ℕ → Digits
digits zero x = []
digits (suc m) x = digit m x ∷ digits m x

-- the number that has these digits
unfoldable pub value : Digits → ℕ
value [] = 0
value (false ∷ u) = value u
value (true ∷ u) = 2 ^ length u + value u

-- the order of numbers of as many digits
abbrev pub leq : Digits → Digits → Bool
leq [] v = true
leq (x ∷ u) [] = false
leq (false ∷ u) (false ∷ v) = leq u v
leq (false ∷ u) (true ∷ v) = true
leq (true ∷ u) (false ∷ v) = false
leq (true ∷ u) (true ∷ v) = leq u v

-- no digit is 1
abbrev pub all_zeros : Digits → Bool
all_zeros [] = true
all_zeros (x ∷ u) = not x && all_zeros u

-- no digit is 0
abbrev pub all_ones : Digits → Bool
all_ones [] = true
all_ones (x ∷ u) = x && all_ones u

-- every digit exchanged for the other
abbrev pub mirror : Digits → Digits
mirror u = map not u

-- the number one higher, where not all digits are 1
abbrev pub next : Digits → Digits
next [] = []
next (x ∷ u) = cond (all_ones u) (true ∷ mirror u) (x ∷ next u)
