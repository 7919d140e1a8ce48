-- The row rules: which list of rows a run gets. The earliest rule that fits gives the list, in its order.
-- Digits recurse from the first, so each rule is a clause; RuleEquations says the same of numbers.
use Rattle.std.specs.Prelude.{ℕ, ◌+◌, ◌-◌, ◌*◌, ◌^◌, Bool, true, false, cond, List, [], ◌∷◌, ◌++◌, map, ◌==◌, nat_le}
use Rattle.covers.specs.declared.symbol.Symbol.{Symbol}
use Rattle.covers.specs.declared.symbol.Symbol.TheVariants.{Zero, One, Dash}
use Rattle.covers.specs.Digits.{Digits, digits, leq, all_zeros, all_ones, next, mirror}
use Rattle.covers.specs.Symbols.{Symbols}

-- as many dashes as digits
abbrev pub dashes : Digits → Symbols
dashes [] = []
dashes (x ∷ u) = Dash ∷ dashes u

-- 0 and 1 exchanged
abbrev pub swap : Symbol → Symbol
swap Zero = One
swap One = Zero
swap Dash = Dash

-- the numbers below c: each 1 of c, from the first place on, gives a row that begins as c does before this 1, has a 0 in
-- its place, and dashes behind
abbrev pub below : Digits → List Symbols
below [] = []
below (true ∷ c) = (Zero ∷ dashes c) ∷ map (λ r. One ∷ r) (below c)
below (false ∷ c) = map (λ r. Zero ∷ r) (below c)

-- from 0 to b: one row of dashes if b is the highest number, else the numbers below b + 1
abbrev pub upto : Digits → List Symbols
upto b = cond (all_ones b) (dashes b ∷ []) (below (next b))

-- from a to the highest number: the list of 0 to the mirror of a, with 0 and 1 exchanged
abbrev pub onward : Digits → List Symbols
onward a = map (map swap) (upto (mirror a))

-- a symbol put in after the first
abbrev pub insert : Symbol → Symbols → Symbols
insert s [] = []
insert s (t ∷ r) = t ∷ s ∷ r

-- the first symbol made two: "-0" of a 0, "1-" of a 1, two dashes of a dash
abbrev pub widen : Symbols → Symbols
widen [] = []
widen (Zero ∷ r) = Dash ∷ Zero ∷ r
widen (One ∷ r) = One ∷ Dash ∷ r
widen (Dash ∷ r) = Dash ∷ Dash ∷ r

-- two symbols before each row
abbrev pub behind : Symbol → Symbol → List Symbols → List Symbols
behind s t rows = map (λ r. s ∷ t ∷ r) rows

-- the rules for 0xa to 1yb, by the digits x and y, where `inner` is the list of 0a to 1b
abbrev pub middle : Bool → Bool → Digits → Digits → List Symbols → List Symbols
middle true false a b inner = behind Zero One (onward a) ++ behind One Zero (upto b)
middle false false a b inner = (Zero ∷ One ∷ dashes a) ∷ map (insert Zero) inner
middle true true a b inner = (One ∷ Zero ∷ dashes a) ∷ map (insert One) inner
middle false true a b inner =
    cond (leq a (next b))
    ((Zero ∷ One ∷ dashes a) ∷ map widen inner)
    (behind Zero Zero (onward a) ++ (Zero ∷ One ∷ dashes a) ∷ (One ∷ Zero ∷ dashes a) ∷ behind One One (upto b))

-- from 0a to 1b
abbrev pub across : Digits → Digits → List Symbols
across [] b = (Dash ∷ []) ∷ []
across (x ∷ a) [] = []
across (x ∷ a) (y ∷ b) =
    cond (all_zeros (x ∷ a)) (upto (true ∷ y ∷ b))
    (cond (all_ones (y ∷ b)) (onward (false ∷ x ∷ a))
    (middle x y a b (across a b)))

-- from a to b, a ≤ b
abbrev pub straight : Digits → Digits → List Symbols
straight [] b = [] ∷ []
straight (x ∷ a) [] = []
straight (false ∷ a) (false ∷ b) = map (λ r. Zero ∷ r) (straight a b)
straight (false ∷ a) (true ∷ b) = across a b
straight (true ∷ a) (false ∷ b) = []
straight (true ∷ a) (true ∷ b) = map (λ r. One ∷ r) (straight a b)

-- a row with its first symbol exchanged
abbrev pub swap_first : Symbols → Symbols
swap_first [] = []
swap_first (s ∷ r) = swap s ∷ r

-- from f to the highest number and from 0 to l, f > l + 1
abbrev pub round : Digits → Digits → List Symbols
round [] l = []
round (x ∷ f) [] = []
round (false ∷ f) (false ∷ l) = (One ∷ dashes f) ∷ map (λ r. Zero ∷ r) (round f l)
round (true ∷ f) (true ∷ l) = (Zero ∷ dashes f) ∷ map (λ r. One ∷ r) (round f l)
round (true ∷ f) (false ∷ l) = map swap_first (straight (false ∷ f) (true ∷ l))
round (false ∷ f) (true ∷ l) = []

-- the list of the straight range from a to b, and that of the run from f round to l, at width m
abbrev pub straight_rows : ℕ → ℕ → ℕ → List Symbols
straight_rows m a b = straight (digits m a) (digits m b)

abbrev pub round_rows : ℕ → ℕ → ℕ → List Symbols
round_rows m f l = round (digits m f) (digits m l)

-- the list of a run: straight if its first number is not above its last, else round
abbrev pub rows_of_run : ℕ → ℕ → ℕ → List Symbols
rows_of_run n f l = cond (nat_le f l) (straight_rows n f l) (round_rows n f l)

-- the most rows that a run can need: one at width 1, and 2n − 2 from width 2 on
abbrev pub most_rows : ℕ → ℕ
most_rows n = cond (nat_le n 1) 1 (2 * n - 2)

-- the one run of a range; if the first number is just one above the last, no number is left out: the whole circle
abbrev pub run_first : ℕ → ℕ → ℕ
run_first f l = cond (f == l + 1) 0 f

abbrev pub run_last : ℕ → ℕ → ℕ → ℕ
run_last n f l = cond (f == l + 1) (2 ^ n - 1) l

-- the list of a range
unfoldable pub rows_of_range : ℕ → ℕ → ℕ → List Symbols
rows_of_range n f l = rows_of_run n (run_first f l) (run_last n f l)

-- the lists of several runs, one after the other; a run is given by its first and last number
abbrev pub rows_of_runs : ℕ → List (ℕ × ℕ) → List Symbols
rows_of_runs n [] = []
rows_of_runs n (r ∷ runs) = rows_of_run n r.0 r.1 ++ rows_of_runs n runs
