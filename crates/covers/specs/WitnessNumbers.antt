-- Which numbers make the witness of a range: the number before the range and the number after it, each with one digit turned.
use Rattle.std.specs.Prelude.{ℕ, zero, suc, ◌+◌, ◌-◌, ◌%◌, ◌^◌, Bool, true, false, cond, not, List, [], ◌∷◌, ◌++◌, ◌==◌, nat_le, nat_lt}
use Rattle.covers.specs.Digits.{digit}

-- two digits are the same
abbrev pub alike : Bool → Bool → Bool
alike x y = cond x y (not y)

-- x with the other digit at place p
abbrev pub turned : ℕ → ℕ → ℕ
turned p x = cond (digit p x) (x - 2 ^ p) (x + 2 ^ p)

-- x turned at each of the last p places that has the digit d
abbrev pub each_turned : Bool → ℕ → ℕ → List ℕ
each_turned d zero x = []
each_turned d (suc p) x = cond (alike (digit p x) d) (turned p x ∷ each_turned d p x) (each_turned d p x)

-- at place p: the number before, if it has a 0 there, and else the number after, turned
abbrev pub one_turned : ℕ → ℕ → ℕ → ℕ
one_turned p before after = turned p (cond (digit p before) after before)

-- by their last p digits the number before is below the number after
abbrev pub under : ℕ → ℕ → ℕ → Bool
under p before after = nat_lt (before % 2 ^ p) (after % 2 ^ p)

-- at the last p places: one number a place as long as they are under; then the number before with each 0 turned, and the number after with each 1
abbrev pub inner_numbers : ℕ → ℕ → ℕ → List ℕ
inner_numbers zero before after = []
inner_numbers (suc p) before after =
    cond (under (suc p) before after)
    (one_turned p before after ∷ inner_numbers p before after)
    (each_turned false (suc p) before ++ each_turned true (suc p) after)

-- where both differ at place p: the number before turned there, if the places behind are under; and the numbers of these
abbrev pub parting_numbers : ℕ → ℕ → ℕ → List ℕ
parting_numbers p before after = cond (under p before after) (turned p before ∷ inner_numbers p before after) (inner_numbers p before after)

-- at p places: for a digit that both share none or, if the number after is not above the number before, one; and from where they differ on, as above
abbrev pub numbers_beside : Bool → ℕ → ℕ → ℕ → List ℕ
numbers_beside over zero before after = []
numbers_beside over (suc p) before after =
    cond (alike (digit p before) (digit p after))
    (cond over (one_turned p before after ∷ numbers_beside over p before after) (numbers_beside over p before after))
    (parting_numbers p before after)

-- on the circle of the numbers of n digits, the number before x and the number after it
abbrev pub number_before : ℕ → ℕ → ℕ
number_before n x = (x + 2 ^ n - 1) % 2 ^ n

abbrev pub number_after : ℕ → ℕ → ℕ
number_after n x = (x + 1) % 2 ^ n

-- the numbers of a range: of the whole circle one, else those beside the numbers before and after the range
unfoldable pub numbers_of_range : ℕ → ℕ → ℕ → List ℕ
numbers_of_range n f l =
    cond (number_after n l == f) (f ∷ [])
    (numbers_beside (nat_le (number_after n l) (number_before n f)) n (number_before n f) (number_after n l))
