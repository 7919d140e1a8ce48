-- The rows of a range from 0, by the ones of the number after its last.
use Rattle.std.specs.Prelude.{◌≡◌, ℕ, zero, suc, ◌+◌, ◌-◌, ◌*◌, ◌/◌, ◌^◌, ◌<◌, cond, List, [], ◌∷◌, map, length, count_ones}
use Rattle.covers.specs.Digits.{digit}
use Rattle.covers.specs.Rules.{straight_rows}
use Rattle.rows.specs.declared.row_words.RowWords.{RowWords}
use Rattle.rows.specs.Memory.{words_of}

-- the places at which c has a 1, of the last n, the first place first; the last place is place 0
abbrev pub one_places : ℕ → ℕ → List ℕ
one_places zero c = []
one_places (suc p) c = cond (digit p c) (p ∷ one_places p c) (one_places p c)

-- the row for a 1 of c at place p: the digits of c before it, then 0, then dashes
abbrev pub row_for_one : ℕ → ℕ → ℕ → RowWords
row_for_one n c p = record { value = c / 2 ^ suc p * 2 ^ suc p; care = 2 ^ n - 2 ^ p }

-- the rows of the numbers below c, which is no more than the highest number: one for each 1 in c, first place to last
abbrev pub rows_below : ℕ → ℕ → List RowWords
rows_below n c = map (row_for_one n c) (one_places n c)

-- the rules give the range from 0 to b these rows, of c = b + 1, unless it is the whole; and as many rows as c has ones
pub record RowsFromZero : Type 0 where
  pub rows : (n b : ℕ) → b + 1 < 2 ^ n → map words_of (straight_rows n 0 b) ≡ rows_below n (b + 1)
  pub count : (n b : ℕ) → b < 2 ^ n → length (straight_rows n 0 b) ≡ count_ones (b + 1)
  -- 0 to 4 at width 3: c is 101, the rows 0-- and 100
  pub example : rows_below 3 5 ≡ record { value = 0; care = 4 } ∷ record { value = 4; care = 7 } ∷ []
