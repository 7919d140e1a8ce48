-- The rules' list of a range from 0, one place at a time.
use Rattle.std.proofs.Common.{◌≡◌, ℕ, zero, suc, ◌+◌, ◌-◌, ◌*◌, ◌/◌, ◌^◌, ◌<◌, ◌≤◌, Bool, true, false, cond, ◌∷◌, map, length, sym, refl, ap, ◌∙◌, arith, le_refl, pow_mono, pow_pos, zero-mul, Ok, Err}
use Rattle.std.proofs.Math.Nat.{div-eq_of_lt}
use Rattle.std.proofs.lemmas.Bool.{lt-ltb, le-leb, ne_eqb}
use Rattle.std.specs.Prelude.{nat_le}
use Rattle.rows.specs.declared.refusal.Refusal.TheVariants.{MemoryTooShort}
use Rattle.ranges.specs.RangeRows.{range_answer}
use lib.Count.{ones}
use Rattle.covers.specs.Digits.{digit, digits}
use Rattle.covers.specs.Rules.{below, straight_rows, rows_of_range}
use Rattle.covers.proofs.Equations.{equations_hold}
use Rattle.covers.proofs.RowCounts.{lowest_ones}
use Rattle.rows.specs.declared.row_words.RowWords.{RowWords}
use Rattle.rows.specs.Memory.{words_of}
use Rattle.ranges.specs.Building.{WithDigit}
use Rattle.ranges.specs.FromZero.{one_places, row_for_one, rows_below, RowsFromZero}
use Rattle.ranges.proofs.EdgeLists.{left_rows, below_step_1, below_step_0}
use Rattle.ranges.proofs.EdgeSteps.{one_more}
use Rattle.ranges.proofs.RunLists.{words_behind}

-- the digits of c before the last m places
abbrev before : ℕ → ℕ → ℕ → RowWords
before n c m = record { value = c / 2 ^ m * 2 ^ m; care = 2 ^ n - 2 ^ m }

-- the rows for the ones of c among the last p places
rows_left : (n c p : ℕ) → p ≤ n → left_rows (before n c p) false p c ≡ map (row_for_one n c) (one_places p c)
rows_left n c zero h = refl
rows_left n c (suc m) h = go (digit m c) refl (rows_left n c m (omega arith))
  where
    smaller : 2 ^ suc m ≤ 2 ^ n
    smaller = pow_mono h

    cares : 2 ^ n - 2 ^ m ≡ 2 ^ n - 2 ^ suc m + 2 ^ m
    cares = let k = smaller in omega arith

    with_digit : (d : Bool) → digit m c ≡ d → WithDigit (before n c (suc m)) (before n c m) m d
    with_digit d e = record { value = one_more m c ∙ ap (λ t. c / 2 ^ suc m * 2 ^ suc m + cond t (2 ^ m) 0) e; care = cares }

    with_zero : WithDigit (before n c (suc m)) (row_for_one n c m) m false
    with_zero = record { value = omega arith; care = cares }

    go : (d : Bool) → digit m c ≡ d → left_rows (before n c m) false m c ≡ map (row_for_one n c) (one_places m c) →
        left_rows (before n c (suc m)) false (suc m) c ≡ map (row_for_one n c) (one_places (suc m) c)
    go true e ih =
        below_step_1 (before n c (suc m)) (row_for_one n c m) (before n c m) false m c e with_zero (with_digit true e) ∙
        rw e (ap (λ l. row_for_one n c m ∷ l) ih)
    go false e ih = below_step_0 (before n c (suc m)) (before n c m) false m c e (with_digit false e) ∙ rw e ih

below_rows : (n c : ℕ) → c < 2 ^ n → map words_of (below (digits n c)) ≡ rows_below n c
below_rows n c h =
    let none : c / 2 ^ n * 2 ^ n ≡ 0 = ap (λ k. k * 2 ^ n) (div-eq_of_lt h) ∙ zero-mul (2 ^ n) in
    let free : 2 ^ n - 2 ^ n ≡ 0 = omega arith in
    sym (words_behind (before n c n) none free (below (digits n c))) ∙ rows_left n c n (le_refl n)

pub from_zero : RowsFromZero
from_zero = record {
  rows = λ n b h. ap (map words_of) (equations_hold.from_zero n b h) ∙ below_rows n (b + 1) h;
  count = lowest_ones;
  example = refl;
}

-- the list of a range from 0 is straight
pub zero_list : (n f l : ℕ) → f ≡ 0 → rows_of_range n f l ≡ straight_rows n 0 l
unfolding rows_of_range
zero_list n f l e = rw (e, ne_eqb 0 (l + 1) (λ k. omega arith), le-leb 0 l (omega arith)) refl

pub zero_words : (n f l : ℕ) → f ≡ 0 → l + 1 < 2 ^ n → map words_of (rows_of_range n f l) ≡ rows_below n (l + 1)
zero_words n f l e h = ap (map words_of) (zero_list n f l e) ∙ from_zero.rows n l h

pub zero_answer : (n f l room : ℕ) → f ≡ 0 → l < 2 ^ n → range_answer n f l room ≡ cond (nat_le (ones (l + 1)) room) (Ok (ones (l + 1))) (Err MemoryTooShort)
zero_answer n f l room e h =
    let p = pow_pos n in
    rw (lt-ltb f (2 ^ n) (omega arith), lt-ltb l (2 ^ n) h)
    (ap (λ k. cond (nat_le k room) (Ok k) (Err MemoryTooShort)) (ap length (zero_list n f l e) ∙ from_zero.count n l h))
