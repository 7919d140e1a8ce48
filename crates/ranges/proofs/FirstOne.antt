-- The first 1 of a number, as the code finds it.
use Rattle.std.proofs.Common.{◌≡◌, ℕ, suc, ◌+◌, ◌-◌, ◌*◌, ◌%◌, ◌^◌, ◌<◌, ◌≤◌, ap, arith}
use Rattle.std.proofs.lemmas.Nat.{leading_top, one_shl}
use Rattle.std.specs.Int.Count.{count_leading_zeros}

-- its place, and the number that has this 1 alone
abbrev pub top_place : ℕ → ℕ
top_place x = 63 - count_leading_zeros 64 x

abbrev pub top_bit : ℕ → ℕ
top_bit x = (1 * 2 ^ top_place x) % 2 ^ 64

pub record FirstOne (x : ℕ) : Type 0 where
  pub counted : count_leading_zeros 64 x + suc (top_place x) ≡ 64
  pub is : top_bit x ≡ 2 ^ top_place x
  pub from : 2 ^ top_place x ≤ x
  pub to : x < 2 ^ suc (top_place x)

pub first_one : (x : ℕ) → 0 < x → x < 2 ^ 64 → FirstOne x
first_one x some short =
    let t = leading_top 64 x some short in
    let c = t.1 in
    let from = t.2 in
    let to = t.3 in
    let e : top_place x ≡ t.0 = omega arith in
    let p = ap (λ k. 2 ^ k) e in
    let q = ap (λ k. 2 ^ suc k) e in
    record { counted = omega arith; is = one_shl (top_place x) 64 (omega arith); from = omega arith; to = omega arith }
