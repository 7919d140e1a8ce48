-- Steps on the circle, computed on words.
use Rattle.std.proofs.Common.{◌≡◌, ℕ, ◌+◌, ◌-◌, ◌*◌, ◌%◌, ◌^◌, ◌<◌, ◌≤◌, ap, ◌∙◌, inl, inr, mod-eq_of_lt, add-mul, arith, pow_pos, pow-add}
use native.Mathlib.Nat.{add-mod_right}
use lib.Arith.{digits_mod}
use lib.Pow.{mod-mod-pow}
use Rattle.circle.proofs.Circle.{ahead, ahead_cases, ahead_fits}
use Rattle.run_table.specs.NewRuns.{steps}

-- a word's turn is whole turns of the circle
turns : (n : ℕ) → n ≤ 64 → 2 ^ 64 ≡ 2 ^ (64 - n) * 2 ^ n
turns n h = let e : 64 ≡ 64 - n + n = omega arith in ap (λ k. 2 ^ k) e ∙ pow-add 2 (64 - n) n

pub wrapped : (n x : ℕ) → n ≤ 64 → x % 2 ^ 64 % 2 ^ n ≡ x % 2 ^ n
wrapped n x h = let e : 64 ≡ 64 - n + n = omega arith in ap (λ k. x % 2 ^ k % 2 ^ n) e ∙ mod-mod-pow x (64 - n) n

pub steps_ahead : (n f x : ℕ) → n ≤ 64 → f < 2 ^ n → x < 2 ^ n → steps n f x ≡ ahead n f x
steps_ahead n f x h hf hx = elim (ahead_cases n f x hf hx) [ inl p ↦ on p | inr p ↦ round p ]
  where
    on : (f ≤ x) × (f + ahead n f x ≡ x) → steps n f x ≡ ahead n f x
    on p =
        let t = turns n h in
        let e : x + 2 ^ 64 - f ≡ 2 ^ (64 - n) * 2 ^ n + ahead n f x = omega arith in
        ap (λ k. k % 2 ^ n) e ∙ digits_mod (2 ^ (64 - n)) (ahead_fits n f x hf hx)

    round : (x < f) × (f + ahead n f x ≡ x + 2 ^ n) → steps n f x ≡ ahead n f x
    round p =
        let t = turns n h in
        let some = pow_pos (64 - n) in
        let one : 2 ^ (64 - n) ≡ 2 ^ (64 - n) - 1 + 1 = omega arith in
        let m = ap (λ k. k * 2 ^ n) one ∙ add-mul (2 ^ (64 - n) - 1) 1 (2 ^ n) in
        let e : x + 2 ^ 64 - f ≡ (2 ^ (64 - n) - 1) * 2 ^ n + ahead n f x = omega arith in
        ap (λ k. k % 2 ^ n) e ∙ digits_mod (2 ^ (64 - n) - 1) (ahead_fits n f x hf hx)

-- so many steps on from f stands x
pub ahead_there : (n f x : ℕ) → f < 2 ^ n → x < 2 ^ n → (f + ahead n f x) % 2 ^ n ≡ x
ahead_there n f x hf hx = elim (ahead_cases n f x hf hx) [
  | inl p ↦ ap (λ k. k % 2 ^ n) p.1 ∙ mod-eq_of_lt hx
  | inr p ↦ ap (λ k. k % 2 ^ n) p.1 ∙ add-mod_right x (2 ^ n) ∙ mod-eq_of_lt hx
]
