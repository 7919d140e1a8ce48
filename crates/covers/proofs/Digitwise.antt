-- Digits of numbers that are made of others bit by bit, and beyond the highest.
use Rattle.std.proofs.Common.{◌≡◌, ℕ, zero, suc, ◌/◌, ◌%◌, ◌^◌, ◌<◌, false, cond, not, ◌||◌, eqb, refl, ap, ◌∙◌, le_of_suc-le-suc, not-suc-le-zero, mod-lt, zero-lt-suc, arith, pow_pos}
use lib.Bits.{bit_or, bit_xor, or_shr, or_mod, xor_shr, xor_mod}
use Rattle.std.proofs.lemmas.Nat.{div_below}
use Rattle.covers.specs.Digits.{digit}

not_digit {ℓ} : {A : Type ℓ} {x : ℕ} → suc (suc x) < 2 → A
not_digit h = absurd (not-suc-le-zero (le_of_suc-le-suc (le_of_suc-le-suc h)))

or_of_bits : (a b : ℕ) → a < 2 → b < 2 → eqb (bit_or a b) 1 ≡ (eqb a 1 || eqb b 1)
or_of_bits zero b ha hb = refl
or_of_bits (suc zero) zero ha hb = refl
or_of_bits (suc zero) (suc zero) ha hb = refl
or_of_bits (suc zero) (suc (suc b)) ha hb = not_digit hb
or_of_bits (suc (suc a)) b ha hb = not_digit ha

xor_of_bits : (a b : ℕ) → a < 2 → b < 2 → eqb (bit_xor a b) 1 ≡ cond (eqb b 1) (not (eqb a 1)) (eqb a 1)
xor_of_bits zero zero ha hb = refl
xor_of_bits zero (suc zero) ha hb = refl
xor_of_bits (suc zero) zero ha hb = refl
xor_of_bits (suc zero) (suc zero) ha hb = refl
xor_of_bits zero (suc (suc b)) ha hb = not_digit hb
xor_of_bits (suc zero) (suc (suc b)) ha hb = not_digit hb
xor_of_bits (suc (suc a)) b ha hb = not_digit ha

pub digit_or : (p x y : ℕ) → digit p (bit_or x y) ≡ (digit p x || digit p y)
digit_or p x y =
    ap (λ k. eqb (k % 2) 1) (or_shr x y p) ∙ ap (λ k. eqb k 1) (or_mod (x / 2 ^ p) (y / 2 ^ p) 1) ∙
    or_of_bits (x / 2 ^ p % 2) (y / 2 ^ p % 2) (mod-lt (x / 2 ^ p) (zero-lt-suc 1)) (mod-lt (y / 2 ^ p) (zero-lt-suc 1))

pub digit_xor : (p x y : ℕ) → digit p (bit_xor x y) ≡ cond (digit p y) (not (digit p x)) (digit p x)
digit_xor p x y =
    ap (λ k. eqb (k % 2) 1) (xor_shr x y p) ∙ ap (λ k. eqb k 1) (xor_mod (x / 2 ^ p) (y / 2 ^ p) 1) ∙
    xor_of_bits (x / 2 ^ p % 2) (y / 2 ^ p % 2) (mod-lt (x / 2 ^ p) (zero-lt-suc 1)) (mod-lt (y / 2 ^ p) (zero-lt-suc 1))

-- a number has no digit beyond its highest
pub digit_beyond : (p x : ℕ) → x < 2 ^ p → digit p x ≡ false
digit_beyond p x h =
    let few = div_below x (2 ^ p) 1 (pow_pos p) (omega arith) in
    let none : x / 2 ^ p ≡ 0 = omega arith in
    rw none
