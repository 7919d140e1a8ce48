-- Sets of slots as bits of a number.
use Rattle.std.proofs.Common.{◌≡◌, ℕ, zero, suc, ◌+◌, ◌-◌, ◌*◌, ◌/◌, ◌%◌, ◌^◌, ◌<◌, Bool, true, false, cond, not, ◌&&◌, ◌||◌, eqb, ltb, ◌∷◌, sym, refl, ap, ◌∙◌, ap₂, mod-eq_of_lt, add-mul, one-mul, arith, pow_pos, pow_mono}
use lib.Bits.{bit_and, bit_or, bit_xor, xor_add_and, and_mask, and_comm}
use lib.Pow.{pow-lt}
use Rattle.std.proofs.lemmas.Nat.{shr_high, shl-shr, pow-add}
use Rattle.std.proofs.lemmas.Bool.{eqb-true, eqb-false, ltb-true, ltb-false}
use Rattle.covers.specs.Digits.{Digits, digit, digits, value}
use Rattle.covers.proofs.Numbers.{value_digits}
use Rattle.covers.proofs.Digitwise.{digit_or, digit_xor, digit_beyond}
use Rattle.covers.proofs.RowWords.{digit_and}

-- 2 ^ c is a multiple of 2 ^ p below it
above : (p c : ℕ) → p < c → 2 ^ c ≡ 2 ^ suc (c - suc p) * 2 ^ p
above p c h = let e : c ≡ suc (c - suc p) + p = omega arith in ap (λ k. 2 ^ k) e ∙ pow-add 2 (suc (c - suc p)) p

-- the set of one slot
pub digit_power : (p s : ℕ) → digit p (2 ^ s) ≡ eqb p s
digit_power p s = go (eqb p s) refl (ltb p s) refl
  where
    go : (t : Bool) → eqb p s ≡ t → (u : Bool) → ltb p s ≡ u → digit p (2 ^ s) ≡ t
    go true t u _ =
        let e = eqb-true p s t in
        let one : 2 ^ s / 2 ^ p ≡ 1 = ap (λ k. 2 ^ k / 2 ^ p) (sym e) ∙ ap (λ k. k / 2 ^ p) (sym (one-mul (2 ^ p))) ∙ shl-shr 1 p in
        rw one
    go false t true u =
        let d = s - suc p in
        let q : 2 ^ s / 2 ^ p ≡ 2 ^ suc d = ap (λ k. k / 2 ^ p) (above p s (ltb-true p s u)) ∙ shl-shr (2 ^ suc d) p in
        let even : 2 ^ suc d % 2 ≡ 0 = omega arith in
        ap (λ k. eqb (k % 2) 1) q ∙ ap (λ k. eqb k 1) even
    go false t false u =
        let n = eqb-false p s t in
        let l = ltb-false p s u in
        let lt : s < p = omega arith in
        digit_beyond p (2 ^ s) (pow-lt lt)

-- the set of the first c slots
pub digit_ones : (p c : ℕ) → digit p (2 ^ c - 1) ≡ ltb p c
digit_ones p c = go (ltb p c) refl
  where
    go : (t : Bool) → ltb p c ≡ t → digit p (2 ^ c - 1) ≡ t
    go true t =
        let d = c - suc p in
        let hi = 2 ^ suc d - 1 in
        let pos = pow_pos d in
        let low = pow_pos p in
        let big : 2 ^ suc d ≡ hi + 1 = omega arith in
        let whole : 2 ^ c ≡ hi * 2 ^ p + 2 ^ p =
        above p c (ltb-true p c t) ∙ ap (λ k. k * 2 ^ p) big ∙ add-mul hi 1 (2 ^ p) ∙ ap (λ k. hi * 2 ^ p + k) (one-mul (2 ^ p)) in
        let split : 2 ^ c - 1 ≡ hi * 2 ^ p + (2 ^ p - 1) = omega arith in
        let odd : hi % 2 ≡ 1 = omega arith in
        ap (λ k. eqb (k / 2 ^ p % 2) 1) split ∙ ap (λ k. eqb (k % 2) 1) (shr_high hi p (2 ^ p - 1) (omega arith)) ∙ ap (λ k. eqb k 1) odd
    go false t =
        let l = ltb-false p c t in
        let m = pow_mono {i = c} {j = p} l in
        let pos = pow_pos c in
        digit_beyond p (2 ^ c - 1) (omega arith)

-- a set with no slot in it is 0
pub none_zero : (n x : ℕ) → x < 2 ^ n → ((i : ℕ) → digit i x ≡ false) → x ≡ 0
none_zero n x h none = sym (value_digits n x h) ∙ ap value (same n) ∙ value_digits n 0 (pow_pos n)
  where
    same : (m : ℕ) → digits m x ≡ digits m 0
    same zero = refl
    same (suc m) = ap₂ (λ (b : Bool) (u : Digits). b ∷ u) (none m ∙ sym (digit_beyond m 0 (pow_pos m))) (same m)

-- the slot put into the set
pub put_in : (x s i : ℕ) → digit i (bit_or x (2 ^ s)) ≡ cond (eqb i s) true (digit i x)
put_in x s i = digit_or i x (2 ^ s) ∙ ap (λ b. digit i x || b) (digit_power i s) ∙ go (digit i x) (eqb i s)
  where
    go : (a b : Bool) → (a || b) ≡ cond b true a
    go true true = refl
    go true false = refl
    go false true = refl
    go false false = refl

-- the slot taken out of the set
pub taken_out : (n x s i : ℕ) → x < 2 ^ n → s < n → digit i (bit_and x ((2 ^ n - 1) - 2 ^ s)) ≡ cond (eqb i s) false (digit i x)
taken_out n x s i h k =
    digit_and i x ((2 ^ n - 1) - 2 ^ s) ∙ ap (λ b. digit i x && b) (ap (digit i) but ∙ digit_xor i (2 ^ n - 1) (2 ^ s)) ∙
    ap₂ (λ p q. digit i x && cond p (not q) q) (digit_power i s) (digit_ones i n) ∙ go (eqb i s) refl (ltb i n) refl
  where
    -- all but one is an exclusive or
    but : (2 ^ n - 1) - 2 ^ s ≡ bit_xor (2 ^ n - 1) (2 ^ s)
    but =
        let small = pow-lt k in
        let masked = and_comm (2 ^ n - 1) (2 ^ s) ∙ and_mask (2 ^ s) n ∙ mod-eq_of_lt small in
        let sum = xor_add_and (2 ^ n - 1) (2 ^ s) in
        let pos = pow_pos s in
        omega arith

    ends : (b : Bool) → (b && false) ≡ false
    ends true = refl
    ends false = refl

    stays : (b : Bool) → (b && true) ≡ b
    stays true = refl
    stays false = refl

    go : (p : Bool) → eqb i s ≡ p → (q : Bool) → ltb i n ≡ q → (digit i x && cond p (not q) q) ≡ cond p false (digit i x)
    go true p true q = ends (digit i x)
    go true p false q = let e = eqb-true i s p in let l = ltb-false i n q in let z : ⊥ = omega arith in absurd z
    go false p true q = stays (digit i x)
    go false p false q =
        let l = ltb-false i n q in
        let m = pow_mono {i = n} {j = i} l in
        ends (digit i x) ∙ sym (digit_beyond i x (omega arith))
