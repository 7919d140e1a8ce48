use Rattle.std.proofs.Common.{◌≡◌, ℕ, suc, ◌+◌, ◌*◌, ◌/◌, ◌%◌, ◌^◌, Bool, true, false, cond, refl, sym, ap, ap₂, ◌∙◌, mod-lt, add-mul, arith, pow_pos}
use lib.Bits.{bit_xor, xor_zero_r}
use Rattle.std.proofs.lemmas.Nat.{one_shl, shr_split, xor_block}
use Rattle.covers.specs.Digits.{digit}
use Rattle.covers.specs.WitnessNumbers.{turned}
use Rattle.covers.proofs.Turned.{digit_head}
use Rattle.ranges.proofs.turned.with_digit_turned.Goals as goal

-- the exclusive or with 1 turns the last digit, and with a power of 2 the digit at its place
xor_one : (h : ℕ) (d : Bool) → bit_xor (h * 2 + cond d 1 0) 1 ≡ h * 2 + cond d 0 1
xor_one h true = xor_block 1 h 0 1 1 (omega arith) (omega arith) ∙ ap (λ k. k * 2 + 0) (xor_zero_r h)
xor_one h false = xor_block 1 h 0 0 1 (omega arith) (omega arith) ∙ ap (λ k. k * 2 + 1) (xor_zero_r h)

turned_by_xor : (p x : ℕ) → bit_xor x (2 ^ p) ≡ turned p x
turned_by_xor p x =
    let one : 2 ^ p ≡ 1 * 2 ^ p + 0 = omega arith in
    ap₂ bit_xor (sym (shr_split x p)) one ∙ xor_block p (x / 2 ^ p) 1 (x % 2 ^ p) 0 (mod-lt x (pow_pos p)) (pow_pos p) ∙
    ap₂ (λ j k. bit_xor j 1 * 2 ^ p + k) (digit_head p x) (xor_zero_r (x % 2 ^ p)) ∙
    ap (λ k. k * 2 ^ p + x % 2 ^ p) (xor_one (x / 2 ^ suc p) (digit p x)) ∙ go (digit p x) refl
  where
    go : (d : Bool) → digit p x ≡ d → (x / 2 ^ suc p * 2 + cond (digit p x) 0 1) * 2 ^ p + x % 2 ^ p ≡ turned p x
    go true e =
        let s = shr_split x p in
        let h = rw e at (digit_head p x) in
        let m = ap (λ k. k * 2 ^ p) h in
        let t = add-mul (x / 2 ^ suc p * 2) 1 (2 ^ p) in
        let z = add-mul (x / 2 ^ suc p * 2) 0 (2 ^ p) in
        rw e (omega arith)
    go false e =
        let s = shr_split x p in
        let h = rw e at (digit_head p x) in
        let m = ap (λ k. k * 2 ^ p) h in
        let t = add-mul (x / 2 ^ suc p * 2) 1 (2 ^ p) in
        let z = add-mul (x / 2 ^ suc p * 2) 0 (2 ^ p) in
        rw e (omega arith)

pub returns : goal.returns
returns c = record { value = ap (bit_xor c.args.number) (one_shl c.args.place 64 (omega arith)) ∙ turned_by_xor c.args.place c.args.number }
