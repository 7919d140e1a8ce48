-- A turn, digit by digit.
use Rattle.std.proofs.Common.{◌≡◌, ℕ, zero, suc, ◌+◌, ◌*◌, ◌/◌, ◌%◌, ◌^◌, ◌<◌, Bool, true, false, cond, eqb, [], ◌∷◌, ◌++◌, reverse, length, sym, refl, ap, ◌∙◌, ap₂, le_of_suc-le-suc, not-suc-le-zero, mod-lt, zero-lt-suc, add-one, arith, length-append}
use mathlib.Core.List.{reverse-cons}
use Rattle.covers.specs.Digits.{Digits, digit, digits, value}
use Rattle.layers.specs.Turns.{turned}
use Rattle.layers.specs.TurnLaws.{turned_is}

-- one digit more, at the end
value_push : (u : Digits) (b : Bool) → value (u ++ (b ∷ [])) ≡ value u * 2 + cond b 1 0
unfolding value
value_push [] true = refl
value_push [] false = refl
value_push (false ∷ u) b = value_push u b
value_push (true ∷ u) b =
    let ih = value_push u b in
    let l : length (u ++ (b ∷ [])) ≡ suc (length u) = let a = length-append u (b ∷ []) in omega arith in
    let e = ap (λ k. 2 ^ k) l in
    let t : 2 ^ suc (length u) ≡ 2 ^ length u + 2 ^ length u = omega arith in
    omega arith

digit_number : (m : ℕ) → m < 2 → cond (eqb m 1) 1 0 ≡ m
digit_number zero h = refl
digit_number (suc zero) h = refl
digit_number (suc (suc m)) h = absurd (not-suc-le-zero (le_of_suc-le-suc (le_of_suc-le-suc h)))

pub turned_none : (x : ℕ) → turned 0 x ≡ 0
unfolding turned value
turned_none x = refl

pub turned_more : (i x : ℕ) → turned (i + 1) x ≡ turned i x * 2 + x / 2 ^ i % 2
turned_more i x =
    ap (λ k. turned k x) (add-one i) ∙ turned_is (suc i) x ∙ ap value (reverse-cons (digit i x) (digits i x)) ∙ value_push (reverse (digits i x)) (digit i x) ∙
    ap₂ (λ (v d : ℕ). v * 2 + d) (sym (turned_is i x)) (digit_number (x / 2 ^ i % 2) (mod-lt (x / 2 ^ i) (zero-lt-suc 1)))
