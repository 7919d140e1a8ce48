-- Values of digits that are put together.
use Rattle.std.proofs.Common.{◌≡◌, ℕ, zero, suc, ◌+◌, ◌*◌, ◌/◌, ◌%◌, ◌^◌, Bool, true, false, eqb, List, [], ◌∷◌, ◌++◌, length, sym, refl, ap, ◌∙◌, ap₂, mod-lt, add-mul, add_comm, suc-add, zero-add, arith}
use Rattle.std.specs.List.{flat_map}
use Rattle.std.proofs.lemmas.Nat.{pow_pos, pow-add, shr-shr}
use Rattle.std.proofs.lemmas.List.{length-append, append_assoc}
use Rattle.std.proofs.lemmas.Bool.{ne_eqb}
use Rattle.covers.specs.Digits.{Digits, digits, value, all_zeros}
use Rattle.covers.proofs.Numbers.{digits_mod, value_digits}

pub value_append : (u v : Digits) → value (u ++ v) ≡ value u * 2 ^ length v + value v
unfolding value
value_append [] v = omega arith
value_append (false ∷ u) v = value_append u v
value_append (true ∷ u) v =
    let ih = value_append u v in
    let l = ap (λ k. 2 ^ k) (length-append u v) in
    let p = pow-add 2 (length u) (length v) in
    let m = add-mul (2 ^ length u) (value u) (2 ^ length v) in
    omega arith

-- digits in two parts
pub digits_split : (n k x : ℕ) → digits (n + k) x ≡ digits n (x / 2 ^ k) ++ digits k x
digits_split zero k x = ap (λ m. digits m x) (zero-add k)
digits_split (suc n) k x =
    ap (λ m. digits m x) (suc-add n k) ∙
    ap₂ (λ (t : Bool) (u : Digits). t ∷ u)
    (ap (λ m. eqb (m % 2) 1) (ap (λ m. x / 2 ^ m) (add_comm n k) ∙ sym (shr-shr x k n)))
    (digits_split n k x)

pub value_low : (n x : ℕ) → value (digits n x) ≡ x % 2 ^ n
value_low n x = ap value (sym (digits_mod n x)) ∙ value_digits n (x % 2 ^ n) (mod-lt x (pow_pos n))

pub zeros_value : (u : Digits) → all_zeros u ≡ eqb (value u) 0
unfolding value
zeros_value [] = refl
zeros_value (false ∷ u) = zeros_value u
zeros_value (true ∷ u) = let p = pow_pos (length u) in sym (ne_eqb (2 ^ length u + value u) 0 (λ e. omega arith))
