-- Laws of masks that the library lacks.
use Rattle.std.proofs.Common.{◌≡◌, ℕ, zero, suc, ◌+◌, ◌*◌, ◌/◌, ◌%◌, ◌<◌, sym, refl, ap, ◌∙◌, ap₂, le_of_suc-le-suc, not-suc-le-zero, mod-lt, zero-lt-suc, div-add-mod'}
use lib.Arith.{bin_ind}
use lib.Bits.{bit_and, bit_xor, and_shr, and_mod, xor_shr, xor_mod, and_self}

two_pos : zero < 2
two_pos = zero-lt-suc 1

by_digits : {a b : ℕ} → a / 2 ≡ b / 2 → a % 2 ≡ b % 2 → a ≡ b
by_digits {a} {b} hi lo = sym (div-add-mod' a 2) ∙ ap₂ (λ (x y : ℕ). x * 2 + y) hi lo ∙ div-add-mod' b 2

not_digit {ℓ} : {A : Type ℓ} {x : ℕ} → suc (suc x) < 2 → A
not_digit h = absurd (not-suc-le-zero (le_of_suc-le-suc (le_of_suc-le-suc h)))

digit_assoc : (x y z : ℕ) → x < 2 → y < 2 → z < 2 → bit_and (bit_and x y) z ≡ bit_and x (bit_and y z)
digit_assoc zero y z hx hy hz = refl
digit_assoc (suc zero) zero z hx hy hz = refl
digit_assoc (suc zero) (suc zero) zero hx hy hz = refl
digit_assoc (suc zero) (suc zero) (suc zero) hx hy hz = refl
digit_assoc (suc zero) (suc zero) (suc (suc z)) hx hy hz = not_digit hz
digit_assoc (suc zero) (suc (suc y)) z hx hy hz = not_digit hy
digit_assoc (suc (suc x)) y z hx hy hz = not_digit hx

pub and_assoc : (a b c : ℕ) → bit_and (bit_and a b) c ≡ bit_and a (bit_and b c)
and_assoc =
    bin_ind (λ (n : ℕ). (b c : ℕ) → bit_and (bit_and n b) c ≡ bit_and n (bit_and b c)) (λ b c. refl)
    (λ n ih b c. by_digits
    (and_shr (bit_and n b) c 1 ∙ ap (λ (x : ℕ). bit_and x (c / 2)) (and_shr n b 1) ∙ ih (b / 2) (c / 2)
    ∙ sym (and_shr n (bit_and b c) 1 ∙ ap (bit_and (n / 2)) (and_shr b c 1)))
    (and_mod (bit_and n b) c 1 ∙ ap (λ (x : ℕ). bit_and x (c % 2)) (and_mod n b 1)
    ∙ digit_assoc (n % 2) (b % 2) (c % 2) (mod-lt n two_pos) (mod-lt b two_pos) (mod-lt c two_pos)
    ∙ sym (and_mod n (bit_and b c) 1 ∙ ap (bit_and (n % 2)) (and_mod b c 1))))

pub and_again : (a c : ℕ) → bit_and (bit_and a c) c ≡ bit_and a c
and_again a c = and_assoc a c c ∙ ap (bit_and a) (and_self c)

digit_over : (x y z : ℕ) → x < 2 → y < 2 → z < 2 → bit_and (bit_xor x y) z ≡ bit_xor (bit_and x z) (bit_and y z)
digit_over zero y z hx hy hz = refl
digit_over (suc zero) zero zero hx hy hz = refl
digit_over (suc zero) zero (suc zero) hx hy hz = refl
digit_over (suc zero) zero (suc (suc z)) hx hy hz = not_digit hz
digit_over (suc zero) (suc zero) zero hx hy hz = refl
digit_over (suc zero) (suc zero) (suc zero) hx hy hz = refl
digit_over (suc zero) (suc zero) (suc (suc z)) hx hy hz = not_digit hz
digit_over (suc zero) (suc (suc y)) z hx hy hz = not_digit hy
digit_over (suc (suc x)) y z hx hy hz = not_digit hx

pub and_over_xor : (a b c : ℕ) → bit_and (bit_xor a b) c ≡ bit_xor (bit_and a c) (bit_and b c)
and_over_xor =
    bin_ind (λ (n : ℕ). (b c : ℕ) → bit_and (bit_xor n b) c ≡ bit_xor (bit_and n c) (bit_and b c)) (λ b c. refl)
    (λ n ih b c. by_digits
    (and_shr (bit_xor n b) c 1 ∙ ap (λ (x : ℕ). bit_and x (c / 2)) (xor_shr n b 1) ∙ ih (b / 2) (c / 2)
    ∙ sym (xor_shr (bit_and n c) (bit_and b c) 1 ∙ ap₂ bit_xor (and_shr n c 1) (and_shr b c 1)))
    (and_mod (bit_xor n b) c 1 ∙ ap (λ (x : ℕ). bit_and x (c % 2)) (xor_mod n b 1)
    ∙ digit_over (n % 2) (b % 2) (c % 2) (mod-lt n two_pos) (mod-lt b two_pos) (mod-lt c two_pos)
    ∙ sym (xor_mod (bit_and n c) (bit_and b c) 1 ∙ ap₂ bit_xor (and_mod n c 1) (and_mod b c 1))))
