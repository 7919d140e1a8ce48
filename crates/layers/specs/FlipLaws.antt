-- That a flip is lawful at every width.
use Rattle.std.specs.Prelude.{◌≡◌, ℕ, ◌%◌, ◌^◌, ◌<◌, bit_and, bit_xor, refl}
use Rattle.std.proofs.Common.{sym, ap, ◌∙◌, mod-lt, pow_pos}
use Rattle.std.proofs.lemmas.Nat.{xor_lt}
use Rattle.std.specs.Int.Bits.{xor_assoc, xor_self, xor_zero_r}
use Rattle.covers.proofs.Masks.{and_over_xor}
use Rattle.rows.specs.declared.row.Row.{Row}
use Rattle.device.specs.States.{row_takes}
use Rattle.rows.specs.MadeRows.{row_made}
use Rattle.device.specs.Levels.{Carries}
use Rattle.rows.proofs.SameRows.{row_same}
use Rattle.layers.specs.EqualTests.{eqb_both}
use Rattle.layers.specs.Flips.{flipped, flipped_row, flip_carrying}

xor_twice : (a b : ℕ) → bit_xor (bit_xor a b) b ≡ a
xor_twice a b = xor_assoc a b b ∙ ap (bit_xor a) (xor_self b) ∙ xor_zero_r a

pub flip_carries : (mask n : ℕ) → Carries n (flip_carrying mask n)
unfolding row_made
flip_carries mask n =
    record {
      number_stays = stays;
      number_back_stays = stays;
      number_there_back = λ x _. xor_twice x marked;
      number_back_there = λ x _. xor_twice x marked;
      row_stays = λ r h. h;
      row_back_stays = λ r h. h;
      row_there_back = λ r _. row_again r;
      row_back_there = λ r _. row_again r;
      taken = λ r x _ _. row_taken r x;
    }
  where
    marked : ℕ
    marked = mask % 2 ^ n

    stays : (x : ℕ) → x < 2 ^ n → flipped mask n x < 2 ^ n
    stays x h = xor_lt n x (mask % 2 ^ n) h (mod-lt mask (pow_pos n))

    value_of : (r : Row) → (flipped_row mask n r).value ≡ bit_xor r.value (bit_and (mask % 2 ^ n) r.care)
    value_of r = and_over_xor r.value (mask % 2 ^ n) r.care ∙ ap (λ (v : ℕ). bit_xor v (bit_and (mask % 2 ^ n) r.care)) r.clean

    row_again : (r : Row) → flipped_row mask n (flipped_row mask n r) ≡ r
    row_again r =
        let cared = bit_and (mask % 2 ^ n) r.care in
        row_same (flipped_row mask n (flipped_row mask n r)) r
        (value_of (flipped_row mask n r) ∙ ap (λ (v : ℕ). bit_xor v cared) (value_of r) ∙ xor_twice r.value cared)
        refl

    row_taken : (r : Row) (x : ℕ) → row_takes (flipped_row mask n r) (flipped mask n x) ≡ row_takes r x
    row_taken r x =
        let cared = bit_and (mask % 2 ^ n) r.care in
        let number : bit_and (flipped mask n x) r.care ≡ bit_xor (bit_and x r.care) cared = and_over_xor x (mask % 2 ^ n) r.care in
        eqb_both (bit_and (flipped mask n x) r.care) (flipped_row mask n r).value (bit_and x r.care) r.value
        (λ h. sym (xor_twice (bit_and x r.care) cared) ∙ ap (λ (v : ℕ). bit_xor v cared) (sym number ∙ h ∙ value_of r) ∙ xor_twice r.value cared)
        (λ h. number ∙ ap (λ (v : ℕ). bit_xor v cared) h ∙ sym (value_of r))
