-- That a turn is lawful at every width.
use Rattle.std.specs.Prelude.{◌≡◌, ℕ, ◌^◌, ◌<◌, [], ◌∷◌, reverse, length, bit_and, refl}
use Rattle.std.proofs.Common.{sym, ap, ap₂, ◌∙◌, arith}
use mathlib.Core.List.{reverse_aux}
use Rattle.std.proofs.lemmas.Nat.{and_le_r}
use Rattle.std.proofs.lemmas.List.{length-reverse, reverse-reverse}
use Rattle.covers.specs.Digits.{Digits, digits, value}
use Rattle.covers.proofs.Witnesses.{Same}
use Rattle.covers.proofs.Numbers.{length_digits, value_below, value_digits, digits_value, same_digits}
use Rattle.covers.proofs.RowWords.{both, digits_and}
use Rattle.rows.specs.declared.row.Row.{Row}
use Rattle.device.specs.States.{row_takes}
use Rattle.rows.specs.MadeRows.{row_made}
use Rattle.device.specs.Levels.{Carries}
use Rattle.rows.proofs.SameRows.{row_same}
use Rattle.layers.specs.EqualTests.{eqb_both}
use Rattle.layers.specs.Turns.{turned, turned_row, turn_carrying}

pub turned_is : (n x : ℕ) → turned n x ≡ value (reverse (digits n x))
unfolding turned
turned_is n x = refl

length_turned : (n x : ℕ) → length (reverse (digits n x)) ≡ n
length_turned n x = length-reverse (digits n x) ∙ length_digits n x

pub turned_fits : (n x : ℕ) → turned n x < 2 ^ n
turned_fits n x =
    let b = value_below (reverse (digits n x)) in
    let e = ap (λ k. 2 ^ k) (length_turned n x) in
    let t = turned_is n x in
    omega arith

digits_turned : (n x : ℕ) → digits n (turned n x) ≡ reverse (digits n x)
digits_turned n x =
    ap₂ digits (sym (length_turned n x)) (turned_is n x) ∙ digits_value (reverse (digits n x))

pub turned_twice : (n x : ℕ) → x < 2 ^ n → turned n (turned n x) ≡ x
turned_twice n x h =
    turned_is n (turned n x) ∙ ap (λ u. value (reverse u)) (digits_turned n x) ∙ ap value (reverse-reverse (digits n x)) ∙ value_digits n x h

reverse_both : (u v a b : Digits) → Same u v → reverse_aux (both u v) (both a b) ≡ both (reverse_aux u a) (reverse_aux v b)
reverse_both [] [] a b s = refl
reverse_both [] (y ∷ v) a b s = absurd s
reverse_both (x ∷ u) [] a b s = absurd s
reverse_both (x ∷ u) (y ∷ v) a b s = reverse_both u v (x ∷ a) (y ∷ b) s

turned_and : (n a b : ℕ) → turned n (bit_and a b) ≡ bit_and (turned n a) (turned n b)
turned_and n a b =
    let fits : bit_and (turned n a) (turned n b) < 2 ^ n = let l = and_le_r (turned n a) (turned n b) in let f = turned_fits n b in omega arith in
    turned_is n (bit_and a b) ∙
    ap value
    (ap reverse (digits_and n a b) ∙ reverse_both (digits n a) (digits n b) [] [] (same_digits n a b) ∙
    ap₂ both (sym (digits_turned n a)) (sym (digits_turned n b)) ∙ sym (digits_and n (turned n a) (turned n b))) ∙
    value_digits n (bit_and (turned n a) (turned n b)) fits

pub turn_carries : (n : ℕ) → Carries n (turn_carrying n)
unfolding row_made
turn_carries n =
    record {
      number_stays = λ x _. turned_fits n x;
      number_back_stays = λ x _. turned_fits n x;
      number_there_back = turned_twice n;
      number_back_there = turned_twice n;
      row_stays = λ r _. turned_fits n r.care;
      row_back_stays = λ r _. turned_fits n r.care;
      row_there_back = row_again;
      row_back_there = row_again;
      taken = λ r x h _. row_taken r x h;
    }
  where
    value_of : (r : Row) → (turned_row n r).value ≡ turned n r.value
    value_of r = sym (turned_and n r.value r.care) ∙ ap (turned n) r.clean

    value_fits : (r : Row) → r.care < 2 ^ n → r.value < 2 ^ n
    value_fits r h = let l = and_le_r r.value r.care in let e = r.clean in omega arith

    row_again : (r : Row) → r.care < 2 ^ n → turned_row n (turned_row n r) ≡ r
    row_again r h =
        row_same (turned_row n (turned_row n r)) r
        (value_of (turned_row n r) ∙ ap (turned n) (value_of r) ∙ turned_twice n r.value (value_fits r h))
        (turned_twice n r.care h)

    row_taken : (r : Row) (x : ℕ) → r.care < 2 ^ n → row_takes (turned_row n r) (turned n x) ≡ row_takes r x
    row_taken r x h =
        let number : bit_and (turned n x) (turned n r.care) ≡ turned n (bit_and x r.care) = sym (turned_and n x r.care) in
        let fits : bit_and x r.care < 2 ^ n = let l = and_le_r x r.care in omega arith in
        eqb_both (bit_and (turned n x) (turned n r.care)) (turned_row n r).value (bit_and x r.care) r.value
        (λ e. sym (turned_twice n (bit_and x r.care) fits) ∙ ap (turned n) (sym number ∙ e ∙ value_of r) ∙ turned_twice n r.value (value_fits r h))
        (λ e. number ∙ ap (turned n) e ∙ sym (value_of r))
