-- The lists obey the rules as they are said of numbers.
use Rattle.std.proofs.Common.{◌≡◌, ℕ, zero, suc, ◌+◌, ◌-◌, ◌^◌, ◌<◌, ◌≤◌, Bool, true, false, List, [], ◌∷◌, ◌++◌, map, sym, refl, ap, ◌∙◌, ap₂, arith, pow_pos}
use Rattle.std.proofs.lemmas.Bool.{false≢true}
use Rattle.covers.specs.declared.symbol.Symbol.TheVariants.{Zero, One, Dash}
use Rattle.covers.specs.Digits.{Digits, value, leq, all_ones, all_zeros, next, mirror, digits}
use Rattle.covers.specs.Symbols.{Symbols}
use Rattle.covers.specs.Rules.{swap, dashes, below, upto, onward, insert, widen, behind, middle, across, straight, swap_first, straight_rows, round_rows}
use Rattle.covers.specs.RuleEquations.{plain, RuleEquations}
use Rattle.covers.proofs.Witnesses.{Same, same_sym}
use Rattle.covers.proofs.Order.{same_next, same_mirror, ones_mirror}
use Rattle.covers.proofs.AcrossRules.{across_middle, across_zeros, across_ones}
use Rattle.covers.proofs.Ends.{below_zeros}
use Rattle.covers.proofs.Numbers.{value_digits, of_value, value_fits, same_digits, digits_0, digits_1, length_digits, le_digits, lt_digits, next_value, previous_value, ones_value, mirror_value}

pub plain_digits : (m n : ℕ) → dashes (digits m n) ≡ plain m
plain_digits zero n = refl
plain_digits (suc m) n = ap (λ r. Dash ∷ r) (plain_digits m n)

zeros_of_zero : (m : ℕ) → all_zeros (digits m 0) ≡ true
zeros_of_zero m = go (all_zeros (digits m 0)) refl
  where
    go : (t : Bool) → all_zeros (digits m 0) ≡ t → all_zeros (digits m 0) ≡ true
    go true e = e
    go false e = let h = previous_value (digits m 0) e in let k = value_digits m 0 (pow_pos m) in let z : ⊥ = omega arith in absurd z

zeros_value : (u : Digits) → all_zeros u ≡ true → value u ≡ 0
unfolding value
zeros_value [] z = refl
zeros_value (false ∷ u) z = zeros_value u z
zeros_value (true ∷ u) z = absurd (false≢true z)

zeros_of_more : (m a : ℕ) → 0 < a → a < 2 ^ m → all_zeros (digits m a) ≡ false
zeros_of_more m a p h = go (all_zeros (digits m a)) refl
  where
    go : (t : Bool) → all_zeros (digits m a) ≡ t → all_zeros (digits m a) ≡ false
    go false e = e
    go true e = let k = zeros_value (digits m a) e in let j = value_digits m a h in let z : ⊥ = omega arith in absurd z

top_below : (m : ℕ) → 2 ^ m - 1 < 2 ^ m
top_below m = let p = pow_pos m in omega arith

ones_top : (m : ℕ) → all_ones (digits m (2 ^ m - 1)) ≡ true
ones_top m = go (all_ones (digits m (2 ^ m - 1))) refl
  where
    go : (t : Bool) → all_ones (digits m (2 ^ m - 1)) ≡ t → all_ones (digits m (2 ^ m - 1)) ≡ true
    go true e = e
    go false e =
        let b = digits m (2 ^ m - 1) in
        let h = next_value (digits m (2 ^ m - 1)) e in
        let k = value_digits m (2 ^ m - 1) (top_below m) in
        let j = value_fits m (2 ^ m - 1) (next (digits m (2 ^ m - 1))) (same_next (digits m (2 ^ m - 1))) in
        let p = pow_pos m in
        let z : ⊥ = omega arith in absurd z

ones_of_less : (m b : ℕ) → b + 1 < 2 ^ m → all_ones (digits m b) ≡ false
ones_of_less m b h = go (all_ones (digits m b)) refl
  where
    go : (t : Bool) → all_ones (digits m b) ≡ t → all_ones (digits m b) ≡ false
    go false e = e
    go true e =
        let k = ones_value (digits m b) e in
        let j = value_digits m b (omega arith) in
        let p = ap (λ n. 2 ^ n) (length_digits m b) in
        let z : ⊥ = omega arith in absurd z

next_digits : (m b : ℕ) → b + 1 < 2 ^ m → next (digits m b) ≡ digits m (b + 1)
next_digits m b h =
    let j : b < 2 ^ m = omega arith in
    sym (of_value m b (next (digits m b)) (same_next (digits m b))) ∙ ap (digits m) (next_value (digits m b) (ones_of_less m b h) ∙ ap (λ n. n + 1) (value_digits m b j))

pub mirror_digits : (m a : ℕ) → a < 2 ^ m → mirror (digits m a) ≡ digits m (2 ^ m - 1 - a)
mirror_digits m a h =
    let k = mirror_value (digits m a) in
    let j = value_digits m a h in
    let p = ap (λ n. 2 ^ n) (length_digits m a) in
    let e : value (mirror (digits m a)) ≡ 2 ^ m - 1 - a = omega arith in
    sym (of_value m a (mirror (digits m a)) (same_mirror (digits m a))) ∙ ap (digits m) e

near_digits : (m a b : ℕ) → a < 2 ^ m → b + 1 < 2 ^ m → a ≤ b + 1 → leq (digits m a) (next (digits m b)) ≡ true
near_digits m a b ha hb h = ap (leq (digits m a)) (next_digits m b hb) ∙ le_digits m a (b + 1) ha hb h

far_digits : (m a b : ℕ) → a < 2 ^ m → b + 1 < a → leq (digits m a) (next (digits m b)) ≡ false
far_digits m a b ha h =
    let hb : b + 1 < 2 ^ m = omega arith in
    ap (leq (digits m a)) (next_digits m b hb) ∙ lt_digits m a (b + 1) ha hb h

-- the ends
dashes_same : (u v : Digits) → Same u v → dashes u ≡ dashes v
dashes_same [] [] s = refl
dashes_same [] (y ∷ v) s = absurd s
dashes_same (x ∷ u) [] s = absurd s
dashes_same (x ∷ u) (y ∷ v) s = ap (λ r. Dash ∷ r) (dashes_same u v s)

pub swap_dashes : (u : Digits) → map swap (dashes u) ≡ dashes u
swap_dashes [] = refl
swap_dashes (x ∷ u) = ap (λ r. Dash ∷ r) (swap_dashes u)

upto_cons : (b : Digits) → upto (false ∷ b) ≡ map (λ r. Zero ∷ r) (upto b)
upto_cons b = go (all_ones b) refl
  where
    go : (t : Bool) → all_ones b ≡ t → upto (false ∷ b) ≡ map (λ r. Zero ∷ r) (upto b)
    go true e = rw (e, below_zeros b e, dashes_same (mirror b) b (same_sym b (mirror b) (same_mirror b)))
    go false e = rw e

swap_cons : (l : List Symbols) → map (map swap) (map (λ r. Zero ∷ r) l) ≡ map (λ r. One ∷ r) (map (map swap) l)
swap_cons [] = refl
swap_cons (r ∷ l) = ap (λ k. (One ∷ map swap r) ∷ k) (swap_cons l)

onward_cons : (a : Digits) → onward (true ∷ a) ≡ map (λ r. One ∷ r) (onward a)
onward_cons a = ap (map (map swap)) (upto_cons (mirror a)) ∙ swap_cons (upto (mirror a))

straight_zeros : (a b : Digits) → Same a b → all_zeros a ≡ true → straight a b ≡ upto b
straight_zeros [] [] s z = refl
straight_zeros [] (y ∷ b) s z = absurd s
straight_zeros (x ∷ a) [] s z = absurd s
straight_zeros (true ∷ a) (y ∷ b) s z = absurd (false≢true z)
straight_zeros (false ∷ a) (true ∷ b) s z = across_zeros a b s z
straight_zeros (false ∷ a) (false ∷ b) s z = ap (map (λ r. Zero ∷ r)) (straight_zeros a b s z) ∙ sym (upto_cons b)

straight_ones : (a b : Digits) → Same a b → all_ones b ≡ true → straight a b ≡ onward a
straight_ones [] [] s o = refl
straight_ones [] (y ∷ b) s o = absurd s
straight_ones (x ∷ a) [] s o = absurd s
straight_ones (x ∷ a) (false ∷ b) s o = absurd (false≢true o)
straight_ones (true ∷ a) (true ∷ b) s o = ap (map (λ r. One ∷ r)) (straight_ones a b s o) ∙ sym (onward_cons a)
straight_ones (false ∷ a) (true ∷ b) s o = go (all_zeros a) refl
  where
    go : (t : Bool) → all_zeros a ≡ t → across a b ≡ onward (false ∷ a)
    go true e =
        across_zeros a b s e ∙ rw (o, ones_mirror a ∙ e)
        (ap (λ r. (Dash ∷ r) ∷ []) (dashes_same b a (same_sym a b s) ∙ sym (swap_dashes a) ∙ ap (map swap) (dashes_same a (mirror a) (same_mirror a))))
    go false e = across_ones a b s e o

rows_from_zero : (m b : ℕ) → straight_rows m 0 b ≡ upto (digits m b)
rows_from_zero m b = straight_zeros (digits m 0) (digits m b) (same_digits m 0 b) (zeros_of_zero m)

rows_to_highest : (m a : ℕ) → straight_rows m a (2 ^ m - 1) ≡ onward (digits m a)
rows_to_highest m a = straight_ones (digits m a) (digits m (2 ^ m - 1)) (same_digits m a (2 ^ m - 1)) (ones_top m)

-- the list of a range that crosses the middle
rows_across : (m a b : ℕ) → a < 2 ^ m → b < 2 ^ m → straight_rows (suc m) a (2 ^ m + b) ≡ across (digits m a) (digits m b)
rows_across m a b ha hb = rw (digits_0 m a ha, digits_1 m b hb)

double : (m : ℕ) → 2 ^ suc m ≡ 2 ^ m + 2 ^ m
double m = omega arith

-- by the first two digits
module _ (m a b : ℕ) (ha : a < 2 ^ m) (hb : b < 2 ^ m) where
  by_two_digits : (x y : Bool) (c d : ℕ) → c < 2 ^ suc m → d < 2 ^ suc m → digits (suc m) c ≡ x ∷ digits m a → digits (suc m) d ≡ y ∷ digits m b →
      all_zeros (x ∷ digits m a) ≡ false → all_ones (y ∷ digits m b) ≡ false →
      straight_rows (suc (suc m)) c (2 ^ suc m + d) ≡ middle x y (digits m a) (digits m b) (straight_rows (suc m) a (2 ^ m + b))
  by_two_digits x y c d hc hd e f z o =
      rows_across (suc m) c d hc hd ∙ ap₂ across e f ∙ across_middle x y (digits m a) (digits m b) z o ∙
      ap (middle x y (digits m a) (digits m b)) (sym (rows_across m a b ha hb))

pub equations_hold : RuleEquations
equations_hold = record {
  whole = λ m. rows_from_zero m (2 ^ m - 1) ∙ rw (ones_top m) (ap (λ r. r ∷ []) (plain_digits m (2 ^ m - 1)));
  same_first_zero = λ m a b h k. let ha : a < 2 ^ m = omega arith in rw (digits_0 m a ha, digits_0 m b k);
  same_first_one = λ m a b h k. let ha : a < 2 ^ m = omega arith in rw (digits_1 m a ha, digits_1 m b k);
  from_zero = λ m b h. rows_from_zero m b ∙ rw (ones_of_less m b h) (ap below (next_digits m b h));
  to_highest = λ m a p h. rows_to_highest m a ∙ ap (map (map swap)) (ap upto (mirror_digits m a h) ∙ sym (rows_from_zero m (2 ^ m - 1 - a)));
  inner_quarters = λ m a b ha hb.
      let d = double m in
      by_two_digits m a b ha hb true false (2 ^ m + a) b (omega arith) (omega arith) (digits_1 m a ha) (digits_0 m b hb) refl refl ∙
      ap₂ (λ l k. behind Zero One l ++ behind One Zero k) (sym (rows_to_highest m a)) (sym (rows_from_zero m b));
  second_quarter = λ m a b p ha hb.
      let d = double m in
      by_two_digits m a b ha hb false false a b (omega arith) (omega arith) (digits_0 m a ha) (digits_0 m b hb) (zeros_of_more m a p ha) refl ∙
      ap (λ r. (Zero ∷ One ∷ r) ∷ map (insert Zero) (straight_rows (suc m) a (2 ^ m + b))) (plain_digits m a);
  third_quarter = λ m a b ha h.
      let d = double m in
      let hb : b < 2 ^ m = omega arith in
      by_two_digits m a b ha hb true true (2 ^ m + a) (2 ^ m + b) (omega arith) (omega arith) (digits_1 m a ha) (digits_1 m b hb) refl (ones_of_less m b h) ∙
      ap (λ r. (One ∷ Zero ∷ r) ∷ map (insert One) (straight_rows (suc m) a (2 ^ m + b))) (plain_digits m a);
  ends_apart = λ m a b ha h.
      let d = double m in
      let hb : b < 2 ^ m = omega arith in
      by_two_digits m a b ha hb false true a (2 ^ m + b) (omega arith) (omega arith) (digits_0 m a ha) (digits_1 m b hb) (zeros_of_more m a (omega arith) ha) (ones_of_less m b (omega arith)) ∙
      rw (far_digits m a b ha h, plain_digits m a)
      (ap₂ (λ l k. behind Zero Zero l ++ (Zero ∷ One ∷ plain m) ∷ (One ∷ Zero ∷ plain m) ∷ behind One One k) (sym (rows_to_highest m a)) (sym (rows_from_zero m b)));
  ends_overlap = λ m a b p ha h n.
      let d = double m in
      let hb : b < 2 ^ m = omega arith in
      by_two_digits m a b ha hb false true a (2 ^ m + b) (omega arith) (omega arith) (digits_0 m a ha) (digits_1 m b hb) (zeros_of_more m a p ha) (ones_of_less m b h) ∙
      rw (near_digits m a b ha h n)
      (ap (λ r. (Zero ∷ One ∷ r) ∷ map widen (straight_rows (suc m) a (2 ^ m + b))) (plain_digits m a));
  round_low = λ m f l hf h. let hl : l < 2 ^ m = omega arith in rw (digits_0 m f hf, digits_0 m l hl) (ap (λ r. (One ∷ r) ∷ map (λ q. Zero ∷ q) (round_rows m f l)) (plain_digits m f));
  round_high = λ m f l hf h. let hl : l < 2 ^ m = omega arith in rw (digits_1 m f hf, digits_1 m l hl) (ap (λ r. (Zero ∷ r) ∷ map (λ q. One ∷ q) (round_rows m f l)) (plain_digits m f));
  round_across = λ m f l hf hl. rw (digits_1 m f hf, digits_0 m l hl) (ap (map swap_first) (sym (rows_across m f l hf hl)));
}
