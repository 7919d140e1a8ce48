-- How many rows a list has.
use Rattle.std.proofs.Common.{◌≡◌, ℕ, zero, suc, ◌+◌, ◌-◌, ◌*◌, ◌^◌, ◌<◌, ◌≤◌, Bool, true, false, leb, [], ◌∷◌, map, length, sym, refl, ap, ◌∙◌, inl, inr, arith, pow_pos}
use lib.Count.{ones, ones_cat, ones-le, ones-ones}
use Rattle.std.proofs.lemmas.List.{length-map}
use Rattle.std.proofs.lemmas.Bool.{cases_lt, leb-true, leb-false}
use Rattle.covers.specs.declared.symbol.Symbol.TheVariants.{Zero, One}
use Rattle.covers.specs.Digits.{Digits, digit, digits, all_ones, next, mirror}
use Rattle.covers.specs.Rules.{swap, below, upto, onward, across, straight, swap_first, round, straight_rows, rows_of_run, most_rows}
use Rattle.covers.specs.Theorems.{ListsFew}
use Rattle.covers.proofs.Witnesses.{Same}
use Rattle.covers.proofs.Order.{same_next, same_mirror}
use Rattle.covers.proofs.Ends.{onward_count}
use Rattle.covers.proofs.SeveralRuns.{split_bound}
use Rattle.covers.proofs.Equations.{equations_hold}
use Rattle.covers.proofs.Numbers.{same_length, same_digits, length_digits, digits_0, digits_1}

below_few : (c : Digits) → length (below c) ≤ length c
below_few [] = omega arith
below_few (true ∷ c) = let h = below_few c in let e = length-map (below c) (λ r. One ∷ r) in omega arith
below_few (false ∷ c) = let h = below_few c in let e = length-map (below c) (λ r. Zero ∷ r) in omega arith

upto_few : (b : Digits) → 1 ≤ length b → length (upto b) ≤ length b
upto_few b h = go (all_ones b) refl
  where
    go : (t : Bool) → all_ones b ≡ t → length (upto b) ≤ length b
    go true e = rw e h
    go false e = rw e (let k = below_few (next b) in let s = same_length b (next b) (same_next b) in omega arith)

onward_few : (a : Digits) → 1 ≤ length a → length (onward a) ≤ length a
onward_few a h =
    let s = same_length a (mirror a) (same_mirror a) in
    let k = upto_few (mirror a) (omega arith) in
    let e = onward_count a in
    omega arith

across_few : (a b : Digits) → Same a b → 1 ≤ length a → length (across a b) ≤ 2 * length a
across_few a b s h =
    let e = same_length a b s in
    let k = split_bound a b s in
    let i = onward_few a h in
    let j = upto_few b (omega arith) in
    omega arith

-- with one digit at most one row, with m at most 2m − 2
abbrev Few : ℕ → ℕ → Type 0
Few m k = (m ≡ 1 → k ≤ 1) × (2 ≤ m → k ≤ 2 * m - 2)

few_across : (a b : Digits) → Same a b → Few (suc (length a)) (length (across a b))
few_across [] [] s = ((λ e. omega arith), (λ h. omega arith))
few_across [] (y ∷ b) s = absurd s
few_across (x ∷ a) [] s = absurd s
few_across (x ∷ a) (y ∷ b) s = let k = across_few (x ∷ a) (y ∷ b) s (omega arith) in ((λ e. omega arith), (λ h. omega arith))

few_more : (m k j : ℕ) → 1 ≤ m → j ≤ suc k → Few m k → Few (suc m) j
few_more m k j p h f = ((λ e. omega arith), (λ q. go (leb m 1) refl))
  where
    go : (t : Bool) → leb m 1 ≡ t → j ≤ 2 * suc m - 2
    go true e = let l = leb-true m 1 e in let i = f.0 (omega arith) in omega arith
    go false e = let l = leb-false m 1 e in let i = f.1 (omega arith) in omega arith

few_none : (k j : ℕ) → k ≤ 1 → j ≡ k → Few 1 j
few_none k j h e = ((λ q. omega arith), (λ q. omega arith))

few_straight : (x : Bool) (a : Digits) (y : Bool) (b : Digits) → Same a b → Few (suc (length a)) (length (straight (x ∷ a) (y ∷ b)))
few_straight false a true b s = few_across a b s
few_straight true a false b s = ((λ e. omega arith), (λ h. omega arith))
few_straight false [] false [] s = few_none 1 1 (omega arith) refl
few_straight true [] true [] s = few_none 1 1 (omega arith) refl
few_straight false [] false (y ∷ b) s = absurd s
few_straight true [] true (y ∷ b) s = absurd s
few_straight false (x ∷ a) false [] s = absurd s
few_straight true (x ∷ a) true [] s = absurd s
few_straight false (x ∷ a) false (y ∷ b) s =
    let e = length-map (straight (x ∷ a) (y ∷ b)) (λ r. Zero ∷ r) in
    few_more (suc (length a)) (length (straight (x ∷ a) (y ∷ b))) _ (omega arith) (omega arith) (few_straight x a y b s)
few_straight true (x ∷ a) true (y ∷ b) s =
    let e = length-map (straight (x ∷ a) (y ∷ b)) (λ r. One ∷ r) in
    few_more (suc (length a)) (length (straight (x ∷ a) (y ∷ b))) _ (omega arith) (omega arith) (few_straight x a y b s)

few_round : (x : Bool) (f : Digits) (y : Bool) (l : Digits) → Same f l → Few (suc (length f)) (length (round (x ∷ f) (y ∷ l)))
few_round true f false l s =
    let e = length-map (across f l) swap_first in
    let k = few_across f l s in
    ((λ q. let i = k.0 q in omega arith), (λ q. let i = k.1 q in omega arith))
few_round false f true l s = ((λ e. omega arith), (λ h. omega arith))
few_round false [] false [] s = few_none 1 1 (omega arith) refl
few_round true [] true [] s = few_none 1 1 (omega arith) refl
few_round false [] false (y ∷ l) s = absurd s
few_round true [] true (y ∷ l) s = absurd s
few_round false (x ∷ f) false [] s = absurd s
few_round true (x ∷ f) true [] s = absurd s
few_round false (x ∷ f) false (y ∷ l) s =
    let e = length-map (round (x ∷ f) (y ∷ l)) (λ r. Zero ∷ r) in
    few_more (suc (length f)) (length (round (x ∷ f) (y ∷ l))) _ (omega arith) (omega arith) (few_round x f y l s)
few_round true (x ∷ f) true (y ∷ l) s =
    let e = length-map (round (x ∷ f) (y ∷ l)) (λ r. One ∷ r) in
    few_more (suc (length f)) (length (round (x ∷ f) (y ∷ l))) _ (omega arith) (omega arith) (few_round x f y l s)

few_most : (m k : ℕ) → Few (suc m) k → k ≤ most_rows (suc m)
few_most m k f = go (leb (suc m) 1) refl
  where
    go : (t : Bool) → leb (suc m) 1 ≡ t → k ≤ most_rows (suc m)
    go true e = rw e (let l = leb-true (suc m) 1 e in f.0 (omega arith))
    go false e = rw e (let l = leb-false (suc m) 1 e in f.1 (omega arith))

pub lists_few : ListsFew
lists_few zero f l h = absurd (no h)
  where
    no : 1 ≤ 0 → ⊥
    no k = omega arith
lists_few (suc m) f l h = few_most m (length (rows_of_run (suc m) f l)) (go (leb f l) refl)
  where
    sizes : suc (length (digits m f)) ≡ suc m
    sizes = ap suc (length_digits m f)

    go : (t : Bool) → leb f l ≡ t → Few (suc m) (length (rows_of_run (suc m) f l))
    go true e = rw e (rw sizes at (few_straight (digit m f) (digits m f) (digit m l) (digits m l) (same_digits m f l)))
    go false e = rw e (rw sizes at (few_round (digit m f) (digits m f) (digit m l) (digits m l) (same_digits m f l)))

-- a row for each one
pub below_ones : (m c : ℕ) → c < 2 ^ m → length (below (digits m c)) ≡ ones c
below_ones zero c h = let k = ones-le 0 c h in omega arith
below_ones (suc m) c h = go (leb (2 ^ m) c) refl (λ d hd. below_ones m d hd)
  where
    go : (t : Bool) → leb (2 ^ m) c ≡ t → ((d : ℕ) → d < 2 ^ m → length (below (digits m d)) ≡ ones d) → length (below (digits (suc m) c)) ≡ ones c
    go true e ih =
        let l = leb-true (2 ^ m) c e in
        let small : c - 2 ^ m < 2 ^ m = omega arith in
        let is : 2 ^ m + (c - 2 ^ m) ≡ c = omega arith in
        let is' : 1 * 2 ^ m + (c - 2 ^ m) ≡ c = omega arith in
        let step = ones_cat m 1 (c - 2 ^ m) small in
        let one = ones-ones 1 in
        let here = ih (c - 2 ^ m) small in
        let count = ap ones is' in
        let len = length-map (below (digits m (c - 2 ^ m))) (λ r. One ∷ r) in
        ap (λ k. length (below (digits (suc m) k))) (sym is) ∙ rw (digits_1 m (c - 2 ^ m) small) (omega arith)
    go false e ih =
        let l = leb-false (2 ^ m) c e in
        rw (digits_0 m c l) (length-map (below (digits m c)) (λ r. Zero ∷ r) ∙ ih c l)

-- a first 1 is one more
pub ones_more : (m x : ℕ) → x < 2 ^ m → ones (2 ^ m + x) ≡ suc (ones x)
ones_more m x h =
    let e : 2 ^ m + x ≡ 1 * 2 ^ m + x = omega arith in
    let one = ones-ones 1 in
    let step = ones_cat m 1 x h in
    ap ones e ∙ omega arith

-- how many rows the lowest numbers have, and the highest
pub lowest_ones : (m b : ℕ) → b < 2 ^ m → length (straight_rows m 0 b) ≡ ones (b + 1)
lowest_ones m b h = elim (cases_lt (b + 1) (2 ^ m)) [
  | inl l ↦ ap length (equations_hold.from_zero m b l) ∙ below_ones m (b + 1) l
  | inr l ↦
      let top : b ≡ 2 ^ m - 1 = omega arith in
      let e : 2 ^ m + 0 ≡ b + 1 = omega arith in
      let k = ones_more m 0 (pow_pos m) in
      let none = ones-ones 0 in
      let count = ap ones e in
      ap (λ j. length (straight_rows m 0 j)) top ∙ ap length (equations_hold.whole m) ∙ omega arith
]

pub highest_ones : (m a : ℕ) → a < 2 ^ m → length (straight_rows m a (2 ^ m - 1)) ≡ ones (2 ^ m - a)
highest_ones m a h = elim (cases_lt 0 a) [
  | inl p ↦
      let e : 2 ^ m - 1 - a + 1 ≡ 2 ^ m - a = omega arith in
      ap length (equations_hold.to_highest m a p h) ∙ length-map (straight_rows m 0 (2 ^ m - 1 - a)) (map swap) ∙ lowest_ones m (2 ^ m - 1 - a) (omega arith) ∙ ap ones e
  | inr p ↦
      let z : a ≡ 0 = omega arith in
      let e : 2 ^ m - 1 + 1 ≡ 2 ^ m - a = omega arith in
      ap (λ j. length (straight_rows m j (2 ^ m - 1))) z ∙ lowest_ones m (2 ^ m - 1) (omega arith) ∙ ap ones e
]
