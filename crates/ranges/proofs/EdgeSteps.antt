-- The list of the lowest or the highest numbers, from one 1 of their count to the next.
use Rattle.std.proofs.Common.{◌≡◌, ℕ, zero, suc, ◌+◌, ◌-◌, ◌*◌, ◌/◌, ◌%◌, ◌^◌, ◌<◌, ◌≤◌, Bool, true, false, cond, not, List, [], ◌∷◌, ◌++◌, length, sym, ap, ◌∙◌, ap₂, inl, inr, arith, add-mul, mod-lt, mod-eq_of_lt, pow_mono, pow_pos, pow-add, length-append}
use lib.Arith.{digits_lt}
use Rattle.std.proofs.Math.Nat.{pow-succ', mul_assoc, mod-le}
use Rattle.std.proofs.lemmas.Nat.{shr_split, shr_below}
use Rattle.std.proofs.lemmas.Bool.{cases_lt}
use Rattle.std.proofs.lemmas.List.{append-nil, nil_from_length}
use Rattle.covers.specs.Digits.{digit}
use Rattle.covers.proofs.Turned.{digit_head, digit_0, digit_1, low_low}
use Rattle.rows.specs.declared.row_words.RowWords.{RowWords}
use Rattle.ranges.specs.declared.edge.Edge.{Edge}
use Rattle.ranges.specs.Building.{edge_words, WithDigit}
use Rattle.ranges.proofs.Adding.{moved}
use Rattle.ranges.proofs.FirstOne.{FirstOne, top_bit, top_place, first_one}
use Rattle.ranges.proofs.Fronts.{same_words}
use Rattle.ranges.proofs.EdgeLists.{left_rows, below_step_1, below_step_0, none_left, edge_left}

-- one digit more of the digits of c before its last m
pub one_more : (m c : ℕ) → c / 2 ^ m * 2 ^ m ≡ c / 2 ^ suc m * 2 ^ suc m + cond (digit m c) (2 ^ m) 0
one_more m c =
    let q = c / 2 ^ suc m in
    ap (λ k. k * 2 ^ m) (digit_head m c) ∙ add-mul (q * 2) (cond (digit m c) 1 0) (2 ^ m) ∙
    ap₂ (λ j k. j + k) (mul_assoc q 2 (2 ^ m) ∙ ap (λ k. q * k) (sym (pow-succ' 2 m))) (times (digit m c))
  where
    times : (d : Bool) → cond d 1 0 * 2 ^ m ≡ cond d (2 ^ m) 0
    times true = omega arith
    times false = omega arith

-- the words behind which the rows of the last k places stand: those of the front, with the digits of c before them
abbrev pub reached : RowWords → Bool → ℕ → ℕ → ℕ → RowWords
reached w e m c k = record {
  value = w.value + cond e (2 ^ m - 2 ^ k - c / 2 ^ k * 2 ^ k) (c / 2 ^ k * 2 ^ k);
  care = w.care + (2 ^ m - 2 ^ k);
}

module _ (w : RowWords) (m c : ℕ) (fits : c < 2 ^ m) where
  -- the digits before the last k, as a number of m places
  before_fits : (k : ℕ) → k ≤ m → c / 2 ^ k * 2 ^ k + 2 ^ k ≤ 2 ^ m
  before_fits k h =
      let j : m - k + k ≡ m = omega arith in
      let p = ap (λ i. 2 ^ i) j in
      let few : c / 2 ^ k < 2 ^ (m - k) = shr_below c (m - k) k (omega arith) in
      let one = pow_pos k in
      let last : 2 ^ k - 1 < 2 ^ k = omega arith in
      let top = digits_lt few last in
      let whole = pow-add 2 (m - k) k in
      omega arith

  module _ (j : ℕ) (h : suc j ≤ m) where
    smaller : 2 ^ suc j ≤ 2 ^ m
    smaller = pow_mono h

    cares : w.care + (2 ^ m - 2 ^ j) ≡ w.care + (2 ^ m - 2 ^ suc j) + 2 ^ j
    cares = let k = smaller in omega arith

    at_zero : (e : Bool) → digit j c ≡ false → WithDigit (reached w e m c (suc j)) (reached w e m c j) j e
    at_zero true d =
        let x = one_more j c ∙ ap (λ t. c / 2 ^ suc j * 2 ^ suc j + cond t (2 ^ j) 0) d in
        let f = before_fits (suc j) h in
        record { value = omega arith; care = cares }
    at_zero false d =
        let x = one_more j c ∙ ap (λ t. c / 2 ^ suc j * 2 ^ suc j + cond t (2 ^ j) 0) d in
        record { value = omega arith; care = cares }

    at_one : (e : Bool) → digit j c ≡ true → WithDigit (reached w e m c (suc j)) (reached w e m c j) j (not e)
    at_one true d =
        let x = one_more j c ∙ ap (λ t. c / 2 ^ suc j * 2 ^ suc j + cond t (2 ^ j) 0) d in
        let f = before_fits (suc j) h in
        record { value = omega arith; care = cares }
    at_one false d =
        let x = one_more j c ∙ ap (λ t. c / 2 ^ suc j * 2 ^ suc j + cond t (2 ^ j) 0) d in
        record { value = omega arith; care = cares }

    -- the row for a 1
    its_row : (e : Bool) (row : RowWords) (before : ℕ) → before ≡ c / 2 ^ suc j * 2 ^ suc j →
        row.value ≡ w.value + cond e (2 ^ m - 2 ^ j - before) before → row.care ≡ w.care + (2 ^ m - 2 ^ j) →
        WithDigit (reached w e m c (suc j)) row j e
    its_row true row before b v k =
        let f = before_fits (suc j) h in
        record { value = omega arith; care = k ∙ cares }
    its_row false row before b v k = record { value = omega arith; care = k ∙ cares }

  -- places at which c has a 0
  skip : (e : Bool) (k p : ℕ) → p ≤ k → k ≤ m → c % 2 ^ k < 2 ^ p → left_rows (reached w e m c k) e k c ≡ left_rows (reached w e m c p) e p c
  skip e zero p h l x = let z : zero ≡ p = omega arith in ap (λ i. left_rows (reached w e m c i) e i c) z
  skip e (suc j) p h l x = elim (cases_lt p (suc j)) [
    | inl s ↦
        let low = pow_mono {i = p} {j = j} (omega arith) in
        let d = digit_0 j c (omega arith) in
        let same = d.1 in
        below_step_0 (reached w e m c (suc j)) (reached w e m c j) e j c d.0 (at_zero j l e d.0) ∙ skip e j p (omega arith) (omega arith) (omega arith)
    | inr s ↦ let z : suc j ≡ p = omega arith in ap (λ i. left_rows (reached w e m c i) e i c) z
  ]

  -- the next 1
  module _ (k q left : ℕ) (l : k ≤ m) (is : left ≡ c % 2 ^ k) (from : 2 ^ q ≤ left) (to : left < 2 ^ suc q) where
    place : suc q ≤ k
    place = elim (cases_lt q k) [
      | inl s ↦ s
      | inr s ↦ let p = pow_mono {i = k} {j = q} s in let r = mod-lt c (pow_pos k) in let z : ⊥ = omega arith in absurd z
    ]

    last_digits : left ≡ c % 2 ^ suc q
    last_digits =
        let r = mod-lt c (pow_pos k) in
        let same : left % 2 ^ k ≡ c % 2 ^ k = mod-eq_of_lt (omega arith) ∙ is in
        sym (mod-eq_of_lt to) ∙ low_low (suc q) k left c same place

    pub left_behind : left - 2 ^ q ≡ c % 2 ^ q
    left_behind = let s = last_digits in let d = digit_1 q c (omega arith) in let r = d.1 in omega arith

    pub done_before : c - left ≡ c / 2 ^ suc q * 2 ^ suc q
    done_before = let s = last_digits in let t = shr_split c (suc q) in omega arith

    pub next_row : (e : Bool) (row : RowWords) → row.value ≡ w.value + cond e (2 ^ m - 2 ^ q - (c - left)) (c - left) → row.care ≡ w.care + (2 ^ m - 2 ^ q) →
        left_rows (reached w e m c k) e k c ≡ row ∷ left_rows (reached w e m c q) e q c
    next_row e row v h =
        let s = last_digits in
        let p = place in
        let o : suc q ≤ m = omega arith in
        let d = digit_1 q c (omega arith) in
        skip e k (suc q) p l (omega arith) ∙
        below_step_1 (reached w e m c (suc q)) row (reached w e m c q) e q c d.0 (its_row q o e row (c - left) done_before v h) (at_one q o e d.0)

    pub before_and_one : c - left + 2 ^ q ≤ 2 ^ m
    before_and_one =
        let p = place in
        let f = before_fits (suc q) (omega arith) in
        let d = done_before in
        omega arith

-- what is written and what is still to be written are the whole list, where the ones that are left are the last digits of the count
pub record Going (edge : Edge) (left : ℕ) (done all : List RowWords) : Type 0 where
  pub places : ℕ
  pub within : places ≤ edge.front.places
  pub behind : left ≡ edge.count % 2 ^ places
  pub list : done ++ left_rows (reached edge.front.words edge.exchanged edge.front.places edge.count places) edge.exchanged places edge.count ≡ all

module _ (edge : Edge) (fits : edge.count < 2 ^ edge.front.places) where
  pub begun : (done : List RowWords) → Going edge edge.count done (done ++ edge_words edge)
  begun done = record {
    places = edge.front.places;
    within = omega arith;
    behind = sym (mod-eq_of_lt fits);
    list = ap (λ l. done ++ l) (ap (λ w. left_rows w edge.exchanged edge.front.places edge.count) (as_it_is edge.exchanged) ∙ sym (edge_left edge fits));
  }
    where
      as_it_is : (e : Bool) → reached edge.front.words e edge.front.places edge.count edge.front.places ≡ edge.front.words
      as_it_is true = let f = before_fits edge.front.words edge.front.places edge.count fits edge.front.places (omega arith) in same_words _ _ (omega arith) (omega arith)
      as_it_is false = let f = before_fits edge.front.words edge.front.places edge.count fits edge.front.places (omega arith) in same_words _ _ (omega arith) (omega arith)

  module _ {left : ℕ} {done all : List RowWords} (going : Going edge left done all) where
    abbrev pub w : RowWords
    w = edge.front.words

    no_more : left ≡ 0 → done ≡ all
    no_more z =
        let b = going.behind in
        sym (append-nil done) ∙
        ap (λ l. done ++ l) (sym (skip w edge.front.places edge.count fits edge.exchanged going.places 0 (omega arith) going.within (omega arith) ∙ none_left (reached w edge.exchanged edge.front.places edge.count 0) edge.exchanged edge.count)) ∙
        going.list

    pub some_left : length done < length all → 0 < left
    some_left h = elim (cases_lt 0 left) [
      | inl s ↦ s
      | inr s ↦ let e = ap length (no_more (omega arith)) in let z : ⊥ = omega arith in absurd z
    ]

    pub all_done : length all ≤ length done → done ≡ all
    all_done h =
        let rest = left_rows (reached w edge.exchanged edge.front.places edge.count going.places) edge.exchanged going.places edge.count in
        let long = ap length going.list in
        let both = length-append done rest in
        sym (append-nil done) ∙ ap (λ l. done ++ l) (sym (nil_from_length rest (omega arith))) ∙ going.list

    pub left_within : left ≤ edge.count
    left_within = let b = going.behind in let k = mod-le edge.count (2 ^ going.places) in omega arith

    -- the first 1 of those that are left
    module _ (some : 0 < left) where
      pub first : FirstOne left
      first =
          let b = left_within in
          let p = pow_mono {i = edge.front.places} {j = 64} (let k = edge.front.places_within in omega arith) in
          first_one left some (omega arith)

      pub row_fits : edge.count - left + top_bit left ≤ 2 ^ edge.front.places
      row_fits = let f = first in rw f.is (before_and_one w edge.front.places edge.count fits going.places (top_place left) left going.within going.behind f.from f.to)

      pub next : {row : RowWords} {new : List RowWords} → row.value ≡ w.value + cond edge.exchanged (2 ^ edge.front.places - top_bit left - (edge.count - left)) (edge.count - left) →
          row.care ≡ w.care + (2 ^ edge.front.places - top_bit left) → new ≡ done ++ row ∷ [] → Going edge (left - top_bit left) new all
      next {row} {new} v k e =
          let f = first in
          let q = top_place left in
          let p = place w edge.front.places edge.count fits going.places q left going.within going.behind f.from f.to in
          record {
            places = q;
            within = let h = going.within in omega arith;
            behind = ap (λ b. left - b) f.is ∙ left_behind w edge.front.places edge.count fits going.places q left going.within going.behind f.from f.to;
            list =
                moved done (row ∷ []) _ e
                (next_row w edge.front.places edge.count fits going.places q left going.within going.behind f.from f.to edge.exchanged row (v ∙ ap (λ b. w.value + cond edge.exchanged (2 ^ edge.front.places - b - (edge.count - left)) (edge.count - left)) f.is) (k ∙ ap (λ b. w.care + (2 ^ edge.front.places - b)) f.is)) ∙
                going.list;
          }
