-- A number with one digit turned, from one place of those that are turned to the next.
use Rattle.std.proofs.Common.{◌≡◌, ℕ, zero, suc, ◌+◌, ◌-◌, ◌%◌, ◌^◌, ◌<◌, ◌≤◌, Bool, true, false, cond, List, [], ◌∷◌, ◌++◌, length, sym, refl, ap, ◌∙◌, inl, inr, arith, mod-lt, pow_mono, pow_pos, length-append}
use Rattle.std.proofs.lemmas.Bool.{cases_lt}
use Rattle.std.proofs.lemmas.List.{append-nil}
use Rattle.covers.specs.Digits.{digit}
use Rattle.covers.specs.WitnessNumbers.{alike, turned, each_turned}
use Rattle.covers.proofs.Turned.{digit_split, each_turned_one, each_turned_other}
use Rattle.ranges.proofs.Adding.{moved}
use Rattle.ranges.proofs.FirstOne.{FirstOne, top_bit, top_place, first_one}

-- the number that has a 1 at each of the last k places where x has the digit, and no other
abbrev pub marks : Bool → ℕ → ℕ → ℕ
marks one k x = cond one (x % 2 ^ k) (2 ^ k - 1 - x % 2 ^ k)

marks_below : (one : Bool) (k x : ℕ) → marks one k x < 2 ^ k
marks_below true k x = mod-lt x (pow_pos k)
marks_below false k x = let p = pow_pos k in omega arith

marks_more : (one : Bool) (j x : ℕ) → marks one (suc j) x ≡ cond (alike (digit j x) one) (2 ^ j) 0 + marks one j x
marks_more one j x = go one (digit j x) refl
  where
    go : (one d : Bool) → digit j x ≡ d → marks one (suc j) x ≡ cond (alike (digit j x) one) (2 ^ j) 0 + marks one j x
    go true true e = let s = rw e at (digit_split j x) in rw e (omega arith)
    go true false e = let s = rw e at (digit_split j x) in rw e (omega arith)
    go false true e = let s = rw e at (digit_split j x) in let m = mod-lt x (pow_pos j) in rw e (omega arith)
    go false false e = let s = rw e at (digit_split j x) in let m = mod-lt x (pow_pos j) in rw e (omega arith)

module _ (one : Bool) (x : ℕ) where
  marked : (j : ℕ) → alike (digit j x) one ≡ true → marks one (suc j) x ≡ 2 ^ j + marks one j x
  marked j e = marks_more one j x ∙ ap (λ t. cond t (2 ^ j) 0 + marks one j x) e

  unmarked : (j : ℕ) → alike (digit j x) one ≡ false → marks one (suc j) x ≡ marks one j x
  unmarked j e = let k = marks_more one j x ∙ ap (λ t. cond t (2 ^ j) 0 + marks one j x) e in omega arith

  -- no mark
  pub none_turned : (k : ℕ) → marks one k x ≡ 0 → each_turned one k x ≡ []
  none_turned zero h = refl
  none_turned (suc j) h = go (alike (digit j x) one) refl (none_turned j)
    where
      go : (t : Bool) → alike (digit j x) one ≡ t → (marks one j x ≡ 0 → each_turned one j x ≡ []) → each_turned one (suc j) x ≡ []
      go true e ih = let m = marked j e in let p = pow_pos j in let z : ⊥ = omega arith in absurd z
      go false e ih = let m = unmarked j e in each_turned_other one j x e ∙ ih (omega arith)

  -- the first mark
  pub record Next (k q left : ℕ) : Type 0 where
    pub within : q < k
    pub list : each_turned one k x ≡ turned q x ∷ each_turned one q x
    pub behind : left - 2 ^ q ≡ marks one q x

  pub next_turned : (k q left : ℕ) → left ≡ marks one k x → 2 ^ q ≤ left → left < 2 ^ suc q → Next k q left
  next_turned zero q left is from to = let m = marks_below one zero x in let p = pow_pos q in let z : ⊥ = omega arith in absurd z
  next_turned (suc j) q left is from to = go (alike (digit j x) one) refl (λ k. next_turned j q left k from to)
    where
      low : marks one j x < 2 ^ j
      low = marks_below one j x

      go : (t : Bool) → alike (digit j x) one ≡ t → (left ≡ marks one j x → Next j q left) → Next (suc j) q left
      go true e ih =
          let m = marked j e in
          let l = low in
          let same : j ≡ q = elim (cases_lt j q) [
            | inl s ↦ let p = pow_mono {i = suc j} {j = q} s in let z : ⊥ = omega arith in absurd z
            | inr s ↦ elim (cases_lt q j) [
              | inl t ↦ let p = pow_mono {i = suc q} {j = j} t in let z : ⊥ = omega arith in absurd z
              | inr t ↦ omega arith
            ]
          ] in
          let p = ap (λ i. 2 ^ i) same in
          record {
            within = omega arith;
            list = each_turned_one one j x e ∙ ap (λ i. turned i x ∷ each_turned one i x) same;
            behind = (let k : left - 2 ^ q ≡ marks one j x = omega arith in k) ∙ ap (λ i. marks one i x) same;
          }
      go false e ih =
          let n = ih (is ∙ unmarked j e) in
          record { within = let h = n.within in omega arith; list = each_turned_other one j x e ∙ n.list; behind = n.behind }

-- what is written and what is still to be written are the whole list
pub record Turning (one : Bool) (x left : ℕ) (done all : List ℕ) : Type 0 where
  pub places : ℕ
  pub within : places < 64
  pub behind : left ≡ marks one places x
  pub list : done ++ each_turned one places x ≡ all

module _ {one : Bool} {x left : ℕ} {done all : List ℕ} (turning : Turning one x left done all) where
  pub all_turned : left ≡ 0 → done ≡ all
  all_turned h = sym (append-nil done) ∙ ap (λ l. done ++ l) (sym (none_turned one x turning.places (sym turning.behind ∙ h))) ∙ turning.list

  module _ (some : 0 < left) where
    pub first : FirstOne left
    first =
        let b = turning.behind in
        let m = marks_below one turning.places x in
        let p = pow_mono {i = turning.places} {j = 64} (let k = turning.within in omega arith) in
        first_one left some (omega arith)

    here : Next one x turning.places (top_place left) left
    here = let f = first in next_turned one x turning.places (top_place left) left turning.behind f.from f.to

    pub one_left : length done < length all
    one_left =
        let e = ap length turning.list in
        let a = length-append done (each_turned one turning.places x) in
        let n = ap length here.list in
        omega arith

    pub step : {number : ℕ} {new : List ℕ} → number ≡ turned (top_place left) x → new ≡ done ++ number ∷ [] → Turning one x (left - top_bit left) new all
    step {number} {new} e g =
        let n = here in
        record {
          places = top_place left;
          within = let h = n.within in let k = turning.within in omega arith;
          behind = ap (λ b. left - b) first.is ∙ n.behind;
          list = moved done (number ∷ []) _ g (n.list ∙ ap (λ w. w ∷ each_turned one (top_place left) x) (sym e)) ∙ turning.list;
        }
