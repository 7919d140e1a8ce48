-- The two ends of a run are each at most as long as any list that takes just a set with the run in it and the numbers beside it outside.
use Rattle.std.proofs.Common.{◌≡◌, ℕ, ◌+◌, ◌*◌, ◌≤◌, Bool, true, false, not, List, [], ◌∷◌, length, sym, refl, ap, ◌∙◌, subst, inl, arith}
use Rattle.std.proofs.lemmas.List.{length-map, length-append}
use Rattle.std.proofs.lemmas.Bool.{false≢true, true≢false, and_right, or_left, or_right}
use Rattle.covers.specs.declared.symbol.Symbol.TheVariants.{Zero, One}
use Rattle.covers.specs.Digits.{Digits, leq, all_ones, all_zeros, next}
use Rattle.covers.specs.Symbols.{Symbols}
use Rattle.covers.specs.Rules.{dashes, upto, onward, insert, widen, behind, middle, across, straight, swap_first, round}
use Rattle.covers.proofs.Witnesses.{Same, previous, within, outer, Exact, Mix, Witness, same_trans, witness_map}
use Rattle.covers.proofs.Order.{ones_mirror}
use Rattle.covers.proofs.Taken.{not_not, and_true}
use Rattle.covers.proofs.LowerBound.{at_least}
use Rattle.covers.proofs.Ends.{upto_end, onward_end, upto_0, upto_1, upto_one, onward_0, onward_1, onward_one}
use Rattle.covers.proofs.AcrossRules.{across_middle, across_zeros, across_ones}
use Rattle.covers.proofs.RoundLists.{not_ones, not_zeros}

-- the list of 0a to 1b is at most as long as those of both ends together
pub split_bound : (a b : Digits) → Same a b → length (across a b) ≤ length (onward a) + length (upto b)
split_bound [] [] s = omega arith
split_bound [] (y ∷ b) s = absurd s
split_bound (x ∷ a) [] s = absurd s
split_bound (x ∷ a) (y ∷ b) s = go (all_zeros (x ∷ a)) refl (all_ones (y ∷ b)) refl (split_bound a b s)
  where
    deep : (x y : Bool) → all_zeros (x ∷ a) ≡ false → all_ones (y ∷ b) ≡ false → length (across a b) ≤ length (onward a) + length (upto b) →
        length (middle x y a b (across a b)) ≤ length (onward (x ∷ a)) + length (upto (y ∷ b))
    deep true false z o ih =
        let h1 = length-append (behind Zero One (onward a)) (behind One Zero (upto b)) in
        let h2 = length-map (onward a) (λ r. Zero ∷ One ∷ r) in
        let h3 = length-map (upto b) (λ r. One ∷ Zero ∷ r) in
        let h4 = onward_1 a in
        let h5 = upto_0 b in
        omega arith
    deep false false z o ih =
        let h2 = length-map (across a b) (insert Zero) in
        let h3 = onward_0 a z in
        let h4 = upto_0 b in
        omega arith
    deep true true z o ih =
        let h2 = length-map (across a b) (insert One) in
        let h3 = onward_1 a in
        let h4 = upto_1 b o in
        omega arith
    deep false true z o ih = at (leq a (next b)) refl
      where
        rest : List Symbols
        rest = (Zero ∷ One ∷ dashes a) ∷ (One ∷ Zero ∷ dashes a) ∷ behind One One (upto b)

        at : (t : Bool) → leq a (next b) ≡ t → length (middle false true a b (across a b)) ≤ length (onward (false ∷ a)) + length (upto (true ∷ b))
        at true e = rw e (
            let h2 = length-map (across a b) widen in
            let h3 = onward_0 a z in
            let h4 = upto_1 b o in
            omega arith)
        at false e = rw e (
            let h1 = length-append (behind Zero Zero (onward a)) rest in
            let h2 = length-map (onward a) (λ r. Zero ∷ Zero ∷ r) in
            let h5 = length-map (upto b) (λ r. One ∷ One ∷ r) in
            let h3 = onward_0 a z in
            let h4 = upto_1 b o in
            omega arith)

    go : (t : Bool) → all_zeros (x ∷ a) ≡ t → (q : Bool) → all_ones (y ∷ b) ≡ q → length (across a b) ≤ length (onward a) + length (upto b) →
        length (across (x ∷ a) (y ∷ b)) ≤ length (onward (x ∷ a)) + length (upto (y ∷ b))
    go true z true o ih =
        let h1 = ap length (across_zeros (x ∷ a) (y ∷ b) s z) in
        let h2 = upto_one (true ∷ y ∷ b) o in
        let h3 = onward_one (x ∷ a) z in
        omega arith
    go true z false o ih =
        let h1 = ap length (across_zeros (x ∷ a) (y ∷ b) s z) in
        let h2 = upto_1 (y ∷ b) o in
        let h3 = onward_one (x ∷ a) z in
        omega arith
    go false z true o ih =
        let h1 = ap length (across_ones (x ∷ a) (y ∷ b) s z o) in
        let h2 = onward_0 (x ∷ a) z in
        let h3 = upto_one (y ∷ b) o in
        omega arith
    go false z false o ih =
        let h1 = ap length (across_middle x y a b z o) in
        let h2 = deep x y z o ih in
        omega arith

-- numbers of the run from a to b, any two of which mix to the number before the run; and such that mix to the one after
pub record Ends (a b : Digits) (k : ℕ) : Type 0 where
  pub i : ℕ
  pub j : ℕ
  pub first : Witness a (λ w. within a b w ≡ true) (λ v w. (all_zeros a ≡ false) × Mix v w (previous a)) i
  pub last : Witness a (λ w. within a b w ≡ true) (λ v w. (all_ones b ≡ false) × Mix v w (next b)) j
  pub enough : k ≤ i + j

previous_cons : (x : Bool) (a : Digits) → all_zeros a ≡ false → previous (x ∷ a) ≡ x ∷ previous a
previous_cons x a z = rw (ones_mirror a ∙ z) (ap (λ y. y ∷ previous a) (not_not x))

next_cons : (x : Bool) (b : Digits) → all_ones b ≡ false → next (x ∷ b) ≡ x ∷ next b
next_cons x b o = rw o

zeros_cons : (x : Bool) (a : Digits) → all_zeros a ≡ false → all_zeros (x ∷ a) ≡ false
zeros_cons x a z = and_right (not x) (all_zeros a) z

ones_cons : (x : Bool) (b : Digits) → all_ones b ≡ false → all_ones (x ∷ b) ≡ false
ones_cons x b o = and_right x (all_ones b) o

mix_cons : (x : Bool) (v w c c' : Digits) → x ∷ c ≡ c' → Mix v w c → Mix (x ∷ v) (x ∷ w) c'
mix_cons x v w c c' e m = subst (λ z. Mix (x ∷ v) (x ∷ w) z) e (inl refl, m)

within_cons : (x : Bool) (a b w : Digits) → within (x ∷ a) (x ∷ b) (x ∷ w) ≡ within a b w
within_cons false a b w = refl
within_cons true a b w = refl

ends_cons : (x : Bool) (a b : Digits) (k j : ℕ) → j ≡ k → Ends a b k → Ends (x ∷ a) (x ∷ b) j
ends_cons x a b k j e E = record {
  i = E.i;
  j = E.j;
  first = witness_map E.first (λ w. x ∷ w) (λ w s h. (s, within_cons x a b w ∙ h)) (λ v w s t m. (zeros_cons x a m.0, mix_cons x v w (previous a) (previous (x ∷ a)) (sym (previous_cons x a m.0)) m.1));
  last = witness_map E.last (λ w. x ∷ w) (λ w s h. (s, within_cons x a b w ∙ h)) (λ v w s t m. (ones_cons x b m.0, mix_cons x v w (next b) (next (x ∷ b)) (sym (next_cons x b m.0)) m.1));
  enough = let h = E.enough in omega arith;
}

pub straight_ends : (a b : Digits) → Same a b → leq a b ≡ true → Ends a b (length (straight a b))
straight_ends [] [] s h = record {
  i = 1;
  j = 0;
  first = record { these = [] ∷ []; each = ((tt, refl), tt); apart = (tt, tt); count = refl };
  last = record { these = []; each = tt; apart = tt; count = refl };
  enough = omega arith;
}
straight_ends [] (y ∷ b) s h = absurd s
straight_ends (x ∷ a) [] s h = absurd s
straight_ends (false ∷ a) (false ∷ b) s h = ends_cons false a b (length (straight a b)) (length (straight (false ∷ a) (false ∷ b))) (length-map (straight a b) (λ r. Zero ∷ r)) (straight_ends a b s h)
straight_ends (true ∷ a) (true ∷ b) s h = ends_cons true a b (length (straight a b)) (length (straight (true ∷ a) (true ∷ b))) (length-map (straight a b) (λ r. One ∷ r)) (straight_ends a b s h)
straight_ends (true ∷ a) (false ∷ b) s h = absurd (false≢true h)
straight_ends (false ∷ a) (true ∷ b) s h = record {
  i = length (onward a);
  j = length (upto b);
  first = witness_map (onward_end a) (λ w. false ∷ w) (λ w t k. (t, sym (and_true (leq a w)) ∙ k)) (λ v w t t' m. (m.0, mix_cons false v w (previous a) (previous (false ∷ a)) (sym (previous_cons false a m.0)) m.1));
  last = witness_map (upto_end b) (λ w. true ∷ w) (λ w t k. (same_trans a b w s t, k)) (λ v w t t' m. (m.0, mix_cons true v w (next b) (next (true ∷ b)) (sym (next_cons true b m.0)) m.1));
  enough = split_bound a b s;
}

round_length : (f l : Digits) → Same f l → leq f l ≡ false → length (round f l) ≤ length (onward f) + length (upto l)
round_length [] l s h = absurd (true≢false h)
round_length (x ∷ f) [] s h = absurd s
round_length (false ∷ f) (false ∷ l) s h =
    let h1 = round_length f l s h in
    let h2 = length-map (round f l) (λ r. Zero ∷ r) in
    let h3 = onward_0 f (not_zeros f l s h) in
    let h4 = upto_0 l in
    omega arith
round_length (true ∷ f) (true ∷ l) s h =
    let h1 = round_length f l s h in
    let h2 = length-map (round f l) (λ r. One ∷ r) in
    let h3 = onward_1 f in
    let h4 = upto_1 l (not_ones f l s h) in
    omega arith
round_length (true ∷ f) (false ∷ l) s h =
    let h1 = split_bound f l s in
    let h2 = length-map (across f l) swap_first in
    let h3 = onward_1 f in
    let h4 = upto_0 l in
    omega arith
round_length (false ∷ f) (true ∷ l) s h = absurd (true≢false h)

-- one end against a rival
end_bound : {m : Digits} {P : Digits → Type 0} {R : Digits → Digits → Type 0} {k : ℕ} → Witness m P R k → (n : Digits) (S : Digits → Bool) (l : List Symbols) → Exact n S l → Same n m →
    ((w : Digits) → Same n w → P w → S w ≡ true) → (c : Digits) → ((v w : Digits) → R v w → Mix v w c × (S c ≡ false)) → k ≤ length l
end_bound {m} {P} {R} {k} W n S l ex s f c o =
    at_least n S l k ex (witness_map W (λ w. w) (λ w t p. let t' = same_trans n m w s t in (t', f w t' p)) (λ v w t t' r. let q = o v w r in (c, q.0, q.1)))

-- a run against a rival
module _ (n : Digits) (S : Digits → Bool) (l : List Symbols) (ex : Exact n S l) (a b : Digits) (sa : Same n a) (sb : Same n b) (s : Same a b)
    (before : all_zeros a ≡ false → S (previous a) ≡ false) (after : all_ones b ≡ false → S (next b) ≡ false) where
  pub straight_bound : leq a b ≡ true → ((w : Digits) → Same n w → within a b w ≡ true → S w ≡ true) → length (straight a b) ≤ 2 * length l
  straight_bound h f =
      let E = straight_ends a b s h in
      let h1 = end_bound E.first n S l ex sa f (previous a) (λ v w r. (r.1, before r.0)) in
      let h2 = end_bound E.last n S l ex sa f (next b) (λ v w r. (r.1, after r.0)) in
      let h3 = E.enough in
      omega arith

  pub round_bound : leq a b ≡ false → ((w : Digits) → Same n w → outer a b w ≡ true → S w ≡ true) → length (round a b) ≤ 2 * length l
  round_bound h f =
      let h1 = end_bound (onward_end a) n S l ex sa (λ w t k. f w t (or_left (leq a w) (leq w b) k)) (previous a) (λ v w r. (r.1, before r.0)) in
      let h2 = end_bound (upto_end b) n S l ex sb (λ w t k. f w t (or_right (leq a w) (leq w b) k)) (next b) (λ v w r. (r.1, after r.0)) in
      let h3 = round_length a b s h in
      omega arith
