-- The rules' list takes exactly the range.
use Rattle.std.proofs.Common.{◌≡◌, Bool, true, false, not, ◌||◌, List, [], ◌∷◌, sym, refl, ap, ◌∙◌, ap₂}
use Rattle.std.proofs.lemmas.Bool.{false≢true}
use Rattle.covers.specs.declared.symbol.Symbol.TheVariants.{Zero, One}
use Rattle.covers.specs.Digits.{Digits, leq, all_ones, all_zeros, next, mirror}
use Rattle.covers.specs.Symbols.{Symbols, list_takes}
use Rattle.covers.specs.Rules.{dashes, below, upto, onward, behind, middle, across, straight}
use Rattle.covers.proofs.Witnesses.{Same, within, Exact, same_sym, same_via}
use Rattle.covers.proofs.Order.{same_next, same_both, leq_trans, leq_mirror, ones_most, zeros_least, next_leq}
use Rattle.covers.proofs.Taken.{or_false, and_true, not_not, dashes_take, taken_append, taken_hit, taken_miss, behind_hit, behind_miss, insert_hit, insert_miss, widen_00, widen_11, widen_10, taken_swap}

pub below_exact : (c u : Digits) → Same c u → list_takes (below c) u ≡ not (leq c u)
below_exact [] [] s = refl
below_exact [] (y ∷ u) s = absurd s
below_exact (x ∷ c) [] s = absurd s
below_exact (true ∷ c) (false ∷ u) s = rw (dashes_take c u s)
below_exact (true ∷ c) (true ∷ u) s = taken_hit One true (below c) u refl ∙ below_exact c u s
below_exact (false ∷ c) (false ∷ u) s = taken_hit Zero false (below c) u refl ∙ below_exact c u s
below_exact (false ∷ c) (true ∷ u) s = taken_miss Zero true (below c) u refl

pub upto_exact : (b u : Digits) → Same b u → list_takes (upto b) u ≡ leq u b
upto_exact b u s = go (all_ones b) refl
  where
    go : (t : Bool) → all_ones b ≡ t → list_takes (upto b) u ≡ leq u b
    go true e = rw (e, dashes_take b u s) (sym (ones_most b u e s))
    go false e = rw e (below_exact (next b) u (same_via b (next b) u (same_next b) s) ∙ ap not (next_leq b u e s) ∙ not_not (leq u b))

pub onward_exact : (a u : Digits) → Same a u → list_takes (onward a) u ≡ leq a u
onward_exact a u s = taken_swap (upto (mirror a)) u ∙ upto_exact (mirror a) (mirror u) (same_both a u s) ∙ leq_mirror u a (same_sym a u s)

-- what lies between two ends that leave no number between them
pub near_covers : (a b u : Digits) → all_ones b ≡ false → Same a b → Same a u → leq a (next b) ≡ true → (leq a u || leq u b) ≡ true
near_covers a b u o s t n = go (leq u b) refl
  where
    at_true : (p : Bool) → (p || true) ≡ true
    at_true true = refl
    at_true false = refl

    go : (q : Bool) → leq u b ≡ q → (leq a u || leq u b) ≡ true
    go true e = rw e (at_true (leq a u))
    go false e = rw (leq_trans a (next b) u n (next_leq b u o (same_via a b u s t) ∙ ap not e))

abbrev Across : List Symbols → Digits → Digits → Digits → Type 0
Across l a b u = (list_takes l (false ∷ u) ≡ leq a u) × (list_takes l (true ∷ u) ≡ leq u b)

module _ (a b u : Digits) (s : Same a b) (t : Same a u) (l : List Symbols) (ih : Across l a b u) where
  from_b : Same b u
  from_b = same_via a b u s t

  pub middle_exact : (x y z : Bool) → all_ones (y ∷ b) ≡ false → Across (middle x y a b l) (x ∷ a) (y ∷ b) (z ∷ u)
  unfolding from_b
  middle_exact true false false o = (
    taken_append (behind Zero One (onward a)) (behind One Zero (upto b)) (false ∷ false ∷ u) ∙ simp (behind_miss),
    taken_append (behind Zero One (onward a)) (behind One Zero (upto b)) (true ∷ false ∷ u) ∙ simp (behind_miss, behind_hit, upto_exact, from_b),
  )
  middle_exact true false true o = (
    taken_append (behind Zero One (onward a)) (behind One Zero (upto b)) (false ∷ true ∷ u) ∙ simp (behind_miss, behind_hit, onward_exact, t, or_false),
    taken_append (behind Zero One (onward a)) (behind One Zero (upto b)) (true ∷ true ∷ u) ∙ simp (behind_miss),
  )
  middle_exact false false false o = (insert_hit Zero false false l u refl ∙ ih.0, insert_hit Zero true false l u refl ∙ ih.1)
  middle_exact false false true o = (rw (dashes_take a u t), insert_miss Zero true true l u refl)
  middle_exact true true false o = (insert_miss One false false l u refl, rw (dashes_take a u t))
  middle_exact true true true o = (insert_hit One false true l u refl ∙ ih.0, insert_hit One true true l u refl ∙ ih.1)
  middle_exact false true z o = go z (leq a (next b)) refl
    where
      rest : List Symbols
      rest = (Zero ∷ One ∷ dashes a) ∷ (One ∷ Zero ∷ dashes a) ∷ behind One One (upto b)

      go : (z q : Bool) → leq a (next b) ≡ q → Across (middle false true a b l) (false ∷ a) (true ∷ b) (z ∷ u)
      go false true e = rw e (widen_00 l u ∙ ih.0, widen_10 l u ∙ ap₂ ◌||◌ ih.0 ih.1 ∙ near_covers a b u o s t e)
      go true true e = rw e (rw (dashes_take a u t), widen_11 l u ∙ ih.1)
      go false false e = rw e (
        taken_append (behind Zero Zero (onward a)) rest (false ∷ false ∷ u) ∙ simp (behind_hit, behind_miss, onward_exact, t, or_false),
        taken_append (behind Zero Zero (onward a)) rest (true ∷ false ∷ u) ∙ simp (behind_miss, dashes_take, t),
      )
      go true false e = rw e (
        taken_append (behind Zero Zero (onward a)) rest (false ∷ true ∷ u) ∙ simp (behind_miss, dashes_take, t),
        taken_append (behind Zero Zero (onward a)) rest (true ∷ true ∷ u) ∙ simp (behind_hit, behind_miss, upto_exact, from_b),
      )

pub across_exact : (a b u : Digits) → Same a b → Same a u → Across (across a b) a b u
across_exact [] [] [] s t = (refl, refl)
across_exact [] [] (z ∷ u) s t = absurd t
across_exact [] (y ∷ b) u s t = absurd s
across_exact (x ∷ a) [] u s t = absurd s
across_exact (x ∷ a) (y ∷ b) [] s t = absurd t
across_exact (x ∷ a) (y ∷ b) (z ∷ u) s t = go (all_zeros (x ∷ a)) refl (all_ones (y ∷ b)) refl (across_exact a b u s t)
  where
    go : (p : Bool) → all_zeros (x ∷ a) ≡ p → (q : Bool) → all_ones (y ∷ b) ≡ q → Across (across a b) a b u → Across (across (x ∷ a) (y ∷ b)) (x ∷ a) (y ∷ b) (z ∷ u)
    go true e q f ih =
        rw e (
          upto_exact (true ∷ y ∷ b) (false ∷ z ∷ u) (from_b a b u s t (across a b) ih) ∙ sym (zeros_least (x ∷ a) (z ∷ u) e t),
          upto_exact (true ∷ y ∷ b) (true ∷ z ∷ u) (from_b a b u s t (across a b) ih),
        )
    go false e true f ih =
        rw (e, f) (
          onward_exact (false ∷ x ∷ a) (false ∷ z ∷ u) t,
          onward_exact (false ∷ x ∷ a) (true ∷ z ∷ u) t ∙ sym (ones_most (y ∷ b) (z ∷ u) f (from_b a b u s t (across a b) ih)),
        )
    go false e false f ih = rw (e, f) (middle_exact a b u s t (across a b) ih x y z f)

-- T1
pub straight_exact : (a b : Digits) → Same a b → leq a b ≡ true → Exact a (within a b) (straight a b)
straight_exact [] [] s h [] t = refl
straight_exact [] [] s h (z ∷ u) t = absurd t
straight_exact [] (y ∷ b) s h u t = absurd s
straight_exact (x ∷ a) [] s h u t = absurd s
straight_exact (x ∷ a) (y ∷ b) s h [] t = absurd t
straight_exact (false ∷ a) (false ∷ b) s h (false ∷ u) t = taken_hit Zero false (straight a b) u refl ∙ straight_exact a b s h u t
straight_exact (false ∷ a) (false ∷ b) s h (true ∷ u) t = taken_miss Zero true (straight a b) u refl
straight_exact (false ∷ a) (true ∷ b) s h (false ∷ u) t = (across_exact a b u s t).0 ∙ and_true (leq a u)
straight_exact (false ∷ a) (true ∷ b) s h (true ∷ u) t = (across_exact a b u s t).1
straight_exact (true ∷ a) (false ∷ b) s h (z ∷ u) t = absurd (false≢true h)
straight_exact (true ∷ a) (true ∷ b) s h (false ∷ u) t = taken_miss One false (straight a b) u refl
straight_exact (true ∷ a) (true ∷ b) s h (true ∷ u) t = taken_hit One true (straight a b) u refl ∙ straight_exact a b s h u t
