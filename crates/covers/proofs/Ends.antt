-- Witnesses of the ranges from 0 and to the highest number, any two of whose numbers mix to the number just outside; and how many rows these ranges have.
use Rattle.std.proofs.Common.{◌≡◌, suc, Bool, true, false, not, [], ◌∷◌, map, length, sym, refl, ap, ◌∙◌, inl, inr}
use Rattle.std.proofs.lemmas.List.{length-map}
use Rattle.std.proofs.lemmas.Bool.{false≢true, not-false}
use Rattle.covers.specs.declared.symbol.Symbol.TheVariants.{Zero, One}
use Rattle.covers.specs.Digits.{Digits, leq, all_ones, all_zeros, next, mirror}
use Rattle.covers.specs.Rules.{swap, below, upto, onward}
use Rattle.covers.proofs.Witnesses.{previous, Mix, Witness, same_refl, same_trans, mix_left, witness_map, witness_more, witness_count}
use Rattle.covers.proofs.Order.{same_mirror, same_next, leq_refl, leq_mirror, mirror_mirror, ones_mirror, next_leq}

mix_mirror : (u v z : Digits) → Mix u v z → Mix (mirror u) (mirror v) (mirror z)
mix_mirror [] [] [] m = tt
mix_mirror [] [] (z ∷ w) m = m
mix_mirror [] (y ∷ v) w m = absurd m
mix_mirror (x ∷ u) [] w m = absurd m
mix_mirror (x ∷ u) (y ∷ v) [] m = m
mix_mirror (x ∷ u) (y ∷ v) (z ∷ w) m =
    (elim m.0 [ inl e ↦ inl (ap not e) | inr e ↦ inr (ap not e) ], mix_mirror u v w m.1)

-- each 1 of c turned into 0: any two mix to c
drops : (c : Digits) → Witness c (λ w. leq c w ≡ false) (λ v w. Mix v w c) (length (below c))
drops [] = record { these = []; each = tt; apart = tt; count = refl }
drops (true ∷ c) =
    witness_count (witness_more (drops c) (λ w. true ∷ w) (λ w s h. (s, h)) (λ v w s t m. (inl refl, m)) (false ∷ c) (same_refl c) refl (λ w s h. (inr refl, mix_left c w s)))
    (ap suc (sym (length-map (below c) (λ r. One ∷ r))))
drops (false ∷ c) = witness_count (witness_map (drops c) (λ w. false ∷ w) (λ w s h. (s, h)) (λ v w s t m. (inl refl, m))) (sym (length-map (below c) (λ r. Zero ∷ r)))

abbrev pub UptoEnd : Digits → Type 0
UptoEnd b = Witness b (λ w. leq w b ≡ true) (λ v w. (all_ones b ≡ false) × Mix v w (next b)) (length (upto b))

abbrev pub OnwardEnd : Digits → Type 0
OnwardEnd a = Witness a (λ w. leq a w ≡ true) (λ v w. (all_zeros a ≡ false) × Mix v w (previous a)) (length (onward a))

pub upto_end : (b : Digits) → UptoEnd b
upto_end b = go (all_ones b) refl
  where
    go : (t : Bool) → all_ones b ≡ t → UptoEnd b
    go true e = record { these = b ∷ []; each = ((same_refl b, leq_refl b), tt); apart = (tt, tt); count = rw e }
    go false e =
        witness_count (witness_map (drops (next b)) (λ w. w)
        (λ w s h. let t = same_trans b (next b) w (same_next b) s in (t, not-false (leq w b) (sym (next_leq b w e t) ∙ h)))
        (λ v w s t m. (e, m))) (rw e)

pub onward_end : (a : Digits) → OnwardEnd a
onward_end a =
    witness_count (witness_map (upto_end (mirror a)) (λ w. mirror w)
    (λ w s h. (
      same_trans a (mirror a) (mirror w) (same_mirror a) (same_trans (mirror a) w (mirror w) s (same_mirror w)),
      ap (λ t. leq t (mirror w)) (sym (mirror_mirror a)) ∙ leq_mirror (mirror a) w s ∙ h,
    ))
    (λ v w s t m. (sym (ones_mirror a) ∙ m.0, mix_mirror v w (next (mirror a)) m.1)))
    (sym (length-map (upto (mirror a)) (map swap)))

-- how many rows
pub below_zeros : (b : Digits) → all_ones b ≡ true → below (mirror b) ≡ []
below_zeros [] o = refl
below_zeros (false ∷ b) o = absurd (false≢true o)
below_zeros (true ∷ b) o = ap (map (λ r. Zero ∷ r)) (below_zeros b o)

pub upto_0 : (b : Digits) → length (upto (false ∷ b)) ≡ length (upto b)
upto_0 b = go (all_ones b) refl
  where
    go : (t : Bool) → all_ones b ≡ t → length (upto (false ∷ b)) ≡ length (upto b)
    go true e = rw (e, below_zeros b e)
    go false e = rw e (length-map (below (next b)) (λ r. Zero ∷ r))

pub upto_1 : (b : Digits) → all_ones b ≡ false → length (upto (true ∷ b)) ≡ suc (length (upto b))
upto_1 b e = rw e (ap suc (length-map (below (next b)) (λ r. One ∷ r)))

pub onward_count : (a : Digits) → length (onward a) ≡ length (upto (mirror a))
onward_count a = length-map (upto (mirror a)) (map swap)

pub onward_1 : (a : Digits) → length (onward (true ∷ a)) ≡ length (onward a)
onward_1 a = onward_count (true ∷ a) ∙ upto_0 (mirror a) ∙ sym (onward_count a)

pub onward_0 : (a : Digits) → all_zeros a ≡ false → length (onward (false ∷ a)) ≡ suc (length (onward a))
onward_0 a z = onward_count (false ∷ a) ∙ upto_1 (mirror a) (ones_mirror a ∙ z) ∙ ap suc (sym (onward_count a))

pub upto_one : (b : Digits) → all_ones b ≡ true → length (upto b) ≡ 1
upto_one b e = rw e

pub onward_one : (a : Digits) → all_zeros a ≡ true → length (onward a) ≡ 1
onward_one a e = onward_count a ∙ upto_one (mirror a) (ones_mirror a ∙ e)
