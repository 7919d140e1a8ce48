-- The words of the proofs: numbers of as many digits, mixes, clashes, witnesses.
use Rattle.std.proofs.Common.{◌≡◌, ℕ, suc, Bool, true, false, ◌&&◌, ◌||◌, ◌⊎◌, List, [], ◌∷◌, map, length, refl, ap, ◌∙◌, inl, inr}
use Rattle.std.specs.List.{AllByRecursion}
use Rattle.std.proofs.lemmas.List.{length-map}
use Rattle.covers.specs.Digits.{Digits, leq, next, mirror}
use Rattle.covers.specs.Symbols.{Symbols, list_takes}
use Rattle.covers.specs.Rivals.{Pairs}
use Rattle.covers.proofs.Lists.{all_map, pairs_map}

-- as many digits
abbrev pub Same : Digits → Digits → Type 0
Same [] [] = Unit {0}
Same [] (y ∷ v) = ⊥
Same (x ∷ u) [] = ⊥
Same (x ∷ u) (y ∷ v) = Same u v

-- the number one lower, where the digits are not all 0
abbrev pub previous : Digits → Digits
previous u = mirror (next (mirror u))

-- the numbers from a to b; from 0a to 1b; from f on and up to l
abbrev pub within : Digits → Digits → Digits → Bool
within a b u = leq a u && leq u b

abbrev pub outer : Digits → Digits → Digits → Bool
outer f l u = leq f u || leq u l

-- among the numbers of as many digits as n the list takes just those of the set
abbrev pub Exact : Digits → (Digits → Bool) → List Symbols → Type 0
Exact n S l = (u : Digits) → Same n u → list_takes l u ≡ S u

-- each digit of the third is that of the first or that of the second
abbrev pub Mix : Digits → Digits → Digits → Type 0
Mix [] [] [] = Unit {0}
Mix [] [] (z ∷ w) = ⊥
Mix [] (y ∷ v) w = ⊥
Mix (x ∷ u) [] w = ⊥
Mix (x ∷ u) (y ∷ v) [] = ⊥
Mix (x ∷ u) (y ∷ v) (z ∷ w) = ((z ≡ x) ⊎ (z ≡ y)) × Mix u v w

-- a mix of both stands outside the set
abbrev pub Clash : (Digits → Bool) → Digits → Digits → Type 0
Clash S u v = (z : Digits) × Mix u v z × (S z ≡ false)

-- k numbers of as many digits as n, each with P, any two with R
pub record Witness (n : Digits) (P : Digits → Type 0) (R : Digits → Digits → Type 0) (k : ℕ) : Type 0 where
  pub these : List Digits
  pub each : AllByRecursion (λ w. Same n w × P w) these
  pub apart : Pairs R these
  pub count : length these ≡ k

-- a witness of a set
abbrev pub WitnessOf : Digits → (Digits → Bool) → ℕ → Type 0
WitnessOf n S k = Witness n (λ u. S u ≡ true) (Clash S) k

pub same_refl : (u : Digits) → Same u u
same_refl [] = tt
same_refl (x ∷ u) = same_refl u

pub same_sym : (u v : Digits) → Same u v → Same v u
same_sym [] [] s = tt
same_sym [] (y ∷ v) s = s
same_sym (x ∷ u) [] s = s
same_sym (x ∷ u) (y ∷ v) s = same_sym u v s

pub same_trans : (u v w : Digits) → Same u v → Same v w → Same u w
same_trans [] [] w s t = t
same_trans [] (y ∷ v) w s t = absurd s
same_trans (x ∷ u) [] w s t = absurd s
same_trans (x ∷ u) (y ∷ v) [] s t = t
same_trans (x ∷ u) (y ∷ v) (z ∷ w) s t = same_trans u v w s t

-- two of as many digits as a third
pub same_via : (n u v : Digits) → Same n u → Same n v → Same u v
same_via n u v s t = same_trans u n v (same_sym n u s) t

pub mix_left : (u v : Digits) → Same u v → Mix u v u
mix_left [] [] s = tt
mix_left [] (y ∷ v) s = s
mix_left (x ∷ u) [] s = s
mix_left (x ∷ u) (y ∷ v) s = (inl refl, mix_left u v s)

pub mix_right : (u v : Digits) → Same u v → Mix u v v
mix_right [] [] s = tt
mix_right [] (y ∷ v) s = s
mix_right (x ∷ u) [] s = s
mix_right (x ∷ u) (y ∷ v) s = (inr refl, mix_right u v s)

pub mix_same : (n u v z : Digits) → Same n u → Mix u v z → Same n z
mix_same [] [] [] [] s m = tt
mix_same [] [] [] (z ∷ w) s m = m
mix_same [] [] (y ∷ v) w s m = absurd m
mix_same [] (x ∷ u) v w s m = absurd s
mix_same (k ∷ n) [] v w s m = absurd s
mix_same (k ∷ n) (x ∷ u) [] w s m = absurd m
mix_same (k ∷ n) (x ∷ u) (y ∷ v) [] s m = m
mix_same (k ∷ n) (x ∷ u) (y ∷ v) (z ∷ w) s m = mix_same n u v w s m.1

-- a map carries numbers with P and R to numbers with P' and R'
abbrev pub Points : (n : Digits) (P : Digits → Type 0) (f : Digits → Digits) (n' : Digits) (P' : Digits → Type 0) → Type 0
Points n P f n' P' = (w : Digits) → Same n w → P w → Same n' (f w) × P' (f w)

abbrev pub Couples : (n : Digits) (R : Digits → Digits → Type 0) (f : Digits → Digits) (R' : Digits → Digits → Type 0) → Type 0
Couples n R f R' = (v w : Digits) → Same n v → Same n w → R v w → R' (f v) (f w)

pub witness_map : {n : Digits} {P : Digits → Type 0} {R : Digits → Digits → Type 0} {k : ℕ} → Witness n P R k →
    (f : Digits → Digits) {n' : Digits} {P' : Digits → Type 0} {R' : Digits → Digits → Type 0} → Points n P f n' P' → Couples n R f R' → Witness n' P' R' k
witness_map W f {n'} {P'} {R'} g h = record {
  these = map f W.these;
  each = all_map f (λ w. Same n' w × P' w) (λ w p. g w p.0 p.1) W.these W.each;
  apart = pairs_map f R' (λ v w p q r. h v w p.0 q.0 r) W.these W.each W.apart;
  count = length-map W.these f ∙ W.count;
}

-- and one number more
pub witness_more : {n : Digits} {P : Digits → Type 0} {R : Digits → Digits → Type 0} {k : ℕ} → Witness n P R k →
    (f : Digits → Digits) {n' : Digits} {P' : Digits → Type 0} {R' : Digits → Digits → Type 0} → Points n P f n' P' → Couples n R f R' →
    (p : Digits) → Same n' p → P' p → ((w : Digits) → Same n w → P w → R' p (f w)) → Witness n' P' R' (suc k)
unfolding witness_map
witness_more W f {n'} {P'} {R'} g h p s q c =
    let V : Witness n' P' R' _ = witness_map W f g h in
    record {
      these = p ∷ V.these;
      each = ((s, q), V.each);
      apart = (all_map f (R' p) (λ w x. c w x.0 x.1) W.these W.each, V.apart);
      count = ap suc V.count;
    }

pub witness_count : {n : Digits} {P : Digits → Type 0} {R : Digits → Digits → Type 0} {k : ℕ} → Witness n P R k → {j : ℕ} → k ≡ j → Witness n P R j
witness_count W e = record { these = W.these; each = W.each; apart = W.apart; count = W.count ∙ e }
