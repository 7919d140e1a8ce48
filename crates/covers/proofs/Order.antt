-- The order on digits, the number one higher, and the mirror.
use Rattle.std.proofs.Common.{◌≡◌, Bool, true, false, cond, not, ◌&&◌, [], ◌∷◌, map, sym, refl, ap}
use Rattle.std.proofs.lemmas.Bool.{both_ways, false≢true, true≢false}
use Rattle.covers.specs.Digits.{Digits, leq, all_ones, all_zeros, next, mirror}
use Rattle.covers.proofs.Witnesses.{Same, previous, same_trans, same_via}

pub same_mirror : (u : Digits) → Same u (mirror u)
same_mirror [] = tt
same_mirror (x ∷ u) = same_mirror u

pub same_next : (u : Digits) → Same u (next u)
same_next [] = tt
same_next (x ∷ u) = go (all_ones u) (same_next u)
  where
    go : (t : Bool) → Same u (next u) → Same (x ∷ u) (cond t (true ∷ map not u) (x ∷ next u))
    go true h = same_mirror u
    go false h = h

pub leq_refl : (u : Digits) → leq u u ≡ true
leq_refl [] = refl
leq_refl (false ∷ u) = leq_refl u
leq_refl (true ∷ u) = leq_refl u

pub leq_trans : (u v w : Digits) → leq u v ≡ true → leq v w ≡ true → leq u w ≡ true
leq_trans [] v w p q = refl
leq_trans (x ∷ u) [] w p q = absurd (false≢true p)
leq_trans (x ∷ u) (y ∷ v) [] p q = absurd (false≢true q)
leq_trans (false ∷ u) (false ∷ v) (false ∷ w) p q = leq_trans u v w p q
leq_trans (false ∷ u) (false ∷ v) (true ∷ w) p q = refl
leq_trans (false ∷ u) (true ∷ v) (false ∷ w) p q = absurd (false≢true q)
leq_trans (false ∷ u) (true ∷ v) (true ∷ w) p q = refl
leq_trans (true ∷ u) (false ∷ v) (z ∷ w) p q = absurd (false≢true p)
leq_trans (true ∷ u) (true ∷ v) (false ∷ w) p q = absurd (false≢true q)
leq_trans (true ∷ u) (true ∷ v) (true ∷ w) p q = leq_trans u v w p q

pub leq_mirror : (u v : Digits) → Same u v → leq (mirror u) (mirror v) ≡ leq v u
leq_mirror [] [] s = refl
leq_mirror [] (y ∷ v) s = absurd s
leq_mirror (x ∷ u) [] s = absurd s
leq_mirror (false ∷ u) (false ∷ v) s = leq_mirror u v s
leq_mirror (false ∷ u) (true ∷ v) s = refl
leq_mirror (true ∷ u) (false ∷ v) s = refl
leq_mirror (true ∷ u) (true ∷ v) s = leq_mirror u v s

pub mirror_mirror : (u : Digits) → mirror (mirror u) ≡ u
mirror_mirror [] = refl
mirror_mirror (false ∷ u) = ap (λ v. false ∷ v) (mirror_mirror u)
mirror_mirror (true ∷ u) = ap (λ v. true ∷ v) (mirror_mirror u)

pub ones_mirror : (u : Digits) → all_ones (mirror u) ≡ all_zeros u
ones_mirror [] = refl
ones_mirror (x ∷ u) = ap (λ t. not x && t) (ones_mirror u)

pub ones_most : (b u : Digits) → all_ones b ≡ true → Same b u → leq u b ≡ true
ones_most [] [] o s = refl
ones_most [] (y ∷ u) o s = absurd s
ones_most (x ∷ b) [] o s = refl
ones_most (false ∷ b) (y ∷ u) o s = absurd (false≢true o)
ones_most (true ∷ b) (false ∷ u) o s = refl
ones_most (true ∷ b) (true ∷ u) o s = ones_most b u o s

pub zeros_least : (a u : Digits) → all_zeros a ≡ true → Same a u → leq a u ≡ true
zeros_least [] u o s = refl
zeros_least (x ∷ a) [] o s = absurd s
zeros_least (true ∷ a) (y ∷ u) o s = absurd (false≢true o)
zeros_least (false ∷ a) (true ∷ u) o s = refl
zeros_least (false ∷ a) (false ∷ u) o s = zeros_least a u o s

zeros_mirror : (b : Digits) → all_ones b ≡ true → all_zeros (mirror b) ≡ true
zeros_mirror [] o = refl
zeros_mirror (false ∷ b) o = absurd (false≢true o)
zeros_mirror (true ∷ b) o = zeros_mirror b o

-- the number one higher is above just what is not above
pub next_leq : (b u : Digits) → all_ones b ≡ false → Same b u → leq (next b) u ≡ not (leq u b)
next_leq [] u o s = absurd (true≢false o)
next_leq (x ∷ b) [] o s = absurd s
next_leq (x ∷ b) (y ∷ u) o s = go x y o (all_ones b) refl (λ k. next_leq b u k s)
  where
    go : (x y : Bool) → x && all_ones b ≡ false → (t : Bool) → all_ones b ≡ t → (all_ones b ≡ false → leq (next b) u ≡ not (leq u b)) →
        leq (next (x ∷ b)) (y ∷ u) ≡ not (leq (y ∷ u) (x ∷ b))
    go true y o true e ih = absurd (both_ways (all_ones b) o e)
    go false true o true e ih = rw e (zeros_least (mirror b) u (zeros_mirror b e) (same_via b (mirror b) u (same_mirror b) s))
    go false false o true e ih = rw e (ap not (sym (ones_most b u e s)))
    go false false o false e ih = rw e (ih e)
    go false true o false e ih = rw e
    go true false o false e ih = rw e
    go true true o false e ih = rw e (ih e)

pub same_both : (a u : Digits) → Same a u → Same (mirror a) (mirror u)
same_both a u s = same_via a (mirror a) (mirror u) (same_mirror a) (same_trans a u (mirror u) s (same_mirror u))

pub same_previous : (a : Digits) → Same a (previous a)
same_previous a = same_trans a (mirror a) (previous a) (same_mirror a) (same_trans (mirror a) (next (mirror a)) (previous a) (same_next (mirror a)) (same_mirror (next (mirror a))))
