-- A list that takes exactly a set has at least as many rows as a witness has numbers.
use Rattle.std.proofs.Common.{◌≡◌, ℕ, suc, ◌≤◌, Bool, true, false, not, List, [], ◌∷◌, length, filter, refl, ap, ◌∙◌, subst, inl, inr, suc-le-suc, zero-le, arith}
use Rattle.std.specs.List.{AllByRecursion}
use Rattle.std.proofs.lemmas.Bool.{and_parts, and_from, both_ways, false≢true}
use Rattle.covers.specs.Digits.{Digits}
use Rattle.covers.specs.Symbols.{Symbols, admits, takes, list_takes}
use Rattle.covers.specs.Rivals.{Pairs}
use Rattle.covers.proofs.Witnesses.{Mix, Exact, WitnessOf, mix_same}
use Rattle.covers.proofs.Lists.{all_mono, pairs_mono, pairs_with}

pub mix_takes : (r : Symbols) (u v z : Digits) → takes r u ≡ true → takes r v ≡ true → Mix u v z → takes r z ≡ true
mix_takes [] [] [] [] p q m = refl
mix_takes [] [] [] (z ∷ w) p q m = absurd m
mix_takes [] [] (y ∷ v) w p q m = absurd m
mix_takes [] (x ∷ u) v w p q m = absurd (false≢true p)
mix_takes (s ∷ r) [] v w p q m = absurd (false≢true p)
mix_takes (s ∷ r) (x ∷ u) [] w p q m = absurd m
mix_takes (s ∷ r) (x ∷ u) (y ∷ v) [] p q m = absurd m
mix_takes (s ∷ r) (x ∷ u) (y ∷ v) (z ∷ w) p q m =
    let p' = and_parts (admits s x) (takes r u) p in
    let q' = and_parts (admits s y) (takes r v) q in
    let t = mix_takes r u v w p'.1 q'.1 m.1 in
    elim m.0 [
      | inl e ↦ and_from (admits s z) (takes r w) (ap (admits s) e ∙ p'.0) t
      | inr e ↦ and_from (admits s z) (takes r w) (ap (admits s) e ∙ q'.0) t
    ]

-- no row of the list takes both
abbrev Split : List Symbols → Digits → Digits → Type 0
Split l u v = AllByRecursion (λ r. takes r u ≡ true → takes r v ≡ false) l

abbrev free : Symbols → Digits → Bool
free r u = not (takes r u)

keep_all : (r : Symbols) (w : List Digits) → AllByRecursion (λ v. takes r v ≡ false) w → length (filter (free r) w) ≡ length w
keep_all r [] h = refl
keep_all r (v ∷ w) h = rw h.0 (ap suc (keep_all r w h.1))

keep_most : (r : Symbols) (w : List Digits) → Pairs (λ u v. takes r u ≡ true → takes r v ≡ false) w → length w ≤ suc (length (filter (free r) w))
keep_most r [] h = zero-le
keep_most r (u ∷ w) h = go (takes r u) refl (keep_most r w h.1)
  where
    go : (t : Bool) → takes r u ≡ t → length w ≤ suc (length (filter (free r) w)) → suc (length w) ≤ suc (length (filter (free r) (u ∷ w)))
    go true e ih = rw e (let k = keep_all r w (all_mono {P = λ v. takes r u ≡ true → takes r v ≡ false} {Q = λ v. takes r v ≡ false} (λ v f. f e) w h.0) in omega arith)
    go false e ih = rw e (suc-le-suc ih)

keep_taken : (r : Symbols) (l : List Symbols) (w : List Digits) → AllByRecursion (λ u. list_takes (r ∷ l) u ≡ true) w → AllByRecursion (λ u. list_takes l u ≡ true) (filter (free r) w)
keep_taken r l [] h = tt
keep_taken r l (u ∷ w) h = go (takes r u) refl (keep_taken r l w h.1)
  where
    go : (t : Bool) → takes r u ≡ t → AllByRecursion (λ v. list_takes l v ≡ true) (filter (free r) w) → AllByRecursion (λ v. list_takes l v ≡ true) (filter (free r) (u ∷ w))
    go true e ih = rw e ih
    go false e ih = rw e (rw e at h.0, ih)

keep_every : (P : Digits → Type 0) (r : Symbols) (w : List Digits) → AllByRecursion P w → AllByRecursion P (filter (free r) w)
keep_every P r [] h = tt
keep_every P r (u ∷ w) h = go (takes r u) refl (keep_every P r w h.1)
  where
    go : (t : Bool) → takes r u ≡ t → AllByRecursion P (filter (free r) w) → AllByRecursion P (filter (free r) (u ∷ w))
    go true e ih = rw e ih
    go false e ih = rw e (h.0, ih)

keep_pairs : (R : Digits → Digits → Type 0) (r : Symbols) (w : List Digits) → Pairs R w → Pairs R (filter (free r) w)
keep_pairs R r [] h = tt
keep_pairs R r (u ∷ w) h = go (takes r u) refl (keep_pairs R r w h.1)
  where
    go : (t : Bool) → takes r u ≡ t → Pairs R (filter (free r) w) → Pairs R (filter (free r) (u ∷ w))
    go true e ih = rw e ih
    go false e ih = rw e (keep_every (R u) r w h.0, ih)

pigeon : (l : List Symbols) (w : List Digits) → AllByRecursion (λ u. list_takes l u ≡ true) w → Pairs (Split l) w → length w ≤ length l
pigeon [] [] h p = zero-le
pigeon [] (u ∷ w) h p = absurd (false≢true h.0)
pigeon (r ∷ l) w h p =
    let ih = pigeon l (filter (free r) w) (keep_taken r l w h)
    (pairs_mono {R = Split (r ∷ l)} {Q = Split l} (λ u v s. s.1) (filter (free r) w) (keep_pairs (Split (r ∷ l)) r w p)) in
    let k = keep_most r w (pairs_mono {R = Split (r ∷ l)} {Q = λ u v. takes r u ≡ true → takes r v ≡ false} (λ u v s. s.0) w p) in
    omega arith

-- a row of the list that takes z makes the list take z
member : (l : List Symbols) (z : Digits) → list_takes l z ≡ false → AllByRecursion (λ r. takes r z ≡ false) l
member [] z h = tt
member (r ∷ l) z h = go (takes r z) refl (λ k. member l z k)
  where
    go : (t : Bool) → takes r z ≡ t → (list_takes l z ≡ false → AllByRecursion (λ q. takes q z ≡ false) l) → (takes r z ≡ false) × AllByRecursion (λ q. takes q z ≡ false) l
    go true e f = absurd (both_ways (list_takes (r ∷ l) z) h (rw e))
    go false e f = (e, f (rw e at h))

from_clash : (l : List Symbols) (u v z : Digits) → Mix u v z → list_takes l z ≡ false → Split l u v
from_clash l u v z m f = all_mono {P = λ r. takes r z ≡ false} {Q = λ r. takes r u ≡ true → takes r v ≡ false} (λ r e p. go r e p (takes r v) refl) l (member l z f)
  where
    go : (r : Symbols) → takes r z ≡ false → takes r u ≡ true → (t : Bool) → takes r v ≡ t → takes r v ≡ false
    go r e p true q = absurd (both_ways (takes r z) e (mix_takes r u v z p q m))
    go r e p false q = q

-- T3
pub at_least : (n : Digits) (S : Digits → Bool) (l : List Symbols) (k : ℕ) → Exact n S l → WitnessOf n S k → k ≤ length l
at_least n S l k ex W =
    subst (λ j. j ≤ length l) W.count
    (pigeon l W.these
    (all_mono (λ u p. ex u p.0 ∙ p.1) W.these W.each)
    (pairs_with (λ u v p c. from_clash l u v c.0 c.1 (ex c.0 (mix_same n u v c.0 p.0 c.1) ∙ c.2)) W.these W.each W.apart))
