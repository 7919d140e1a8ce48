-- What all elements of a list have, and any two.
use Rattle.std.proofs.Common.{List, [], ◌∷◌, ◌++◌, map}
use Rattle.std.specs.List.{AllByRecursion}
use Rattle.covers.specs.Rivals.{Pairs}

module _ {X : Type 0} where
  pub all_mono : {P Q : X → Type 0} → ((x : X) → P x → Q x) → (l : List X) → AllByRecursion P l → AllByRecursion Q l
  all_mono f [] h = tt
  all_mono f (x ∷ l) h = (f x h.0, all_mono f l h.1)

  pub all_both : {P Q R : X → Type 0} → ((x : X) → P x → Q x → R x) → (l : List X) → AllByRecursion P l → AllByRecursion Q l → AllByRecursion R l
  all_both f [] h k = tt
  all_both f (x ∷ l) h k = (f x h.0 k.0, all_both f l h.1 k.1)

  pub all_join : (P : X → Type 0) (l k : List X) → AllByRecursion P l → AllByRecursion P k → AllByRecursion P (l ++ k)
  all_join P [] k h j = j
  all_join P (x ∷ l) k h j = (h.0, all_join P l k h.1 j)

  pub pairs_mono : {R Q : X → X → Type 0} → ((x y : X) → R x y → Q x y) → (l : List X) → Pairs R l → Pairs Q l
  pairs_mono f [] h = tt
  pairs_mono f (x ∷ l) h = (all_mono (f x) l h.0, pairs_mono f l h.1)

  -- with what the first of the two has
  pub pairs_with : {P : X → Type 0} {R Q : X → X → Type 0} → ((x y : X) → P x → R x y → Q x y) → (l : List X) → AllByRecursion P l → Pairs R l → Pairs Q l
  pairs_with f [] a h = tt
  pairs_with f (x ∷ l) a h = (all_mono (λ y r. f x y a.0 r) l h.0, pairs_with f l a.1 h.1)

  pub pairs_join : (R : X → X → Type 0) (l k : List X) → Pairs R l → Pairs R k → AllByRecursion (λ x. AllByRecursion (R x) k) l → Pairs R (l ++ k)
  pairs_join R [] k h j c = j
  pairs_join R (x ∷ l) k h j c = (all_join (R x) l k h.0 c.0, pairs_join R l k h.1 j c.1)

module _ {X Y : Type 0} (f : X → Y) where
  pub all_map : (Q : Y → Type 0) {P : X → Type 0} → ((x : X) → P x → Q (f x)) → (l : List X) → AllByRecursion P l → AllByRecursion Q (map f l)
  all_map Q g [] h = tt
  all_map Q g (x ∷ l) h = (g x h.0, all_map Q g l h.1)

  pub pairs_map : (Q : Y → Y → Type 0) {P : X → Type 0} {R : X → X → Type 0} → ((x y : X) → P x → P y → R x y → Q (f x) (f y)) → (l : List X) → AllByRecursion P l → Pairs R l → Pairs Q (map f l)
  pairs_map Q g [] a h = tt
  pairs_map Q {P} {R} g (x ∷ l) a h = (at l a.1 h.0, pairs_map Q g l a.1 h.1)
    where
      at : (l : List X) → AllByRecursion P l → AllByRecursion (R x) l → AllByRecursion (Q (f x)) (map f l)
      at [] b r = tt
      at (y ∷ k) b r = (g x y a.0 b.0 r.0, at k b.1 r.1)
