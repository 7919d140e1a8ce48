-- The rule that gives the list of 0a to 1b.
use Rattle.std.proofs.Common.{◌≡◌, Bool, true, false, [], ◌∷◌, refl}
use Rattle.std.proofs.lemmas.Bool.{true≢false}
use Rattle.covers.specs.Digits.{Digits, all_ones, all_zeros}
use Rattle.covers.specs.Rules.{upto, onward, middle, across}
use Rattle.covers.proofs.Witnesses.{Same}

pub across_middle : (x y : Bool) (a b : Digits) → all_zeros (x ∷ a) ≡ false → all_ones (y ∷ b) ≡ false → across (x ∷ a) (y ∷ b) ≡ middle x y a b (across a b)
across_middle x y a b z o = rw (z, o)

pub across_zeros : (a b : Digits) → Same a b → all_zeros a ≡ true → across a b ≡ upto (true ∷ b)
across_zeros [] [] s z = refl
across_zeros [] (y ∷ b) s z = absurd s
across_zeros (x ∷ a) [] s z = absurd s
across_zeros (x ∷ a) (y ∷ b) s z = rw z

pub across_ones : (a b : Digits) → Same a b → all_zeros a ≡ false → all_ones b ≡ true → across a b ≡ onward (false ∷ a)
across_ones [] b s z o = absurd (true≢false z)
across_ones (x ∷ a) [] s z o = absurd s
across_ones (x ∷ a) (y ∷ b) s z o = rw (z, o)
