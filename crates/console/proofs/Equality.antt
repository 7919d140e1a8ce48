-- Failures that compare as equal are the same.
use Rattle.std.proofs.Common.{rules, ◌≡◌, true, refl, subst}
use Rattle.std.proofs.lemmas.Bool.{false≢true}
use Rattle.covers.specs.Equality.{IsEquality}
use Rattle.console.specs.declared.failure.Failure.{Failure}
use Rattle.console.specs.declared.failure.Failure.TheVariants.{CannotRead, CannotWrite, TooManyTries}
use Rattle.console.specs.contracts.failure.FailurePartialEq.TheImpl.{ghosts}

same : (a b : Failure) → ghosts.eq a b ≡ true → a ≡ b
same (CannotRead x) (CannotRead y) e = search rules
same (CannotWrite x) (CannotWrite y) e = search rules
same TooManyTries TooManyTries e = refl
same a b e = absurd (false≢true e)

itself : (a : Failure) → ghosts.eq a a ≡ true
itself a = search rules

pub failure_equality : IsEquality ghosts.eq
failure_equality = record { same = same; yes = λ a b e. subst (λ c. ghosts.eq a c ≡ true) e (itself a) }
