-- Answers that compare as equal are the same.
use Rattle.std.proofs.Common.{rules, ◌≡◌, true, refl, ap, subst}
use Rattle.std.proofs.lemmas.Bool.{false≢true}
use Rattle.covers.specs.Equality.{IsEquality}
use Rattle.covers.proofs.Equalities.{option_equality}
use Rattle.rows.proofs.SameRows.{row_equality}
use Rattle.device.specs.declared.call.DeviceAnswer.{DeviceAnswer}
use Rattle.device.specs.declared.call.DeviceAnswer.TheVariants.{Done, Holds, Says}
use Rattle.device.specs.contracts.call.DeviceAnswerPartialEq.TheImpl.{ghosts}

same : (a b : DeviceAnswer) → ghosts.eq a b ≡ true → a ≡ b
same Done Done e = refl
same (Holds x) (Holds y) e = ap Holds ((option_equality row_equality).same x y e)
same (Says x) (Says y) e = search rules
same a b e = absurd (false≢true e)

itself : (a : DeviceAnswer) → ghosts.eq a a ≡ true
itself (Holds x) = (option_equality row_equality).yes x x refl
itself a = search rules

pub answer_equality : IsEquality ghosts.eq
answer_equality = record { same = same; yes = λ a b e. subst (λ c. ghosts.eq a c ≡ true) e (itself a) }
