-- Answers that compare as equal are the same.
use Rattle.std.proofs.Common.{rules, ◌≡◌, true, refl, ap, subst}
use Rattle.covers.specs.Equality.{IsEquality}
use Rattle.std.proofs.lemmas.Bool.{false≢true}
use Rattle.covers.proofs.Equalities.{option_equality}
use Rattle.rows.proofs.SameRows.{row_equality}
use Rattle.filter_calls.specs.declared.call.FilterAnswer.{FilterAnswer}
use Rattle.filter_calls.specs.declared.call.FilterAnswer.TheVariants.{Token, Rows, Released, Says, Slot, Run}
use Rattle.filter_calls.specs.contracts.call.FilterAnswerPartialEq.TheImpl.{ghosts}

same : (a b : FilterAnswer) → ghosts.eq a b ≡ true → a ≡ b
same (Token x) (Token y) e = search rules
same (Rows x) (Rows y) e = search rules
same Released Released e = refl
same (Says x) (Says y) e = search rules
same (Slot x) (Slot y) e = ap Slot ((option_equality row_equality).same x y e)
same (Run x) (Run y) e = search rules
same a b e = absurd (false≢true e)

itself : (a : FilterAnswer) → ghosts.eq a a ≡ true
itself (Slot x) = (option_equality row_equality).yes x x refl
itself a = search rules

pub answer_equality : IsEquality ghosts.eq
answer_equality = record { same = same; yes = λ a b e. subst (λ c. ghosts.eq a c ≡ true) e (itself a) }
