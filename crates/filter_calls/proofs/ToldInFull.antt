-- Answers in full, and as they are compared with the ledger's.
use Rattle.std.proofs.Common.{◌≡◌, ℕ, List, [], ◌∷◌, None, Ok, Err, Result, refl, ap, ◌∙◌, ap₂}
use Rattle.rows.specs.declared.refusal.Refusal.{Refusal}
use Rattle.device.specs.States.{Slot as Content}
use Rattle.filter_calls.specs.declared.call.FilterAnswer.{FilterAnswer}
use Rattle.filter_calls.specs.declared.call.FilterAnswer.TheVariants.{Token, Rows, Says, Slot}
use Rattle.filter_calls.specs.declared.call.FilterCall.{FilterCall}
use Rattle.filter_calls.specs.declared.call.FilterCall.TheVariants.{Hold, Edit, Release, Ask, ReportSlot, ReportRun}
use Rattle.device.specs.declared.exchange.Exchange.{Exchange}
use Rattle.device.specs.Exchanges.{answered_all}
use Rattle.filter.specs.Compared.{granted_only}
use Rattle.ledger.specs.Ledger.{Ledger}
use Rattle.ledger.specs.Steps.{hold_step, edit_step, release_step, ask_step, full_slot_step}
use Rattle.filter_calls.specs.Replays.{Answer, answered_by, answered_in_full, as_compared, call_step, compared, full_step, released_by, told_released, without_row}
use Rattle.filter.proofs.Laid.{report_compared}

-- an answer that tells no row is compared as it is
same_answer : {X : Type 0} (granted : X → FilterAnswer) → ((x : X) → without_row (granted x) ≡ granted x) → (r : Result X Refusal) → compared (answered_by granted r) ≡ answered_by granted r
same_answer granted h (Ok x) = ap Ok (h x)
same_answer granted h (Err e) = refl

same_release : (tag : ℕ) (r : Result (Unit {0}) Refusal) → compared (told_released (released_by tag r)) ≡ told_released (released_by tag r)
same_release tag (Ok x) = refl
same_release tag (Err e) = refl

-- of a slot's report the refusal is left
row_left_out : (r : Result Content Refusal) → compared (answered_by Slot r) ≡ answered_by (λ _. Slot None) (granted_only r)
row_left_out (Ok row) = refl
row_left_out (Err e) = refl

pub full_compared : (b : Ledger) (call : FilterCall) → compared (full_step call b).0 ≡ (call_step call b).0
full_compared b Hold = same_answer Token (λ _. refl) (hold_step b).0
full_compared b (Edit tag e) = same_answer Rows (λ _. refl) (edit_step tag e b).0
full_compared b (Release tag) = same_release tag (release_step tag b).0
full_compared b (Ask number) = same_answer Says (λ _. refl) (ask_step number b).0
full_compared b (ReportSlot slot) = row_left_out (full_slot_step slot b).0 ∙ ap (answered_by (λ _. Slot None)) (report_compared b slot)
full_compared b (ReportRun i) = refl

-- both steps lead to the same ledger
pub same_next : (b : Ledger) (call : FilterCall) → (full_step call b).1 ≡ (call_step call b).1
same_next b Hold = refl
same_next b (Edit tag e) = refl
same_next b (Release tag) = refl
same_next b (Ask number) = refl
same_next b (ReportSlot slot) = refl
same_next b (ReportRun i) = refl

-- what is answered in full is, compared, what the ledger answers
pub answered_compared : (b : Ledger) (calls : List FilterCall) → as_compared (answered_in_full b calls) ≡ answered_all call_step b calls
answered_compared b [] = refl
answered_compared b (c ∷ calls) =
    ap₂ (λ (a : Answer) (l : List (Exchange FilterCall Answer)). record { call = c; answer = a } ∷ l) (full_compared b c)
    (ap (λ (u : Ledger). as_compared (answered_in_full u calls)) (same_next b c) ∙ answered_compared (call_step c b).1 calls)
