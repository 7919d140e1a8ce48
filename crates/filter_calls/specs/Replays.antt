-- What the ledger answers to a list of calls.
use Rattle.std.specs.Prelude.{ℕ, Bool, false, ◌==◌, List, [], ◌++◌, map, Some, None, Option, Ok, Err, Result}
use Rattle.std.specs.List.{flat_map}
use Rattle.rows.specs.declared.refusal.Refusal.{Refusal}
use Rattle.filter_calls.specs.declared.call.FilterCall.{FilterCall}
use Rattle.filter_calls.specs.declared.call.FilterCall.TheVariants.{Hold, Edit, Release, Ask, ReportSlot, ReportRun}
use Rattle.filter_calls.specs.declared.call.FilterAnswer.{FilterAnswer}
use Rattle.filter_calls.specs.declared.call.FilterAnswer.TheVariants.{Token, Rows, Released, Says, Slot, Run}
use Rattle.filter_calls.specs.declared.call.RefusedCall.{RefusedCall}
use Rattle.device.specs.declared.exchange.Exchange.{Exchange}
use Rattle.device.specs.Exchanges.{after_all, answered_all, calls_of}
use Rattle.filter.specs.declared.hold_token.HoldToken.{HoldToken}
use Rattle.ledger.specs.Ledger.{Ledger}
use Rattle.ledger.specs.Steps.{Step, told, hold_step, edit_step, release_step, ask_step, slot_step, full_slot_step, run_step}
use Rattle.filter.specs.Writes.{all_slots}

-- the answer to a call, or why it was refused
abbrev pub Answer : Type 0
Answer = Result FilterAnswer RefusedCall

-- an answer as a value: what was granted, or the refusal
abbrev pub answered_by : {X : Type 0} → (X → FilterAnswer) → Result X Refusal → Answer
answered_by granted (Ok x) = Ok (granted x)
answered_by granted (Err e) = Err (record { refusal = e; handed_back = None })

-- a refused release tells the tag of its token
abbrev pub released_by : ℕ → Result (Unit {0}) Refusal → Result (Unit {0}) RefusedCall
released_by tag (Ok x) = Ok x
released_by tag (Err e) = Err (record { refusal = e; handed_back = Some tag })

-- and a granted one is told as such
abbrev pub told_released : Result (Unit {0}) RefusedCall → Answer
told_released (Ok x) = Ok Released
told_released (Err e) = Err e

-- the ledger's step for one call; of a slot it knows no row
abbrev pub call_step : FilterCall → Step Answer
call_step Hold = told (answered_by Token) hold_step
call_step (Edit tag e) = told (answered_by Rows) (edit_step tag e)
call_step (Release tag) = told (λ r. told_released (released_by tag r)) (release_step tag)
call_step (Ask number) = told (answered_by Says) (ask_step number)
call_step (ReportSlot slot) = told (answered_by (λ _. Slot None)) (slot_step slot)
call_step (ReportRun i) = told (λ run. Ok (Run run)) (run_step i)

-- the same in full: of a slot, the very row that lies in it is told
abbrev pub full_step : FilterCall → Step Answer
full_step Hold = call_step Hold
full_step (Edit tag e) = call_step (Edit tag e)
full_step (Release tag) = call_step (Release tag)
full_step (Ask number) = call_step (Ask number)
full_step (ReportSlot slot) = told (answered_by Slot) (full_slot_step slot)
full_step (ReportRun i) = call_step (ReportRun i)

-- an answer as it is compared with the ledger's: a slot's row is left out
abbrev pub without_row : FilterAnswer → FilterAnswer
without_row (Token tag) = Token tag
without_row (Rows k) = Rows k
without_row Released = Released
without_row (Says said) = Says said
without_row (Slot row) = Slot None
without_row (Run run) = Run run

abbrev pub compared : Answer → Answer
compared (Ok answer) = Ok (without_row answer)
compared (Err e) = Err e

-- the token at hand has this tag
abbrev pub token_has_tag : Option HoldToken → ℕ → Bool
token_has_tag None tag = false
token_has_tag (Some token) tag = token.tag == tag

-- the ledger after a list of calls
abbrev pub after_calls : Ledger → List FilterCall → Ledger
after_calls = after_all call_step

-- exchanges as they are compared with the ledger's
abbrev pub as_compared : List (Exchange FilterCall Answer) → List (Exchange FilterCall Answer)
as_compared exchanges = map (λ e. record { call = e.call; answer = compared e.answer }) exchanges

-- the exchanges with the ledger's answer beside each call
abbrev pub answered : Ledger → List (Exchange FilterCall Answer) → List (Exchange FilterCall Answer)
answered b exchanges = answered_all call_step b (calls_of exchanges)

-- a list of calls, each with its answer in full beside it
abbrev pub answered_in_full : Ledger → List FilterCall → List (Exchange FilterCall Answer)
answered_in_full = answered_all full_step

-- the slots of a device with so many that a call has put or emptied: where an edit was granted, and so a row count told,
-- each slot once; else none
abbrev pub answer_writes : ℕ → Answer → List ℕ
answer_writes count (Ok (Token tag)) = []
answer_writes count (Ok (Rows rows)) = all_slots count
answer_writes count (Ok Released) = []
answer_writes count (Ok (Says said)) = []
answer_writes count (Ok (Slot row)) = []
answer_writes count (Ok (Run run)) = []
answer_writes count (Err e) = []

-- those that answered calls have written, in order
abbrev pub answered_writes : ℕ → List (Exchange FilterCall Answer) → List ℕ
answered_writes count exchanges = flat_map (λ e. answer_writes count e.answer) exchanges

-- and those of a replay: the opening writes each slot once, and then the calls follow
abbrev pub replay_writes : ℕ → List (Exchange FilterCall Answer) → List ℕ
replay_writes count exchanges = all_slots count ++ answered_writes count exchanges
