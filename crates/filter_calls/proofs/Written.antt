-- What the calls on a filter have written, call by call.
use Rattle.std.proofs.Common.{◌≡◌, ℕ, true, ◌+◌, ◌<◌, List, [], ◌∷◌, ◌++◌, length, take, set, Ok, Err, Result, refl, ap, ◌∙◌, append-nil}
use Rattle.std.proofs.lemmas.Grind.{flat_map-append}
use Rattle.std.proofs.lemmas.List.{take_more_set}
use Rattle.rows.specs.declared.refusal.Refusal.{Refusal}
use Rattle.rows.specs.Refusals.{if_granted}
use Rattle.device.specs.declared.device.RowDevice.{Ghosts}
use Rattle.device.specs.declared.exchange.Exchange.{Exchange}
use Rattle.device.specs.KeptBeside.{KeptBeside}
use Rattle.device.specs.KeptBesideLaws.{kept_on}
use Rattle.ledger.specs.Ledger.{Ledger, freed}
use Rattle.ledger.specs.Steps.{hold_step, edit_step, release_step, with_edit}
use Rattle.filter_calls.specs.declared.call.FilterCall.{FilterCall}
use Rattle.filter_calls.specs.declared.call.FilterCall.TheVariants.{Hold, Edit, Release, Ask, ReportSlot, ReportRun}
use Rattle.filter_calls.specs.Replays.{Answer, call_step, after_calls, answer_writes, answered_writes}

-- no call changes the width, or how many slots there are
pub record SameSize (b c : Ledger) : Type 0 where
  pub width : b.width ≡ c.width
  pub slots : b.slots ≡ c.slots

same_size : (b : Ledger) → SameSize b b
same_size b = record { width = refl; slots = refl }

size_granted : {X : Type 0} (r : Result X Refusal) (next b : Ledger) → SameSize next b → SameSize (if_granted r next b) b
size_granted (Ok x) next b e = e
size_granted (Err x) next b e = same_size b

pub size_stays : (b : Ledger) (call : FilterCall) → SameSize (call_step call b).1 b
size_stays b Hold = size_granted (hold_step b).0 (record b { held = true }) b (record { width = refl; slots = refl })
size_stays b (Edit tag e) = size_granted (edit_step tag e b).0 (with_edit b e) b (record { width = refl; slots = refl })
size_stays b (Release tag) = size_granted (release_step tag b).0 (freed b) b (record { width = refl; slots = refl })
size_stays b (Ask number) = same_size b
size_stays b (ReportSlot slot) = same_size b
size_stays b (ReportRun i) = same_size b

pub width_stays : (b : Ledger) (calls : List FilterCall) → (after_calls b calls).width ≡ b.width
width_stays b [] = refl
width_stays b (c ∷ calls) = width_stays (call_step c b).1 calls ∙ (size_stays b c).width

-- one answer more
pub writes_more : (count : ℕ) (es : List (Exchange FilterCall Answer)) (i : ℕ) (e : Exchange FilterCall Answer) → i < length es →
    answered_writes count (take (i + 1) (set es i e)) ≡ answered_writes count (take i es) ++ answer_writes count e.answer
writes_more count es i e h =
    ap (answered_writes count) (take_more_set es i e h) ∙ flat_map-append (λ (x : Exchange FilterCall Answer). answer_writes count x.answer) (take i es) (e ∷ []) ∙
    ap (λ (l : List ℕ). answered_writes count (take i es) ++ l) (append-nil (answer_writes count e.answer))

-- what stays, one call more
pub kept_call : {D : Type 0} (d : Ghosts D) (a b c : D) (count : ℕ) (es : List (Exchange FilterCall Answer)) (i : ℕ) (e : Exchange FilterCall Answer) → i < length es →
    KeptBeside d a (answered_writes count (take i es)) b → KeptBeside d b (answer_writes count e.answer) c → KeptBeside d a (answered_writes count (take (i + 1) (set es i e))) c
kept_call d a b c count es i e h so_far step = rw (writes_more count es i e h) (kept_on d a b c (answered_writes count (take i es)) (answer_writes count e.answer) so_far step)
