use Rattle.std.proofs.Common.{◌≡◌, true, drop}
use Rattle.device.specs.Replays.{answers_to, after_calls, call_writes, device_step, writes_of}
use Rattle.device.proofs.KeptOn.{KeptSoFar}
use Rattle.device.proofs.replay.answer_alike.Given as goal

-- alike so far and from here on is alike from the start
abbrev pub invariant-loop-call : goal.invariant-loop-call
invariant-loop-call g l =
    let left = drop l.call-index l.calls in
    let a = g.A.RowDevice.state l.first in
    let b = g.B.RowDevice.state l.second in
    let a0 = g.A.RowDevice.state l.initial.first in
    let b0 = g.B.RowDevice.state l.initial.second in
    (answers_to a0 l.calls ≡ answers_to b0 l.calls → (l.alike ≡ true) × (answers_to a left ≡ answers_to b left))
    × (l.alike ≡ true → answers_to a left ≡ answers_to b left → answers_to a0 l.calls ≡ answers_to b0 l.calls)
    × (after_calls a left ≡ after_calls a0 l.calls)
    × (after_calls b left ≡ after_calls b0 l.calls)
    × KeptSoFar g.A.RowDevice call_writes device_step l.initial.first (writes_of a0 l.calls) l.first a left
    × KeptSoFar g.B.RowDevice call_writes device_step l.initial.second (writes_of b0 l.calls) l.second b left
