use Rattle.std.proofs.Common.{◌≡◌, ◌++◌, take, drop}
use Rattle.device.specs.Exchanges.{calls_of}
use Rattle.device.specs.Replays.{answered, after_calls, call_writes, device_step, writes_of}
use Rattle.device.proofs.KeptOn.{KeptSoFar}
use Rattle.device.proofs.replay.replay.Given as goal

-- what is left is as it was; with it answered from here on, all is answered from the start
abbrev pub invariant-loop-exchange : goal.invariant-loop-exchange
invariant-loop-exchange g l =
    let left = drop l.exchange-index l.initial.exchanges in
    let now = g.D.RowDevice.state l.device in
    let first = g.D.RowDevice.state l.initial.device in
    (drop l.exchange-index l.exchanges ≡ left)
    × (take l.exchange-index l.exchanges ++ answered now left ≡ answered first l.initial.exchanges)
    × (after_calls now (calls_of left) ≡ after_calls first (calls_of l.initial.exchanges))
    × KeptSoFar g.D.RowDevice call_writes device_step l.initial.device (writes_of first (calls_of l.initial.exchanges)) l.device now (calls_of left)
