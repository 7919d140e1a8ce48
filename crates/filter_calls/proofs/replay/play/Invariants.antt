use Rattle.std.proofs.Common.{◌≡◌, ◌++◌, take, drop}
use Rattle.ledger.specs.Ledger.{Ledger}
use Rattle.device.specs.Exchanges.{calls_of}
use Rattle.device.specs.KeptBeside.{KeptBeside}
use Rattle.filter_calls.specs.Replays.{answered_in_full, after_calls, answered_writes}
use Rattle.filter.specs.StandsFor.{StandsFor}
use Rattle.filter_calls.proofs.replay.play.Given as goal

-- the filter stands for a ledger; what is left is as it was; with it answered from here on, all is answered from the start
abbrev pub invariant-loop-exchange : goal.invariant-loop-exchange
invariant-loop-exchange g l =
    let left = drop l.exchange-index l.initial.exchanges in
    (first : Ledger) → StandsFor g.D.RowDevice l.initial.player.filter first →
    (b : Ledger)
    × (StandsFor g.D.RowDevice l.player.filter b)
    × (drop l.exchange-index l.exchanges ≡ left)
    × (take l.exchange-index l.exchanges ++ answered_in_full b (calls_of left) ≡ answered_in_full first (calls_of l.initial.exchanges))
    × (after_calls b (calls_of left) ≡ after_calls first (calls_of l.initial.exchanges))
    × (b.slots ≡ first.slots)
    × KeptBeside g.D.RowDevice l.initial.player.filter.device (answered_writes first.slots (take l.exchange-index l.exchanges)) l.player.filter.device
