use Rattle.std.proofs.lemmas.List.{length-map}
use Rattle.device.specs.Levels.{carried_slot}
use Rattle.filter_calls.proofs.layered.replay_over_layer.Goals as goal

pub returns-clause-promise : goal.returns-clause-promise
returns-clause-promise g c =
    rw (c.into_parts.ensures.below, ← c.new.ensures.below, ← c.new.ensures.map)
    (rw c.replay_and_close.ensures.beside.own.0 at c.replay_and_close.ensures.promise)

pub returns-clause-beside : goal.returns-clause-beside
returns-clause-beside g c =
    let s = g.D.RowDevice.state c.new.result.below in
    rw (
      c.into_parts.ensures.below,
      ← c.new.ensures.below,
      ← length-map s.slots (carried_slot (g.M.LineMap.carrying c.new.result.map s.width).row_back),
    ) c.replay_and_close.ensures.beside.own.1
