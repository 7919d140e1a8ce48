use Rattle.std.proofs.Common.{◌≡◌}
use Rattle.std.specs.List.{range_with_len}
use Rattle.device.specs.KeptBeside.{KeptBeside}
use Rattle.filter.proofs.Emptying.{emptied_slots, emptied_count}
use Rattle.filter.proofs.placing.empty_from.Given as goal

abbrev pub invariant-loop-slot : goal.invariant-loop-slot
invariant-loop-slot g l =
    let s = g.D.RowDevice.state l.initial.device in
    (g.D.RowDevice.state l.device ≡ emptied_slots s l.from (emptied_count s l.from l.slot))
    × KeptBeside g.D.RowDevice l.initial.device (range_with_len l.from (emptied_count s l.from l.slot)) l.device
