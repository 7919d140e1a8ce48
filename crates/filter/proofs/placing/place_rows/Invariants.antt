use Rattle.std.proofs.Common.{◌≡◌, map, take}
use Rattle.std.specs.List.{range_with_len}
use Rattle.device.specs.KeptBeside.{KeptBeside}
use Rattle.filter.specs.Placement.{slot_read, with_slots}
use Rattle.filter.proofs.placing.place_rows.Given as goal

-- the rows so far are put
abbrev pub invariant-loop-slot : goal.invariant-loop-slot
invariant-loop-slot g l =
    (g.D.RowDevice.state l.device ≡ with_slots (g.D.RowDevice.state l.initial.device) (map slot_read (take l.slot l.rows)))
    × KeptBeside g.D.RowDevice l.initial.device (range_with_len 0 l.slot) l.device
