use Rattle.std.proofs.Common.{take}
use Rattle.std.specs.Fmt.{HasWritten, IsPlainFormatter}
use Rattle.std.specs.List.{flat_map}
use Rattle.rows.specs.Widths.{places_of}
use Rattle.shown.specs.Slots.{slot_text}
use Rattle.shown.proofs.slots.ShownSlotsDisplay.fmt.Given as goal

-- the slots before this one are written
abbrev pub invariant-loop-slot : goal.invariant-loop-slot
invariant-loop-slot g l =
    IsPlainFormatter l.initial.f → HasWritten g.W.Write.write_str_gives l.initial.f (flat_map (slot_text (places_of l.width)) (take l.slot (g.D.RowDevice.state l.self.device.now).slots)) l.f
