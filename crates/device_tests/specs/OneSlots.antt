-- What a device of one slot means.
use Rattle.std.specs.Prelude.{Bool, [], ◌∷◌}
use Rattle.std.proofs.Common.{lit≤}
use Rattle.rows.specs.declared.width.Width.{Width}
use Rattle.rows.specs.Widths.{places_of}
use Rattle.rows.proofs.Widths.{places_some, places_most}
use Rattle.device.specs.States.{Slot, DeviceState, Lawful, SlotWithin}

abbrev pub one_slot_state : Width → Slot → Bool → DeviceState
one_slot_state w content muted = record { width = places_of w; slots = content ∷ []; muted = muted }

pub one_slot_lawful : (w : Width) (content : Slot) (muted : Bool) → SlotWithin (places_of w) content → Lawful (one_slot_state w content muted)
one_slot_lawful w content muted h =
    record {
      some_place = places_some w;
      few_places = places_most w;
      few_slots = lit≤ tt;
      rows_within = (h, tt);
    }
