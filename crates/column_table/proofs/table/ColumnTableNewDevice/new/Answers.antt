use Rattle.std.proofs.Common.{min, false, List, refl, ap}
use Rattle.rows.proofs.Widths.{places_some}
use Rattle.rows.specs.Widths.{places_of}
use Rattle.device.specs.States.{Slot, DeviceState}
use Rattle.column_table.proofs.Columns.{blank_slots}
use Rattle.column_table.proofs.table.ColumnTableNewDevice.new.Goals as goal

pub returns : goal.returns
returns c =
    let n = places_of c.args.width in
    record {
      begins = ap {B = DeviceState} (λ (l : List Slot). record { width = n; slots = l; muted = false })
          (blank_slots n (min 120 c.args.slots) (places_some c.args.width));
      no_levels = refl;
    }
