-- What stays of a device while it is called.
use Rattle.std.specs.Prelude.{◌≡◌, ℕ, List}
use Rattle.device.specs.declared.device.RowDevice.{Ghosts}
use Rattle.device.specs.Levels.{carryings}

-- From the one moment to the other these slots were put or emptied, in this order: what lies beside the meaning is kept,
-- as the device itself states it, and the same ways lead to the levels beneath.
pub record KeptBeside {D : Type 0} (d : Ghosts D) (old : D) (written : List ℕ) (new : D) : Type 0 where
  pub own : d.keeps old written new
  pub ways : carryings (d.levels new) ≡ carryings (d.levels old)
