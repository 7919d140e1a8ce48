-- That what stays of a device stays from call to call, as ghost members cite it.
use Rattle.std.specs.Prelude.{ℕ, List, [], ◌++◌, refl}
use Rattle.std.proofs.Common.{◌∙◌, append-nil}
use Rattle.device.specs.declared.device.RowDevice.{Ghosts}
use Rattle.device.specs.KeptBeside.{KeptBeside}

module _ {D : Type 0} (d : Ghosts D) where
  pub kept_at_rest : (a : D) → KeptBeside d a [] a
  kept_at_rest a = record { own = d.keeps_at_rest a; ways = refl }

  pub kept_on : (a b c : D) (before after : List ℕ) → KeptBeside d a before b → KeptBeside d b after c → KeptBeside d a (before ++ after) c
  kept_on a b c before after h k =
      record { own = d.keeps_on a b c before after h.own k.own; ways = k.ways ∙ h.ways }

  -- a call that has written no slot
  pub kept_unwritten : (a b c : D) (before : List ℕ) → KeptBeside d a before b → KeptBeside d b [] c → KeptBeside d a before c
  kept_unwritten a b c before h k = rw (← append-nil before) (kept_on a b c before [] h k)
