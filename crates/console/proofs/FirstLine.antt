-- The widths and the ledger of a first line.
use Rattle.std.proofs.Common.{◌≡◌, ℕ, ◌<◌, ◌≤◌, true, false, length, None, ap, ◌∙◌, ap₂, arith}
use Rattle.std.proofs.lemmas.List.{length-replicate}
use Rattle.device.specs.States.{DeviceState, Slot, blank_state}
use Rattle.ledger.specs.Ledger.{opened}
use Rattle.lines.specs.declared.command.Setup.{Setup}
use Rattle.console.specs.Sessions.{good_width}

-- widths
pub width_good : (s : Setup) → 1 ≤ s.width → s.width ≤ 32 → good_width s ≡ true
width_good s a b = grind arith

pub width_bad : (s : Setup) → (1 ≤ s.width → 32 < s.width) → good_width s ≡ false
width_bad s h = grind arith

-- the ledger of a blank device
pub blank_ledger : (s : DeviceState) (n count w tag : ℕ) → s ≡ blank_state n count → n ≡ w → opened s.width (length s.slots) tag ≡ opened w count tag
blank_ledger s n count w tag e same =
    ap₂ (λ a k. opened a k tag) (ap (λ t. t.width) e ∙ same) (ap (λ (t : DeviceState). length t.slots) e ∙ length-replicate {A = Slot} count None)
