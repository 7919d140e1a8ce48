-- What a device says to a number.
use Rattle.std.proofs.Common.{◌≡◌, ℕ, false, not, ◌&&◌, ap, ap₂}
use Rattle.device.specs.States.{DeviceState, says, some_slot_takes}

-- with the mute off it says whether some slot takes the number
pub says_free : (s : DeviceState) (x : ℕ) → s.muted ≡ false → says s x ≡ some_slot_takes s.slots x
says_free s x free = ap (λ mute. not mute && some_slot_takes s.slots x) free

-- two devices say the same if their mutes are the same, and some slot of the one takes the number just if one of the other does
pub says_alike : (s t : DeviceState) (x y : ℕ) → s.muted ≡ t.muted → some_slot_takes s.slots x ≡ some_slot_takes t.slots y → says s x ≡ says t y
says_alike s t x y mute takes = ap₂ (λ m taken. not m && taken) mute takes
