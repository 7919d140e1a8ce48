-- The answers of granted calls, and what they leave.
use Rattle.std.proofs.Common.{◌≡◌, ℕ, ◌^◌, ◌<◌, Bool, true, false, not, ◌&&◌, length, get_or, Some, None, Ok, refl}
use Rattle.std.proofs.lemmas.Bool.{lt-ltb}
use Rattle.rows.specs.declared.row.Row.{Row}
use Rattle.device.specs.States.{Slot, DeviceState, says, some_slot_takes}
use Rattle.device.specs.Answers.{with_slot, after_put, after_empty, read_answer, ask_answer}

pub put_left : (s : DeviceState) (i : ℕ) (r : Row) → i < length s.slots → r.care < 2 ^ s.width → with_slot s i (Some r) ≡ after_put s i r
put_left s i r h k = rw (lt-ltb i (length s.slots) h, lt-ltb r.care (2 ^ s.width) k)

pub empty_left : (s : DeviceState) (i : ℕ) → i < length s.slots → with_slot s i None ≡ after_empty s i
empty_left s i h = rw (lt-ltb i (length s.slots) h)

pub read_is : (s : DeviceState) (i : ℕ) (content : Slot) → i < length s.slots → content ≡ get_or s.slots i None → Ok content ≡ read_answer s i
read_is s i content h e = rw (lt-ltb i (length s.slots) h, e)

pub ask_is : (s : DeviceState) (x : ℕ) (said : Bool) → x < 2 ^ s.width → said ≡ says s x → Ok said ≡ ask_answer s x
ask_is s x said h e = rw (lt-ltb x (2 ^ s.width) h, e)

-- a way to say no, and the way to say yes
pub says_none : (s : DeviceState) (x : ℕ) → some_slot_takes s.slots x ≡ false → false ≡ says s x
says_none s x h = rw h (go s.muted)
  where
    go : (t : Bool) → false ≡ (not t && false)
    go true = refl
    go false = refl

pub says_some : (s : DeviceState) (x : ℕ) → s.muted ≡ false → some_slot_takes s.slots x ≡ true → true ≡ says s x
says_some s x m h = rw (m, h)
