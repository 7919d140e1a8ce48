-- Slots written one after the other, and what stays meanwhile.
use Rattle.std.proofs.Common.{◌≡◌, ℕ, zero, suc, ◌+◌, ◌^◌, ◌<◌, List, [], ◌∷◌, ◌++◌, length, Ok, Result, ap, ap₂, ◌∙◌, arith}
use Rattle.std.specs.List.{range_with_len}
use Rattle.std.proofs.lemmas.Bool.{lt-ltb}
use Rattle.rows.specs.declared.refusal.Refusal.{Refusal}
use Rattle.rows.specs.declared.row.Row.{Row}
use Rattle.device.specs.declared.device.RowDevice.{Ghosts}
use Rattle.device.specs.States.{DeviceState}
use Rattle.device.specs.Answers.{put_answer, empty_answer, written_by}
use Rattle.device.specs.Levels.{carryings}
use Rattle.device.specs.KeptBeside.{KeptBeside}
use Rattle.device.specs.KeptBesideLaws.{kept_at_rest, kept_on}

-- slots one after the other, and those after them
pub slots_on : (a m n : ℕ) → range_with_len a m ++ range_with_len (a + m) n ≡ range_with_len a (m + n)
slots_on a zero n = ap₂ range_with_len (omega arith) (omega arith)
slots_on a (suc m) n =
    let here : a + suc m ≡ (a + 1) + m = omega arith in
    let long : suc (m + n) ≡ suc m + n = omega arith in
    ap (λ (l : List ℕ). a ∷ l) (ap (λ (k : ℕ). range_with_len (a + 1) m ++ range_with_len k n) here ∙ slots_on (a + 1) m n) ∙ ap (range_with_len a) long

pub put_granted : (s : DeviceState) (slot : ℕ) (row : Row) → slot < length s.slots → row.care < 2 ^ s.width → put_answer s slot row ≡ Ok tt
put_granted s slot row h k = rw (lt-ltb slot (length s.slots) h, lt-ltb row.care (2 ^ s.width) k)

pub empty_granted : (s : DeviceState) (slot : ℕ) → slot < length s.slots → empty_answer s slot ≡ Ok tt
empty_granted s slot h = rw (lt-ltb slot (length s.slots) h)

module _ {D : Type 0} (d : Ghosts D) where
  -- nothing written yet
  pub kept_first : (a : D) (from : ℕ) → KeptBeside d a (range_with_len from 0) a
  kept_first a from = kept_at_rest d a

  -- one slot more
  pub kept_one_more : (a b c : D) (from count slot : ℕ) (r : Result (Unit {0}) Refusal) → KeptBeside d a (range_with_len from count) b →
      slot ≡ from + count → r ≡ Ok tt → d.keeps b (written_by slot r) c → carryings (d.levels c) ≡ carryings (d.levels b) →
      KeptBeside d a (range_with_len from (count + 1)) c
  kept_one_more a b c from count slot r h at granted k ways =
      let step : KeptBeside d b (slot ∷ []) c = record { own = rw granted at k; ways = ways } in
      rw (← slots_on from count 1, ← at) (kept_on d a b c (range_with_len from count) (slot ∷ []) h step)

  -- some slots, and then those after them
  pub kept_after : (a b c : D) (from count more : ℕ) → KeptBeside d a (range_with_len from count) b → KeptBeside d b (range_with_len (from + count) more) c →
      KeptBeside d a (range_with_len from (count + more)) c
  kept_after a b c from count more h k = rw (← slots_on from count more) (kept_on d a b c (range_with_len from count) (range_with_len (from + count) more) h k)
