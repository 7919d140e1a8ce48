-- A filter that was just opened, and one whose mute was turned.
use Rattle.std.proofs.Common.{◌≡◌, ℕ, ◌-◌, Bool, false, [], ◌++◌, map, length, replicate, None, sym, refl, ap, ◌∙◌, arith}
use Rattle.covers.specs.Symbols.{Symbols}
use Rattle.std.specs.Prelude.{List}
use Rattle.device.specs.States.{DeviceState}
use Rattle.device.specs.Answers.{after_mute}
use Rattle.run_table.specs.declared.table.RunTable.{RunTable}
use Rattle.run_table.specs.Tables.{table_runs}
use Rattle.ledger.specs.Ledger.{Ledger, opened, mute_left, slot_with}
use Rattle.circle.proofs.Rows.{no_runs, no_rows}
use Rattle.filter.specs.Placement.{emptied}
use Rattle.filter.specs.Standing.{Standing}

-- a device that was emptied, with the mute that the ledger leaves, stands for a ledger that was just opened
pub stands_opened : (s new : DeviceState) (t : RunTable) (tag : ℕ) → new ≡ after_mute (emptied s 0) (mute_left (opened s.width (length s.slots) tag)) → table_runs t ≡ [] →
    Standing new t false tag (opened s.width (length s.slots) tag)
stands_opened s new t tag e none =
    let rows = no_rows s.width in
    record {
      width = ap (λ v. v.width) e;
      muted = ap (λ v. v.muted) e;
      held = refl;
      tag = refl;
      runs = none ∙ sym (no_runs s.width);
      fit = let k = ap length rows in omega arith;
      slots = ap (λ v. v.slots) e ∙ sym (ap (λ (l : List Symbols). map slot_with l ++ replicate (length s.slots - length l) None) rows);
    }

-- with the mark turned, and the mute that it leaves then, it stands for the ledger whose mark is turned
pub stands_marked : (s : DeviceState) (t : RunTable) (held : Bool) (tag : ℕ) (b : Ledger) → Standing s t held tag b → (mark : Bool) (new : DeviceState) →
    new ≡ after_mute s (mute_left (record b { held = mark })) →
    Standing new t mark tag (record b { held = mark })
stands_marked s t held tag b stands mark new e = record {
  width = ap (λ v. v.width) e ∙ stands.width;
  muted = ap (λ v. v.muted) e;
  held = refl;
  tag = stands.tag;
  runs = stands.runs;
  fit = stands.fit;
  slots = ap (λ v. v.slots) e ∙ stands.slots;
}
