-- What an edit within a hold keeps.
use Rattle.std.proofs.Common.{◌≡◌, ℕ, [], length, Result, sym, ◌∙◌, subst}
use Rattle.std.proofs.Math.Logic.{∥∥₁_elim}
use Rattle.std.proofs.Props.{props}
use Rattle.rows.specs.declared.refusal.Refusal.{Refusal}
use Rattle.device.specs.declared.device.RowDevice.{Ghosts}
use Rattle.device.specs.KeptBeside.{KeptBeside}
use Rattle.device.specs.KeptBesideLaws.{kept_on, kept_unwritten}
use Rattle.filter.specs.declared.filter.Filter.{Filter}
use Rattle.ledger.specs.Ledger.{Ledger}
use Rattle.ledger.specs.Steps.{hold_step}
use Rattle.filter.specs.StandsFor.{StandsFor, StandsForOne}
use Rattle.filter.specs.Writes.{edit_writes}
use Rattle.filter.proofs.Edited.{slots_known}
use Rattle.filter_calls.specs.declared.call.FilterCall.TheVariants.{Hold}
use Rattle.filter_calls.proofs.Written.{size_stays}

module _ {D : Type 0} (d : Ghosts D) (free held : Filter D) where
  -- the hold leaves as many slots
  as_many : StandsForOne d free → ((b : Ledger) → StandsFor d free b → StandsFor d held (hold_step b).1) → length (d.state held.device).slots ≡ length (d.state free.device).slots
  as_many one step =
      ∥∥₁_elim one (Prim.hlevel props) (λ p. slots_known d held (hold_step p.0).1 (step p.0 p.1) ∙ (size_stays p.0 Hold).slots ∙ sym (slots_known d free p.0 p.1))

  -- and neither it nor the release writes one
  pub kept_in_hold : (edited released : D) (answer reply : Result ℕ Refusal) → reply ≡ answer → StandsForOne d free →
      ((b : Ledger) → StandsFor d free b → StandsFor d held (hold_step b).1) → KeptBeside d free.device [] held.device →
      KeptBeside d held.device (edit_writes answer (length (d.state held.device).slots)) edited → KeptBeside d edited [] released →
      KeptBeside d free.device (edit_writes reply (length (d.state free.device).slots)) released
  kept_in_hold edited released answer reply same one step at_hold at_edit at_release =
      let writes = edit_writes answer (length (d.state held.device).slots) in
      let all = kept_unwritten d free.device edited released writes (kept_on d free.device held.device edited [] writes at_hold at_edit) at_release in
      subst (λ r. KeptBeside d free.device (edit_writes r (length (d.state free.device).slots)) released) (sym same)
      (subst (λ n. KeptBeside d free.device (edit_writes answer n) released) (as_many one step) all)
