use Rattle.device.specs.KeptBeside.{KeptBeside}
use Rattle.device.specs.KeptBesideLaws.{kept_at_rest}
use Rattle.std.proofs.Common.{[], sym, ap, ◌∙◌, subst}
use Rattle.filter.specs.Compared.{refusal_of}
use Rattle.ledger.specs.Ledger.{Ledger, freed}
use Rattle.filter.specs.StandsFor.{StandsFor}
use Rattle.filter_calls.specs.Promises.{PromiseKept}
use Rattle.filter_calls.proofs.Kept.{promise_kept}
use Rattle.filter_calls.proofs.Told.{after_granted_release, free}
use Rattle.filter_calls.proofs.player.Player.close.Goals as goal
use Rattle.filter_calls.proofs.player.Player.close.Goals.{in-Some, in_default}

pub returns : goal.returns
returns g c =
    let d = g.D.RowDevice in
    let own = c.args.self.filter in
    let last = c.match-token.filter in
    let device = c.into_device.ensures.device in
    -- the last filter stands for the ledger without its mark
    let released : (b : Ledger) → StandsFor d own b → StandsFor d last (freed b) = λ b s. elim c.match-token.branch [
      | in-Some w ↦
          let step = w.release.ensures.step b s in
          let after = after_granted_release b w.in-Some.token.tag (sym (ap refusal_of w.unwrap.ensures) ∙ step.0) in
          subst (λ f. StandsFor d f (freed b)) (sym w.filter-is) (subst (StandsFor d w.release.new.self) after step.1)
      | in_default w ↦
          let is_free = free own.held own.tag c.args.self.token w.in_default.is c.args.self.at_hand in
          let unmarked : StandsFor d own (freed b) = record { width = s.width; muted = s.muted ∙ sym s.held ∙ is_free; held = is_free; tag = s.tag; runs = s.runs; fit = s.fit; slots = s.slots } in
          subst (λ f. StandsFor d f (freed b)) (sym w.filter-is) unmarked
    ] in
    let beside : KeptBeside d own.device [] last.device = elim c.match-token.branch [
      | in-Some w ↦ subst (λ f. KeptBeside d own.device [] f.device) (sym w.filter-is) w.release.ensures.beside
      | in_default w ↦ subst (λ f. KeptBeside d own.device [] f.device) (sym w.filter-is) (kept_at_rest d own.device)
    ] in
    record {
      kept = λ b s. subst (λ v. PromiseKept (d.state v) (d.levels v) (freed b)) (sym device) (promise_kept d last (freed b) (released b s));
      beside = subst (KeptBeside d own.device []) (sym device) beside;
    }
