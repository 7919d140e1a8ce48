use Rattle.device.specs.KeptBeside.{KeptBeside}
use Rattle.std.proofs.Common.{[], sym, ap, ◌∙◌, subst}
use Rattle.ledger.specs.Ledger.{freed}
use Rattle.filter.specs.Compared.{refusal_of}
use Rattle.filter.specs.StandsFor.{StandsFor}
use Rattle.filter_calls.specs.Promises.{PromiseKept}
use Rattle.filter_calls.proofs.Kept.{promise_kept}
use Rattle.filter_calls.proofs.Told.{after_granted_release}
use Rattle.filter_calls.proofs.foreign.HeldFilter.let_go.Goals as goal

pub returns : goal.returns
returns g c =
    let d = g.D.RowDevice in
    let last = c.release.new.self in
    let device = c.into_device.ensures.device in
    record {
      kept = λ b s.
          -- the released filter stands for the ledger without its mark
          let step = c.release.ensures.step b s in
          let released = subst (StandsFor g.D.RowDevice last) (after_granted_release b c.args.self.token.tag (sym (ap refusal_of c.unwrap.ensures) ∙ step.0)) step.1 in
          subst (λ v. PromiseKept (d.state v) (d.levels v) (freed b)) (sym device) (promise_kept d last (freed b) released);
      beside = subst (KeptBeside d c.args.self.filter.device []) (sym device) c.release.ensures.beside;
    }
