use Rattle.std.proofs.Common.{Ok, length, rules, subst}
use Rattle.device.specs.KeptBeside.{KeptBeside}
use Rattle.filter.specs.Writes.{edit_writes}
use Rattle.console.proofs.Written.{kept_in_hold}
use Rattle.console.proofs.console.Console.edit.Goals as goal

pub returns-in_err-rows-clause-beside : goal.returns-in_err-rows-clause-beside
returns-in_err-rows-clause-beside g c =
    let d = g.D.RowDevice in
    subst (λ v. KeptBeside d v.filter.device (edit_writes c.from_residual-in_err-rows.result (length (d.state v.filter.device).slots)) c.release.new.self.device) c.self.view_is
    (kept_in_hold d c.self.inside.filter c.hold.new.self _ _ c.edit-answer.result _ (search rules) c.hold.ensures.stood (λ b s. (c.hold.ensures.step b s).1) c.hold.ensures.beside
    c.edit-answer.ensures.beside c.release.ensures.beside)

pub returns-clause-beside : goal.returns-clause-beside
returns-clause-beside g c =
    let d = g.D.RowDevice in
    subst (λ v. KeptBeside d v.filter.device (edit_writes (Ok c.in_ok-rows.rows) (length (d.state v.filter.device).slots)) c.release.new.self.device) c.self.view_is
    (kept_in_hold d c.self.inside.filter c.hold.new.self _ _ c.edit-answer.result (Ok c.in_ok-rows.rows) (search rules) c.hold.ensures.stood (λ b s. (c.hold.ensures.step b s).1) c.hold.ensures.beside
    c.edit-answer.ensures.beside c.release.ensures.beside)
