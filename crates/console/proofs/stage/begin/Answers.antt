use Rattle.std.proofs.Common.{Some, None, sym, ◌∙◌, subst, arith}
use Rattle.std.proofs.lemmas.Result.{err_from_is_err_and}
use Rattle.lines.specs.Lines.{SetsUp}
use Rattle.rows.proofs.Widths.{places_some, places_most}
use Rattle.console.specs.SessionStands.{Begun}
use Rattle.console.specs.StandsFor.{ConsoleStands}
use Rattle.console.proofs.Stages.{kept_line}
use Rattle.console.proofs.FirstLine.{width_good, width_bad, blank_ledger}
use Rattle.console.proofs.stage.begin.Goals as goal

pub returns-in_err-setup : goal.returns-in_err-setup
returns-in_err-setup g c =
    let p = err_from_is_err_and c.from_residual-in_err-setup.result c.from_residual-in_err-setup.ensures.1 in
    record {
      begun = λ text e.
          let same = kept_line _ _ _ text c.ok_or.ensures.ok_part c.in_ok-line.was e in
          (None, (λ s m. let q = c.in_err-setup.ensures.accepted s (subst (λ t. SetsUp t s) same m) in grind arith), subst (Begun g.D.RowDevice None) (sym p.1) (p.2 ∙ c.in_err-setup.ensures.only));
    }

pub returns-in_err-width : goal.returns-in_err-width
returns-in_err-width g c =
    let p = err_from_is_err_and c.from_residual-in_err-width.result c.from_residual-in_err-width.ensures.1 in
    let s = c.in_ok-setup.setup in
    let no = c.in_err-width.ensures in
    record {
      begun = λ text e.
          let same = kept_line _ _ _ text c.ok_or.ensures.ok_part c.in_ok-line.was e in
          (Some s, subst (λ t. SetsUp t s) (sym same) c.in_ok-setup.ensures.only, subst (Begun g.D.RowDevice (Some s)) (sym p.1) (width_bad s no.1, p.2 ∙ no.0));
    }

pub returns : goal.returns
returns g c =
    let s = c.in_ok-setup.setup in
    let w = c.in_ok-width.width in
    let made = c.in_ok-width.ensures in
    let a = places_some w in
    let b = places_most w in
    record {
      begun = λ text e.
          let same = kept_line _ _ _ text c.ok_or.ensures.ok_part c.in_ok-line.was e in (
            Some s,
            subst (λ t. SetsUp t s) (sym same) c.in_ok-setup.ensures.only,
            (width_good s (omega arith) (omega arith), subst (ConsoleStands g.D.RowDevice c.open.result) (blank_ledger _ _ _ s.width 0 c.new.ensures.begins made) c.open.ensures.opened),
          );
    }
