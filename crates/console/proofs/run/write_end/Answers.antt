use Rattle.std.proofs.Common.{◌≡◌, suc, ◌+◌, ◌≤◌, [], length, subst, arith}
use Rattle.std.proofs.lemmas.Result.{err_from_is_err_and}
use Rattle.console.specs.Sessions.{closing_lines}
use Rattle.console.specs.SessionStands.{printed}
use Rattle.console.proofs.Few.{few_closing}
use Rattle.console.proofs.Loops.{whole_written, ClosedTo, closed_none, closed_more, closed_all, end_failed, closing_failed}
use Rattle.console.proofs.run.write_end.Goals as goal

pub returns-in_err-write_line-clause-ended : goal.returns-in_err-write_line-clause-ended
returns-in_err-write_line-clause-ended g c =
    let a = g.W.Write.contents c.args.output.now in
    let b = g.W.Write.contents c.write_line.new.output in
    let p = err_from_is_err_and c.from_residual.result c.from_residual.ensures.1 in
    let w = c.write_line.ensures.written in
    λ stage line k.
    end_failed a stage line b c.end_input.new.self (printed c.end_input.result) c.from_residual.result p.0 w.count p.1 (c.end_input.ensures.ended stage line k) w.appended

pub loop-index-init : goal.loop-index-init
loop-index-init g c stage line k =
    let a = g.W.Write.contents c.args.output.now in
    let b = g.W.Write.contents c.write_line.new.output in
    let out = printed c.end_input.result in
    let w = c.in_ok-write_line.ensures.written in
    closed_none a stage line b c.end_input.new.self out (c.end_input.ensures.ended stage line k) (whole_written a b out _ w w.all)

pub returns-in_err-write_line-2-clause-ended : goal.returns-in_err-write_line-2-clause-ended
returns-in_err-write_line-2-clause-ended g c =
    let a = g.W.Write.contents c.args.output.now in
    let b = g.W.Write.contents c.loop-index.output in
    let d = g.W.Write.contents c.write_line-in-loop-index.new.output in
    let result = c.from_residual-in_err-write_line-2.result in
    let p = err_from_is_err_and result c.from_residual-in_err-write_line-2.ensures.1 in
    let w = c.write_line-in-loop-index.ensures.written in
    λ stage line k.
    let before = c.loop-index.invariant stage line k in
    closing_failed a stage line b d c.loop-index.index c.end_input.new.self before c.closing_line.result
    (c.closing_line.ensures.line before.taken.next [] before.taken.stands) result p.0 w.count p.1 w.appended

pub loop-index-preserved : goal.loop-index-preserved
loop-index-preserved g c stage line k =
    let a = g.W.Write.contents c.args.output.now in
    let b = g.W.Write.contents c.loop-index.output in
    let d = g.W.Write.contents c.write_line-in-loop-index.new.output in
    let w = c.in_ok-write_line-2.ensures.written in
    let before = c.loop-index.invariant stage line k in
    let next : suc c.loop-index.index ≡ c.loop-index.index + 1 = omega arith in
    subst (λ i. ClosedTo g.D.RowDevice a d stage line i c.end_input.new.self) next
    (closed_more a stage line b d c.loop-index.index c.end_input.new.self before c.closing_line.result
    (c.closing_line.ensures.line before.taken.next [] before.taken.stands) (whole_written b d (printed c.closing_line.result) _ w w.all))

pub returns-clause-ended : goal.returns-clause-ended
returns-clause-ended g c =
    let a = g.W.Write.contents c.args.output.now in
    let b = g.W.Write.contents c.loop-index.output in
    let d = g.W.Write.contents c.flush.new.self in
    λ stage line k.
    let before = c.loop-index.invariant stage line k in
    let few = few_closing g.D.RowDevice c.end_input.new.self.stage before.taken.next before.taken.stands.at_stage in
    let over = c.loop-index-test.false in
    let done : length (closing_lines before.taken.next) ≤ c.loop-index.index = omega arith in
    closed_all a stage line b d c.loop-index.index c.end_input.new.self c.map_err.result before done c.flush.ensures.bytes
