use Rattle.std.proofs.lemmas.Result.{err_from_is_err_and}
use Rattle.console.specs.SessionStands.{printed}
use Rattle.console.proofs.Loops.{whole_written, piece_more, piece_failed, piece_all}
use Rattle.console.proofs.run.answer_piece.Goals as goal

pub returns-in_err-write_line-clause-answered : goal.returns-in_err-write_line-clause-answered
returns-in_err-write_line-clause-answered g c =
    let a = g.W.Write.contents c.args.output.now in
    let b = g.W.Write.contents c.loop-byte.output in
    let d = g.W.Write.contents c.write_line.new.output in
    let p = err_from_is_err_and c.from_residual.result c.from_residual.ensures.1 in
    let w = c.write_line.ensures.written in
    λ stage line k.
    piece_failed g.D.RowDevice a stage line c.args.piece.now b d c.loop-byte.byte-index c.loop-byte.session c.take_byte.new.self (printed c.take_byte.result)
    (c.loop-byte.invariant stage line k) c.loop-byte-test.true c.take_byte.ensures.taken c.from_residual.result p.0 w.count p.1 w.appended

pub loop-byte-preserved : goal.loop-byte-preserved
loop-byte-preserved g c stage line k =
    let a = g.W.Write.contents c.args.output.now in
    let b = g.W.Write.contents c.loop-byte.output in
    let d = g.W.Write.contents c.write_line.new.output in
    let out = printed c.take_byte.result in
    let w = c.in_ok-write_line.ensures.written in
    piece_more g.D.RowDevice a stage line c.args.piece.now b d c.loop-byte.byte-index c.loop-byte.session c.take_byte.new.self out
    (c.loop-byte.invariant stage line k) c.loop-byte-test.true c.take_byte.ensures.taken (whole_written b d out _ w w.all)

pub returns-clause-answered : goal.returns-clause-answered
returns-clause-answered g c =
    let a = g.W.Write.contents c.args.output.now in
    let b = g.W.Write.contents c.loop-byte.output in
    let d = g.W.Write.contents c.flush.new.self in
    λ stage line k.
    piece_all g.D.RowDevice a stage line c.args.piece.now b d c.loop-byte.byte-index c.loop-byte.session c.map_err.result (c.loop-byte.invariant stage line k) c.loop-byte-test.false c.flush.ensures.bytes
