use Rattle.std.proofs.Common.{[], take, Ok, sym, refl, subst, arith}
use Rattle.std.proofs.lemmas.Result.{err_from_is_err_and}
use Rattle.console.specs.Sessions.{left_open}
use Rattle.console.proofs.Known.{keeps_same}
use Rattle.console.proofs.Loops.{run_begun, run_kept, read_nothing, read_failed, run_more, write_failed, no_read_failed, run_ended, run_stopped}
use Rattle.console.specs.Loops.{RunSoFar}
use Rattle.console.proofs.run.run.Goals.{in-Ok+in_ok-answer_piece-in-Ok+else-has_stopped, in-Err}
use Rattle.console.proofs.run.run.Goals as goal

pub loop-init : goal.loop-init
loop-init g c = run_begun (g.R.Read.remaining c.args.input.now) (g.W.Write.contents c.args.output.now) c.new-session.result c.new-session.ensures.begun

pub returns-in-Ok-eq0 : goal.returns-in-Ok-eq0
returns-in-Ok-eq0 g c =
    let a = g.R.Read.remaining c.args.input.now in
    let b = g.R.Read.remaining c.loop.input in
    let o = g.W.Write.contents c.args.output.now in
    let p = g.W.Write.contents c.loop.output in
    let before = c.loop.invariant in
    let left = g.R.Read.remaining c.read.new.self in
    let read = read_nothing b left c.read.result c.in-Ok-eq0.field-0 c.read.new.buf c.in-Ok-eq0.is c.in-Ok-eq0.field-0-test (grind arith) c.read.ensures.bytes in
    record {
      whole_else_failure_left_free = run_ended a b o p c.loop.session before left (g.W.Write.contents c.write_end.new.output) c.write_end.result read.0 read.1
          (c.write_end.ensures.ended before.taken.next (left_open [] before.read) before.taken.stands) c.write_end.ensures.by_writing;
    }

pub returns-in-Err-2 : goal.returns-in-Err-2
returns-in-Err-2 g c = record {
  whole_else_failure_left_free = read_failed (g.R.Read.remaining c.args.input.now) (g.R.Read.remaining c.loop.input) (g.W.Write.contents c.args.output.now) (g.W.Write.contents c.loop.output) c.loop.session c.loop.invariant
      (g.R.Read.remaining c.read.new.self) _ _ refl c.in-Err.ensures.bytes;
}

pub returns-in_err-answer_piece-in-Ok : goal.returns-in_err-answer_piece-in-Ok
returns-in_err-answer_piece-in-Ok g c =
    let a = g.R.Read.remaining c.args.input.now in
    let b = g.R.Read.remaining c.loop.input in
    let o = g.W.Write.contents c.args.output.now in
    let p = g.W.Write.contents c.loop.output in
    let before = c.loop.invariant in
    let q = err_from_is_err_and c.from_residual.result c.from_residual.ensures.1 in
    record {
      whole_else_failure_left_free = write_failed a b o p c.loop.session before (g.R.Read.remaining c.read.new.self) (g.W.Write.contents c.answer_piece.new.output) (take c.in-Ok.count c.read.new.buf) c.in-Ok.ensures.bytes.0
          c.answer_piece.result c.answer_piece.new.session (c.answer_piece.ensures.answered before.taken.next (left_open [] before.read) before.taken.stands) c.from_residual.result q.0 q.1
          (no_read_failed c.answer_piece.result c.from_residual.result q.0 _ c.in_err-answer_piece-in-Ok.was q.1 q.2 c.answer_piece.ensures.by_writing);
    }

pub returns-then-has_stopped : goal.returns-then-has_stopped
returns-then-has_stopped g c =
    let a = g.R.Read.remaining c.args.input.now in
    let b = g.R.Read.remaining c.loop.input in
    let o = g.W.Write.contents c.args.output.now in
    let p = g.W.Write.contents c.loop.output in
    let left = g.R.Read.remaining c.read.new.self in
    let now = g.W.Write.contents c.answer_piece.new.output in
    let before = c.loop.invariant in
    let answered = c.in_ok-answer_piece-in-Ok.ensures.answered before.taken.next (left_open [] before.read) before.taken.stands in
    let after = run_more a b o p c.loop.session before left now (take c.in-Ok.count c.read.new.buf) c.in-Ok.ensures.bytes.0 (Ok c.in_ok-answer_piece-in-Ok.field-0) c.answer_piece.new.session answered answered.all in
    record {
      whole_else_failure_left_free = run_stopped a left o now c.answer_piece.new.session after _ (c.if-has_stopped.ensures.value after.taken.next (left_open [] after.read) after.taken.stands);
    }

pub loop-preserved : goal.loop-preserved
loop-preserved g c =
    let a = g.R.Read.remaining c.args.input.now in
    let b = g.R.Read.remaining c.loop.input in
    let o = g.W.Write.contents c.args.output.now in
    let p = g.W.Write.contents c.loop.output in
    let left = g.R.Read.remaining c.read.new.self in
    let before = c.loop.invariant in
    elim c.match-read.branch [
      | in-Ok+in_ok-answer_piece-in-Ok+else-has_stopped w ↦
          let now = g.W.Write.contents w.answer_piece.new.output in
          let answered = w.in_ok-answer_piece-in-Ok.ensures.answered before.taken.next (left_open [] before.read) before.taken.stands in
          let after = run_more a b o p c.loop.session before left now (take w.in-Ok.count c.read.new.buf) w.in-Ok.ensures.bytes.0 (Ok w.in_ok-answer_piece-in-Ok.field-0) w.answer_piece.new.session answered answered.all in
          subst (λ t. RunSoFar g.D.RowDevice a left o (g.W.Write.contents t) c.match-read.session) (sym w.output-is)
          (subst (λ t. RunSoFar g.D.RowDevice a left o now t) (sym w.session-is) after)
      | in-Err w ↦
          subst (λ t. RunSoFar g.D.RowDevice a left o (g.W.Write.contents t) c.match-read.session) (sym w.output-is)
          (subst (λ t. RunSoFar g.D.RowDevice a left o p t) (sym w.session-is) (run_kept a b o p c.loop.session before left w.in-Err.ensures.bytes))
    ]

pub returns : goal.returns
returns g c =
    let b = g.R.Read.remaining c.loop.input in
    record {
      whole_else_failure_left_free = read_failed (g.R.Read.remaining c.args.input.now) b (g.W.Write.contents c.args.output.now) (g.W.Write.contents c.loop.output) c.loop.session c.loop.invariant b _ _ refl (keeps_same b);
    }
