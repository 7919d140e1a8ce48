use Rattle.std.proofs.Common.{◌≡◌, ap, ◌∙◌, ◌+◌, take, drop, sym, subst, arith}
use Rattle.std.proofs.lemmas.Grind.{common_steps}
use Rattle.std.proofs.lemmas.List.{take_rest}
use Rattle.std.specs.Io.KnownBytes.{Appends}
use Rattle.console.proofs.Known.{take_two, appends_join, appends_kept}
use Rattle.console.proofs.run.write_bytes.Goals.{in-Ok, in-Err}
use Rattle.console.proofs.run.write_bytes.Goals as goal

pub loop-preserved : goal.loop-preserved
loop-preserved g c =
    let a = g.W.Write.contents c.args.output.now in
    let b = g.W.Write.contents c.loop.output in
    let n = g.W.Write.contents c.write.new.self in
    let old = c.loop.invariant in
    elim c.match-write.branch [
      | in-Ok w ↦
          let all = c.args.bytes.now in
          let more : c.match-write.count ≡ c.loop.count + w.in-Ok.more = w.count-is in (
            grind (arith, common_steps),
            subst (Appends a n) (sym (take_two c.loop.count w.in-Ok.more all old.0) ∙ ap (λ k. take k all) (sym more))
                (appends_join a b n (take c.loop.count all) (take w.in-Ok.more (drop c.loop.count all)) old.1
                (subst (λ t. Appends b n (take w.in-Ok.more t)) (take_rest all c.loop.count) w.in-Ok.ensures.bytes)),
          )
      | in-Err w ↦
          let same : c.match-write.count ≡ c.loop.count = w.count-is in (
            grind (arith, common_steps),
            subst (λ k. Appends a n (take k c.args.bytes.now)) (sym same) (appends_kept a b n (take c.loop.count c.args.bytes.now) old.1 w.in-Err.ensures.bytes),
          )
    ]
