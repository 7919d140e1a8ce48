use Rattle.std.proofs.Common.{◌++◌, length, sym, ap, ◌∙◌, arith}
use Rattle.std.proofs.lemmas.Nat.{one_shl}
use Rattle.ranges.proofs.EdgeLists.{edge_all}
use Rattle.ranges.proofs.edge.Edge.write.Goals as goal

pub push-requires : goal.push-requires
push-requires c =
    let s = c.args.self in
    let k = ap length (edge_all s (c.if-self.true ∙ one_shl s.front.places 64 (omega arith))) in
    let room = c.requires.room in
    omega arith

pub returns-then-self : goal.returns-then-self
returns-then-self c =
    let s = c.args.self in
    let all = edge_all s (c.if-self.true ∙ one_shl s.front.places 64 (omega arith)) in
    record { rows = c.push.ensures.items ∙ ap (λ l. c.args.rows.now.items ++ l) (sym all) }
