use Rattle.std.proofs.Common.{[], ◌∷◌, ◌++◌, length, sym, ap, ◌∙◌, arith}
use Rattle.ranges.specs.Building.{edge_words}
use Rattle.ranges.proofs.Adding.{followed}
use Rattle.ranges.proofs.AcrossLists.{whole_at, from_zero_at}
use Rattle.ranges.proofs.SplitEnds.{at_top, below_top}
use Rattle.ranges.proofs.across.Across.write_from_zero.Goals as goal

pub returns-then-reaches_highest : goal.returns-then-reaches_highest
returns-then-reaches_highest c =
    let all = whole_at c.args.self c.requires.from_zero (at_top _ _ c.reaches_highest.ensures.value c.if-reaches_highest.true) in
    record { rows = c.push.ensures.items ∙ ap (λ l. c.args.rows.now.items ++ l) (sym all) }

pub write-requires : goal.write-requires
write-requires c =
    let k = ap length (from_zero_at c.args.self c.requires.from_zero (below_top _ _ c.reaches_highest.ensures.value c.if-reaches_highest.false)) in
    let n = ap length c.to_last.ensures.words in
    let room = c.requires.room in
    let more = c.push-else-reaches_highest.ensures.len in
    omega arith

pub returns-else-reaches_highest : goal.returns-else-reaches_highest
returns-else-reaches_highest c =
    let all = from_zero_at c.args.self c.requires.from_zero (below_top _ _ c.reaches_highest.ensures.value c.if-reaches_highest.false) in
    record {
      rows = followed c.args.rows.now.items (c.args.self.lead.zero.words ∷ []) (edge_words c.to_last.result) c.push-else-reaches_highest.ensures.items c.write.ensures.rows (all ∙ ap (λ l. c.args.self.lead.zero.words ∷ l) (sym c.to_last.ensures.words));
    }
