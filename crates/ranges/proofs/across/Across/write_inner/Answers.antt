use Rattle.std.proofs.Common.{List, ◌++◌, length, sym, ap, ap₂, ◌∙◌, arith, length-append}
use Rattle.rows.specs.declared.row_words.RowWords.{RowWords}
use Rattle.ranges.specs.Building.{edge_words, zero_words}
use Rattle.ranges.proofs.Adding.{followed, longer}
use Rattle.ranges.proofs.AcrossLists.{inner_quarters_at}
use Rattle.ranges.proofs.across.Across.write_inner.Goals as goal

pub write-requires : goal.write-requires
write-requires c =
    let rest = c.args.rest in
    let all = inner_quarters_at c.args.self rest c.requires.split c.requires.first_digit c.requires.last_digit c.with_digits-lead.ensures.digits in
    let k = ap length all ∙ length-append (zero_words c.with_digits-lead.result rest) _ in
    let n = ap length c.from_first.ensures.words in
    let room = c.requires.room in
    record { room = omega arith }

pub write-requires-2 : goal.write-requires-2
write-requires-2 c =
    let rest = c.args.rest in
    let all = inner_quarters_at c.args.self rest c.requires.split c.requires.first_digit c.requires.last_digit c.with_digits-lead.ensures.digits in
    let k = ap length all ∙ length-append (zero_words c.with_digits-lead.result rest) _ in
    let n = ap length c.from_first.ensures.words in
    let m = ap length c.to_last.ensures.words in
    let room = c.requires.room in
    let more = longer c.args.rows.now.items (edge_words c.from_first.result) c.write.ensures.rows in
    record { room = omega arith }

pub returns : goal.returns
returns c =
    let rest = c.args.rest in
    let all = inner_quarters_at c.args.self rest c.requires.split c.requires.first_digit c.requires.last_digit c.with_digits-lead.ensures.digits in
    let low = c.from_first in
    let high = c.to_last in
    record { rows = followed c.args.rows.now.items (edge_words low.result) (edge_words high.result) c.write.ensures.rows c.write-2.ensures.rows (all ∙ ap₂ (λ (l h : List RowWords). l ++ h) (sym low.ensures.words) (sym high.ensures.words)) }
