use Rattle.std.proofs.Common.{[], ◌∷◌, length, sym, ap, ◌∙◌, arith, rules}
use Rattle.ranges.specs.Building.{edge_words}
use Rattle.ranges.proofs.Adding.{followed}
use Rattle.ranges.proofs.SplitEnds.{at_top, below_top}
use Rattle.ranges.proofs.AcrossLists.{to_highest_at, second_quarter_at, third_quarter_at, ends_overlap_at}
use Rattle.ranges.proofs.across.Across.+write.Goals as goal

pub write-requires : goal.write-requires
write-requires t c =
    let k = ap length (to_highest_at c.args.self.now c.if-ends-eq0.false (at_top _ _ c.reaches_highest.ensures.value c.if-reaches_highest.true)) in
    let n = ap length c.from_first.ensures.words in
    let room = c.requires.room in
    let more = c.push.ensures.len in
    omega arith

pub returns-then-reaches_highest : goal.returns-then-reaches_highest
returns-then-reaches_highest t c =
    let one = c.args.self.now.lead.one.words in
    let all = to_highest_at c.args.self.now c.if-ends-eq0.false (at_top _ _ c.reaches_highest.ensures.value c.if-reaches_highest.true) in
    record { rows = followed c.args.rows.now.items (one ∷ []) (edge_words c.from_first.result) c.push.ensures.items c.write.ensures.rows (all ∙ ap (λ l. one ∷ l) (sym c.from_first.ensures.words)) }

-- the third quarter is whole
pub write-requires-in-true-true : goal.write-requires-in-true-true
write-requires-in-true-true t c =
    let s = c.behind_first_digits-rest.ensures.split in
    let all = third_quarter_at c.args.self.now c.behind_first_digits-rest.result s c.inserted-lead.result c.with_digit.result c.if-ends-eq0.false (below_top _ _ c.reaches_highest.ensures.value c.if-reaches_highest.false)
    (sym c.in-true-true.ensures.value) (sym c.in-true-true.ensures'.value) c.with_digit.ensures.extended c.inserted-lead.ensures.inserted in
    let k = ap length all in
    let p = s.places in
    let room = c.requires.room in
    let more = c.push-in-true-true.ensures.len in
    (search rules, omega arith)

pub returns-in-true-true : goal.returns-in-true-true
returns-in-true-true t c =
    let s = c.behind_first_digits-rest.ensures.split in
    let all = third_quarter_at c.args.self.now c.behind_first_digits-rest.result s c.inserted-lead.result c.with_digit.result c.if-ends-eq0.false (below_top _ _ c.reaches_highest.ensures.value c.if-reaches_highest.false)
    (sym c.in-true-true.ensures.value) (sym c.in-true-true.ensures'.value) c.with_digit.ensures.extended c.inserted-lead.ensures.inserted in
    record { rows = followed c.args.rows.now.items (c.with_digit.result.words ∷ []) _ c.push-in-true-true.ensures.items c.write-in-true-true.ensures.rows all }

-- the second quarter is whole
pub write-requires-in-false-false : goal.write-requires-in-false-false
write-requires-in-false-false t c =
    let s = c.behind_first_digits-rest.ensures.split in
    let row = c.with_digit-in-false-false in
    let inner = c.inserted-lead-in-false-false in
    let all = second_quarter_at c.args.self.now c.behind_first_digits-rest.result s inner.result row.result c.if-ends-eq0.false (below_top _ _ c.reaches_highest.ensures.value c.if-reaches_highest.false)
    (sym c.in-false-false.ensures.value) (sym c.in-false-false.ensures'.value) row.ensures.extended inner.ensures.inserted in
    let k = ap length all in
    let p = s.places in
    let room = c.requires.room in
    let more = c.push-in-false-false.ensures.len in
    (search rules, omega arith)

pub returns-in-false-false : goal.returns-in-false-false
returns-in-false-false t c =
    let s = c.behind_first_digits-rest.ensures.split in
    let row = c.with_digit-in-false-false in
    let inner = c.inserted-lead-in-false-false in
    let all = second_quarter_at c.args.self.now c.behind_first_digits-rest.result s inner.result row.result c.if-ends-eq0.false (below_top _ _ c.reaches_highest.ensures.value c.if-reaches_highest.false)
    (sym c.in-false-false.ensures.value) (sym c.in-false-false.ensures'.value) row.ensures.extended inner.ensures.inserted in
    record { rows = followed c.args.rows.now.items (row.result.words ∷ []) _ c.push-in-false-false.ensures.items c.write-in-false-false.ensures.rows all }

-- the ends overlap
pub write-requires-in-false-true-2 : goal.write-requires-in-false-true-2
write-requires-in-false-true-2 t c =
    let s = c.behind_first_digits-rest.ensures.split in
    let row = c.with_digit-in-false-true-2 in
    let inner = c.widened-lead in
    let all = ends_overlap_at c.args.self.now c.behind_first_digits-rest.result s inner.result row.result c.if-ends-eq0.false (below_top _ _ c.reaches_highest.ensures.value c.if-reaches_highest.false)
    (sym c.in-false-true.ensures.value) (sym c.in-false-true.ensures'.value) c.if-rest.false row.ensures.extended inner.ensures.widened in
    let k = ap length all in
    let p = s.places in
    let room = c.requires.room in
    let more = c.push-in-false-true-2.ensures.len in
    (search rules, omega arith)

pub returns-in-false-true-2 : goal.returns-in-false-true-2
returns-in-false-true-2 t c =
    let s = c.behind_first_digits-rest.ensures.split in
    let row = c.with_digit-in-false-true-2 in
    let inner = c.widened-lead in
    let all = ends_overlap_at c.args.self.now c.behind_first_digits-rest.result s inner.result row.result c.if-ends-eq0.false (below_top _ _ c.reaches_highest.ensures.value c.if-reaches_highest.false)
    (sym c.in-false-true.ensures.value) (sym c.in-false-true.ensures'.value) c.if-rest.false row.ensures.extended inner.ensures.widened in
    record { rows = followed c.args.rows.now.items (row.result.words ∷ []) _ c.push-in-false-true-2.ensures.items c.write-in-false-true-2.ensures.rows all }
