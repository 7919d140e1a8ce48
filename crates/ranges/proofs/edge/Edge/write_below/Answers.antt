use Rattle.std.proofs.Common.{◌≡◌, ℕ, ◌+◌, ◌^◌, ◌<◌, ◌++◌, pow_pos, length-append, arith}
use lib.Count.{ones}
use Rattle.arrayvec.specs.ArrayVec.{ArrayVec, array_vec_len}
use Rattle.rows.specs.declared.row_words.RowWords.{RowWords}
use Rattle.ranges.specs.declared.edge.Edge.{Edge}
use Rattle.ranges.specs.Building.{edge_words}
use Rattle.ranges.proofs.EdgeLists.{edge_count}
use Rattle.ranges.proofs.EdgeSteps.{Going, begun, some_left, all_done, left_within, first, row_fits, next}
use Rattle.ranges.proofs.FirstOne.{top_place}
use Rattle.ranges.proofs.edge.Edge.write_below.Goals as goal

pub loop-self-init : goal.loop-self-init
loop-self-init c = begun c.args.self c.requires.not_all c.args.rows.now.items

-- while the list is not full, ones are left
some : (s : Edge) (not_all : s.count < 2 ^ s.front.places) {left : ℕ} (old now : ArrayVec RowWords) → Going s left now.items (old.items ++ edge_words s) →
    (before after : ℕ) → before ≡ array_vec_len old → after ≡ array_vec_len now → after < before + ones s.count → 0 < left
some s not_all {left} old now going before after e f test =
    let long = length-append old.items (edge_words s) in
    let count = edge_count s in
    some_left s not_all going (omega arith)

pub overflow_sub-bit : goal.overflow_sub-bit
overflow_sub-bit c = let f = (first c.args.self c.requires.not_all c.loop-self.invariant (some c.args.self c.requires.not_all c.args.rows.now c.loop-self.rows c.loop-self.invariant c.len.result c.len-in-loop-self.result c.len.ensures.value c.len-in-loop-self.ensures.value c.loop-self-test.true)).counted in omega arith

pub overflow_sub-self : goal.overflow_sub-self
overflow_sub-self c = left_within c.args.self c.requires.not_all c.loop-self.invariant

pub row_for_one-requires-clause-within : goal.row_for_one-requires-clause-within
row_for_one-requires-clause-within c = row_fits c.args.self c.requires.not_all c.loop-self.invariant (some c.args.self c.requires.not_all c.args.rows.now c.loop-self.rows c.loop-self.invariant c.len.result c.len-in-loop-self.result c.len.ensures.value c.len-in-loop-self.ensures.value c.loop-self-test.true)

pub push-requires : goal.push-requires
push-requires c =
    let s = c.args.self in
    let count = edge_count s in
    let room = c.requires.room in
    let len = c.len.ensures.value in
    let now = c.len-in-loop-self.ensures.value in
    let test = c.loop-self-test.true in
    omega arith

pub overflow_sub-left : goal.overflow_sub-left
overflow_sub-left c = let f = first c.args.self c.requires.not_all c.loop-self.invariant (some c.args.self c.requires.not_all c.args.rows.now c.loop-self.rows c.loop-self.invariant c.len.result c.len-in-loop-self.result c.len.ensures.value c.len-in-loop-self.ensures.value c.loop-self-test.true) in let is = f.is in let from = f.from in omega arith

pub loop-self-smaller : goal.loop-self-smaller
loop-self-smaller c =
    let f = first c.args.self c.requires.not_all c.loop-self.invariant (some c.args.self c.requires.not_all c.args.rows.now c.loop-self.rows c.loop-self.invariant c.len.result c.len-in-loop-self.result c.len.ensures.value c.len-in-loop-self.ensures.value c.loop-self-test.true) in
    let is = f.is in
    let from = f.from in
    let one = pow_pos (top_place c.loop-self.left) in
    omega arith

pub loop-self-preserved : goal.loop-self-preserved
loop-self-preserved c = next c.args.self c.requires.not_all c.loop-self.invariant (some c.args.self c.requires.not_all c.args.rows.now c.loop-self.rows c.loop-self.invariant c.len.result c.len-in-loop-self.result c.len.ensures.value c.len-in-loop-self.ensures.value c.loop-self-test.true) c.row_for_one.ensures.value c.row_for_one.ensures.care c.push.ensures.items

pub returns : goal.returns
returns c =
    let s = c.args.self in
    let long = length-append c.args.rows.now.items (edge_words s) in
    let count = edge_count s in
    let len = c.len.ensures.value in
    let now = c.len-in-loop-self.ensures.value in
    let test = c.loop-self-test.false in
    record { rows = all_done s c.requires.not_all c.loop-self.invariant (omega arith) }
