use Rattle.std.proofs.Common.{List, [], ◌∷◌, ◌++◌, sym, refl, ap, ap₂, ◌∙◌, length, arith}
use Rattle.rows.specs.declared.row_words.RowWords.{RowWords}
use Rattle.ranges.specs.Building.{edge_words}
use Rattle.ranges.proofs.Adding.{followed, longer}
use Rattle.ranges.proofs.AcrossLists.{ends_apart_at, ends_apart_count}
use Rattle.ranges.proofs.across.Across.write_apart.Goals as goal

pub write-requires : goal.write-requires
write-requires c =
    let rest = c.args.rest in
    let k = ends_apart_count c.args.self rest c.requires.split c.requires.first_digit c.requires.last_digit c.requires.apart c.with_digits.ensures.digits in
    let n = ap length c.from_first.ensures.words in
    let room = c.requires.room in
    record { room = omega arith }

pub push-requires : goal.push-requires
push-requires c =
    let rest = c.args.rest in
    let k = ends_apart_count c.args.self rest c.requires.split c.requires.first_digit c.requires.last_digit c.requires.apart c.with_digits.ensures.digits in
    let n = ap length c.from_first.ensures.words in
    let room = c.requires.room in
    let more = longer c.args.rows.now.items (edge_words c.from_first.result) c.write.ensures.rows in
    omega arith

pub push-requires-2 : goal.push-requires-2
push-requires-2 c =
    let rest = c.args.rest in
    let k = ends_apart_count c.args.self rest c.requires.split c.requires.first_digit c.requires.last_digit c.requires.apart c.with_digits.ensures.digits in
    let n = ap length c.from_first.ensures.words in
    let room = c.requires.room in
    let more = longer c.args.rows.now.items (edge_words c.from_first.result) c.write.ensures.rows in
    let second = c.push.ensures.len in
    omega arith

pub write-requires-2 : goal.write-requires-2
write-requires-2 c =
    let rest = c.args.rest in
    let k = ends_apart_count c.args.self rest c.requires.split c.requires.first_digit c.requires.last_digit c.requires.apart c.with_digits.ensures.digits in
    let n = ap length c.from_first.ensures.words in
    let room = c.requires.room in
    let more = longer c.args.rows.now.items (edge_words c.from_first.result) c.write.ensures.rows in
    let second = c.push.ensures.len in
    let third = c.push-2.ensures.len in
    let m = ap length c.to_last.ensures.words in
    record { room = omega arith }

pub returns : goal.returns
returns c =
    let rest = c.args.rest in
    let low = c.from_first in
    let high = c.to_last in
    let second = c.with_digit.result.words in
    let third = c.with_digit-2.result.words in
    let all = ends_apart_at c.args.self rest c.requires.split c.requires.first_digit c.requires.last_digit c.requires.apart c.with_digits.ensures.digits c.with_digit.ensures.extended c.with_digit-2.ensures.extended in
    let behind_second = followed c.push.new.self.items (third ∷ []) (edge_words high.result) c.push-2.ensures.items c.write-2.ensures.rows refl in
    let behind_low = followed c.write.new.rows.items (second ∷ []) (third ∷ edge_words high.result) c.push.ensures.items behind_second refl in
    record {
      rows =
          followed c.args.rows.now.items (edge_words low.result) (second ∷ third ∷ edge_words high.result) c.write.ensures.rows behind_low
          (all ∙ ap₂ (λ (l h : List RowWords). l ++ second ∷ third ∷ h) (sym low.ensures.words) (sym high.ensures.words));
    }
