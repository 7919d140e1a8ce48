use Rattle.std.proofs.Common.{◌≡◌, ◌-◌, [], ◌∷◌, length, sym, refl, ap, ◌∙◌, arith, rules}
use Rattle.covers.specs.Digits.{digit}
use Rattle.ranges.proofs.Adding.{moved}
use Rattle.ranges.proofs.SplitEnds.{first_one, last_one}
use Rattle.ranges.proofs.RunLists.{round_low_at, round_high_at}
use Rattle.ranges.proofs.stretch.Stretch.+write_round.Goals as goal

-- both ends begin with 0
pub returns-in-false-default : goal.returns-in-false-default
returns-in-false-default t c =
    let s = c.behind_first_digits-rest.ensures.split in
    let all = round_low_at c.args.self.now c.behind_first_digits-rest.result s c.with_digit-in-false-default.result c.with_digit-front-in-false-default.result c.requires.round (sym c.in-false-default.ensures.value) c.with_digit-in-false-default.ensures.extended c.with_digit-front-in-false-default.ensures.extended in
    record { rows = c.write_round-in-false-default.ensures.rows ∙ moved c.args.rows.now.items (c.with_digit-in-false-default.result.words ∷ []) _ c.push-in-false-default.ensures.items all; over = c.write_round-in-false-default.ensures.over }

-- both ends begin with 1
pub write_round-requires : goal.write_round-requires
write_round-requires t c =
    let s = c.behind_first_digits-rest.ensures.split in
    let all = round_high_at c.args.self.now c.behind_first_digits-rest.result s c.with_digit.result c.with_digit-front.result c.requires.round (sym c.in-true-true.ensures.value) (sym c.in-true-true.ensures'.value) c.with_digit.ensures.extended c.with_digit-front.ensures.extended in
    let k = ap length all in
    let p = s.places in
    let room = c.requires.room in
    let more = c.push.ensures.len in
    let o = c.requires.round in
    let f = first_one s (sym c.in-true-true.ensures.value) in
    let l = last_one s (sym c.in-true-true.ensures'.value) in
    (search rules, (omega arith, omega arith))

pub returns-in-true-true : goal.returns-in-true-true
returns-in-true-true t c =
    let s = c.behind_first_digits-rest.ensures.split in
    let all = round_high_at c.args.self.now c.behind_first_digits-rest.result s c.with_digit.result c.with_digit-front.result c.requires.round (sym c.in-true-true.ensures.value) (sym c.in-true-true.ensures'.value) c.with_digit.ensures.extended c.with_digit-front.ensures.extended in
    record { rows = c.write_round.ensures.rows ∙ moved c.args.rows.now.items (c.with_digit.result.words ∷ []) _ c.push.ensures.items all; over = c.write_round.ensures.over }

-- the run goes over the middle
pub returns-in-true-false : goal.returns-in-true-false
returns-in-true-false t c =
    let p = c.behind_first_digits-rest.ensures.split.places in
    let e : c.args.self.now.ends.places - 1 ≡ c.behind_first_digits-rest.result.places = omega arith in
    record {
      rows = refl;
      over = record {
        some = omega arith;
        first = ap (λ k. digit k c.args.self.now.ends.first) e ∙ sym c.in-true-false.ensures.value;
        last = ap (λ k. digit k c.args.self.now.ends.last) e ∙ sym c.in-true-false.ensures'.value;
      };
    }
