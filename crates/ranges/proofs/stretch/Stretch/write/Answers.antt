use Rattle.std.proofs.Common.{◌≡◌, ◌++◌, map, length, sym, ap, ap₂, ◌∙◌, length-append, arith}
use Rattle.ranges.specs.Building.{across_rows, behind_lead, stretch_words}
use Rattle.ranges.proofs.RunLists.{over_across, straight_across, stretch_straight, stretch_round}
use Rattle.ranges.proofs.stretch.Stretch.write.Goals as goal
use Rattle.ranges.proofs.stretch.Stretch.write.Goals.{then-self+else-ends-eq0, else-self}

-- what is there and the range across are the whole list
whole : (c : goal.After-write-arg-1) → c.if-self.rows.items ++ map (behind_lead c.if-self.across.0) (across_rows c.if-self.across.1.0.places c.if-self.across.1.0.first c.if-self.across.1.0.last) ≡ c.args.rows.now.items ++ stretch_words c.args.self.now
whole c = elim c.if-self.branch [
  | then-self+else-ends-eq0 w ↦
      let b = w.behind_shared_digits in
      let all = b.ensures.same ∙ straight_across b.result w.behind_first_digits-ends.result w.behind_first_digits-ends.ensures.split w.behind-lead.result b.ensures.parted w.behind-lead.ensures.begun in
      ap₂ (λ r a. r.items ++ map (behind_lead a.0) (across_rows a.1.0.places a.1.0.first a.1.0.last)) w.rows-is w.across-is ∙
      ap (λ l. c.args.rows.now.items ++ l) (sym all ∙ sym (stretch_straight c.args.self.now w.if-self.true))
  | else-self w ↦
      ap₂ (λ r a. r.items ++ map (behind_lead a.0) (across_rows a.1.0.places a.1.0.first a.1.0.last)) w.rows-is w.across-is ∙
      ap (λ l. w.write_round.new.rows.items ++ l) (sym (over_across w.write_round.new.self w.behind_first_digits-ends-else-self.result w.behind_first_digits-ends-else-self.ensures.split w.behind-lead-else-self.result w.write_round.ensures.over w.behind-lead-else-self.ensures.begun)) ∙
      w.write_round.ensures.rows ∙ ap (λ l. c.args.rows.now.items ++ l) (sym (stretch_round c.args.self.now w.if-self.false))
]

pub write-requires : goal.write-requires
write-requires c =
    let k = ap length (whole c) in
    let room = c.requires.room in
    let a = length-append c.if-self.rows.items (map (behind_lead c.if-self.across.0) (across_rows c.if-self.across.1.0.places c.if-self.across.1.0.first c.if-self.across.1.0.last)) in
    let b = length-append c.args.rows.now.items (stretch_words c.args.self.now) in
    record { room = omega arith }

pub returns : goal.returns
returns c = record { rows = c.write.ensures.rows ∙ whole c.before }
