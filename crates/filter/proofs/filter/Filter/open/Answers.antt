use Rattle.std.proofs.Common.{◌≡◌, ℕ, ◌-◌, length, false, ap, subst, ◌∙◌, arith}
use Rattle.std.specs.List.{range_with_len}
use Rattle.device.specs.KeptBeside.{KeptBeside}
use Rattle.device.specs.KeptBesideLaws.{kept_unwritten}
use Rattle.device.specs.Answers.{after_mute}
use Rattle.ledger.specs.Ledger.{opened}
use Rattle.filter.specs.Standing.{Standing}
use Rattle.filter.proofs.Opened.{stands_opened}
use Rattle.filter.proofs.filter.Filter.open.Given.{Over}
use Rattle.filter.proofs.filter.Filter.open.Goals as goal

stands : (g : Over) (c : goal.After-empty g) → Standing (g.D.RowDevice.state c.mute.new.self) c.empty.result false c.args.tag (opened (g.D.RowDevice.state c.args.device).width (length (g.D.RowDevice.state c.args.device).slots) c.args.tag)
stands g c = stands_opened (g.D.RowDevice.state c.args.device) _ c.empty.result c.args.tag (c.mute.ensures.after ∙ ap (λ s. after_mute s false) c.empty_from.ensures.after) c.empty.ensures.runs

pub invariant_of-result : goal.invariant_of-result
invariant_of-result g c = ∣ (opened (g.D.RowDevice.state c.args.device).width (length (g.D.RowDevice.state c.args.device).slots) c.args.tag, stands g c) ∣₁

pub returns-clause-beside : goal.returns-clause-beside
returns-clause-beside g c =
    let d = g.D.RowDevice in
    let count = length (d.state c.args.device).slots in
    let all : count - 0 ≡ count = omega arith in
    let emptied = subst (λ (k : ℕ). KeptBeside d c.args.device (range_with_len 0 k) c.empty_from.new.device) all c.empty_from.ensures.beside in
    kept_unwritten d c.args.device c.empty_from.new.device c.mute.new.self (range_with_len 0 count) emptied
    (record { own = c.mute.ensures.beside; ways = c.mute.ensures.same_ways })
