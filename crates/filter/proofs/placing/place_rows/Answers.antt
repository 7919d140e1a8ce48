use Rattle.std.proofs.Common.{◌≡◌, ℕ, ◌+◌, ◌-◌, List, map, length, ap, ◌∙◌, subst, take_all, arith}
use Rattle.std.specs.List.{range_with_len}
use Rattle.rows.specs.declared.row_words.RowWords.{RowWords}
use Rattle.device.specs.KeptBeside.{KeptBeside}
use Rattle.device.specs.States.{DeviceState}
use Rattle.device.specs.Answers.{put_answer, after_put}
use Rattle.rows.proofs.MadeRows.{is_made}
use Rattle.filter.specs.Placement.{emptied, slot_read, with_slots}
use Rattle.filter.proofs.Putting.{placed, put_more, put_none, row_granted, size_put}
use Rattle.filter.proofs.Written.{kept_after, kept_first, kept_one_more}
use Rattle.filter.proofs.placing.place_rows.Goals as goal

pub loop-slot-init : goal.loop-slot-init
loop-slot-init g c = (put_none (g.D.RowDevice.state c.args.device.now), kept_first g.D.RowDevice c.args.device.now 0)

pub loop-slot-preserved : goal.loop-slot-preserved
loop-slot-preserved g c =
    let d = g.D.RowDevice in
    let s = d.state c.args.device.now in
    let slot = c.loop-slot.slot in
    let rows = c.args.rows.now in
    let row = c.from.result in
    let made = is_made row _ _ c.from.ensures.0 c.from.ensures.1 in
    let granted =
    c.put.ensures.answer ∙ ap (λ t. put_answer t slot row) c.loop-slot.invariant.0 ∙
    row_granted s slot rows _ row c.requires.of_width c.requires.fit c.loop-slot-test.true made in (
      c.put.ensures.after ∙ ap (λ t. after_put t slot row) c.loop-slot.invariant.0 ∙
          put_more s slot rows _ row c.requires.of_width c.requires.fit c.loop-slot-test.true made,
      kept_one_more d c.args.device.now c.loop-slot.device c.put.new.self 0 slot slot c.put.result c.loop-slot.invariant.1 (omega arith) granted c.put.ensures.beside c.put.ensures.same_ways,
    )

pub returns : goal.returns
returns g c =
    let d = g.D.RowDevice in
    let s = d.state c.args.device.now in
    let rows = c.args.rows.now in
    let device = c.loop-slot.device in
    let now = c.loop-slot.invariant in
    let all = take_all c.loop-slot.slot rows (omega arith) in
    let put : d.state device ≡ with_slots s (map slot_read rows) = now.0 ∙ ap (λ (l : List RowWords). with_slots s (map slot_read l)) all in
    let size : length (d.state device).slots ≡ length s.slots = ap (λ (t : DeviceState). length t.slots) put ∙ size_put s rows c.requires.fit in
    let left = length (d.state device).slots - length rows in
    let whole : length rows + left ≡ length s.slots = let room = c.requires.fit in omega arith in
    let first = subst (λ (k : ℕ). KeptBeside d c.args.device.now (range_with_len 0 k) device) (omega arith) now.1 in
    let rest = subst (λ (k : ℕ). KeptBeside d device (range_with_len k left) c.empty_from.new.device) (omega arith) c.empty_from.ensures.beside in
    record {
      after = c.empty_from.ensures.after ∙ ap (λ (t : DeviceState). emptied t (length rows)) put ∙ placed s rows c.requires.fit;
      beside =
          subst (λ (k : ℕ). KeptBeside d c.args.device.now (range_with_len 0 k) c.empty_from.new.device) whole
          (kept_after d c.args.device.now device c.empty_from.new.device 0 (length rows) left first rest);
    }
