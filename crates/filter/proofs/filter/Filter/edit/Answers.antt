use Rattle.std.proofs.Common.{◌≡◌, ◌^◌, ◌<◌, Ok, Err, length, drop, sym, refl, ap, ◌∙◌, subst, arith}
use Rattle.std.specs.List.{AllByRecursion}
use Rattle.std.proofs.lemmas.Result.{err_from_is_err_and}
use Rattle.std.proofs.lemmas.Bool.{both_ways}
use Rattle.std.proofs.Math.Logic.{∥∥₁_map}
use Rattle.rows.specs.Widths.{places_of}
use Rattle.device.specs.KeptBeside.{KeptBeside}
use Rattle.device.specs.KeptBesideLaws.{kept_at_rest}
use Rattle.ranges.specs.SeveralRanges.{RowsAdded}
use Rattle.ranges.proofs.SeveralLists.{made_alone, refused_alone}
use Rattle.ledger.specs.Ledger.{Ledger}
use Rattle.ledger.specs.Steps.{with_edit}
use Rattle.ledger.proofs.Edits.{after_refused, after_granted}
use Rattle.filter.specs.Standing.{Standing}
use Rattle.filter.specs.StandsFor.{StandsFor}
use Rattle.filter.specs.Writes.{all_slots}
use Rattle.filter.proofs.Edited.{token_fitting, edit_made, rows_made, rows_refused, table_refuses}
use Rattle.filter.proofs.Seen.{seen}
use Rattle.filter.proofs.filter.Filter.edit.Goals as goal

pub returns-in_err-runs : goal.returns-in_err-runs
returns-in_err-runs g c =
    let d = g.D.RowDevice in
    let self = c.args.self.now in
    let within = seen c.self.inside in
    let tag = c.args.token.now.tag in
    let e = c.args.edit in
    let p = err_from_is_err_and c.from_residual.result c.from_residual.ensures.1 in
    let was = c.in_err-runs.was in
    let is : c.after_edit.result ≡ Err p.0 = cc in
    record {
      step = λ b s.
          let t = subst (λ f. StandsFor d f b) (sym c.self.view_is) s in
          let fits = token_fitting d self b s tag (sym c.held_by.ensures.value ∙ c.if-not-held_by.false) in
          let said = table_refuses d within b t tag e fits (places_of c.width-width.result) c.width-width.ensures.answer c.after_edit.result
          c.after_edit.ensures.answer_else_left_free c.after_edit.ensures.outside p.0 is in
          (p.1 ∙ sym said, subst (StandsFor d self) (sym (after_refused b tag e p.0 said)) s);
      untouched_when_refused = λ _. refl;
      hold_stays = (refl, refl);
      beside = rw p.1 (kept_at_rest d self.device);
      stood = c.held_by.ensures.stands;
    }

pub returns-in_err-add_rows_of_runs : goal.returns-in_err-add_rows_of_runs
returns-in_err-add_rows_of_runs g c =
    let d = g.D.RowDevice in
    let self = c.args.self.now in
    let within = seen c.self.inside in
    let tag = c.args.token.now.tag in
    let e = c.args.edit in
    let p = err_from_is_err_and c.from_residual-in_err-add_rows_of_runs.result c.from_residual-in_err-add_rows_of_runs.ensures.1 in
    let was = c.in_err-add_rows_of_runs.was in
    let is : c.add_rows_of_runs.result ≡ Err p.0 = cc in
    record {
      step = λ b s.
          let t = subst (λ f. StandsFor d f b) (sym c.self.view_is) s in
          let fits = token_fitting d self b s tag (sym c.held_by.ensures.value ∙ c.if-not-held_by.false) in
          let n = places_of c.width-width.result in
          let table = c.after_edit.ensures in
          let made = rows_made d within b t tag e fits n c.width-width.ensures.answer c.after_edit.result table.answer_else_left_free table.outside c.in_ok-runs.runs c.in_ok-runs.was
          c.runs.result.now c.runs.ensures.value c.slot_count.result (Err p.0)
          (λ S of. refused_alone _ c.slot_count.result c.new-rows.result c.add_rows_of_runs.new.rows c.new-rows.ensures p.0 (subst (RowsAdded _ c.slot_count.result c.new-rows.result c.add_rows_of_runs.new.rows) is (c.add_rows_of_runs.ensures.of_set S of))) in
          let over = made in
          let slots = c.slot_count.ensures.answer in
          let few = (d.lawful within.device).few_slots in
          let refused = rows_refused d within b t tag e fits n c.width-width.ensures.answer c.after_edit.result table.answer_else_left_free table.outside c.in_ok-runs.runs c.in_ok-runs.was
          (let long = over.1 in omega arith) in
          let said = refused ∙ ap Err (sym over.0) in
          (p.1 ∙ sym said, subst (StandsFor d self) (sym (after_refused b tag e p.0 said)) s);
      untouched_when_refused = λ _. refl;
      hold_stays = (refl, refl);
      beside = rw p.1 (kept_at_rest d self.device);
      stood = c.held_by.ensures.stands;
    }

pub place_rows-requires : goal.place_rows-requires
place_rows-requires g c =
    let its_width = c.width-width.ensures.answer in
    let room = c.slot_count.ensures.answer in
    let few = c.in_ok-add_rows_of_runs.ensures.few in
    let none = ap length c.new-rows.ensures in
    let long = ap length c.deref.ensures.0 in
    record {
      of_width =
          subst (AllByRecursion (λ w. w.care < 2 ^ (g.D.RowDevice.state c.self.inside.device).width)) (sym c.deref.ensures.0)
          (subst (λ k. AllByRecursion (λ w. w.care < 2 ^ k) c.add_rows_of_runs.new.rows.items) its_width (subst (λ l. AllByRecursion (λ w. w.care < 2 ^ places_of c.width-width.result) (drop (length l) c.add_rows_of_runs.new.rows.items)) c.new-rows.ensures c.in_ok-add_rows_of_runs.ensures.of_width));
      fit = omega arith;
    }

pub invariant_of-self : goal.invariant_of-self
invariant_of-self g c =
    let d = g.D.RowDevice in
    let self = c.args.self.now in
    let within = seen c.self.inside in
    let e = c.args.edit in
    let table = c.after_edit.ensures in
    let room = c.slot_count.ensures.answer in
    let few = c.in_ok-add_rows_of_runs.ensures.few in
    let none = ap length c.new-rows.ensures in
    let long = ap length c.deref.ensures.0 in
    let now = λ (b : Ledger) (s : StandsFor d within b).
    edit_made d within b s c.args.token.now.tag e
    (token_fitting d self b (subst (λ f. StandsFor d f b) c.self.view_is s) c.args.token.now.tag (sym c.held_by.ensures.value ∙ c.if-not-held_by.false)) (places_of c.width-width.result) c.width-width.ensures.answer
    c.after_edit.result table.answer_else_left_free table.outside c.in_ok-runs.runs c.in_ok-runs.was c.runs.result.now c.runs.ensures.value c.slot_count.result (Ok c.add_rows_of_runs.new.rows) (λ S of. made_alone _ c.slot_count.result c.new-rows.result c.add_rows_of_runs.new.rows c.new-rows.ensures (c.in_ok-add_rows_of_runs.ensures.of_set S of))
    c.add_rows_of_runs.new.rows refl c.deref.result.now c.deref.ensures.0 (omega arith) (d.state c.place_rows.new.device) c.place_rows.ensures.after in
    ∥∥₁_map c.self.invariant (λ p. (with_edit p.0 e, (now p.0 p.1).1))

pub returns : goal.returns
returns g c =
    let d = g.D.RowDevice in
    let self = c.args.self.now in
    let within = seen c.self.inside in
    let tag = c.args.token.now.tag in
    let e = c.args.edit in
    let table = c.after_edit.ensures in
    let room = c.slot_count.ensures.answer in
    let few = c.in_ok-add_rows_of_runs.ensures.few in
    let none = ap length c.new-rows.ensures in
    let long = ap length c.deref.ensures.0 in
    let after = c.place_rows.new.device in
    record {
      step = λ b s.
          let now =
          edit_made d within b (subst (λ f. StandsFor d f b) (sym c.self.view_is) s) tag e (token_fitting d self b s tag (sym c.held_by.ensures.value ∙ c.if-not-held_by.false)) (places_of c.width-width.result)
          c.width-width.ensures.answer c.after_edit.result table.answer_else_left_free table.outside c.in_ok-runs.runs c.in_ok-runs.was c.runs.result.now c.runs.ensures.value c.slot_count.result (Ok c.add_rows_of_runs.new.rows) (λ S of. made_alone _ c.slot_count.result c.new-rows.result c.add_rows_of_runs.new.rows c.new-rows.ensures (c.in_ok-add_rows_of_runs.ensures.of_set S of))
          c.add_rows_of_runs.new.rows refl c.deref.result.now c.deref.ensures.0 (omega arith) (d.state after) c.place_rows.ensures.after in (
            ap Ok (c.len.ensures.value ∙ sym long) ∙ sym now.0,
            subst (Standing (d.state after) c.in_ok-runs.runs within.held within.tag) (sym (after_granted b tag e _ now.0)) now.1,
          );
      untouched_when_refused = λ z. absurd (both_ways _ refl z);
      hold_stays = (ap (λ f. f.held) c.self.view_is, ap (λ f. f.tag) c.self.view_is);
      beside = subst (λ f. KeptBeside d f.device (all_slots (length (d.state f.device).slots)) after) c.self.view_is c.place_rows.ensures.beside;
      stood = c.held_by.ensures.stands;
    }
