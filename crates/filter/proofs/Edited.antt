-- An edit by the table of runs and the rows made of them, and by the ledger.
use Rattle.std.proofs.Common.{◌≡◌, ℕ, ◌-◌, ◌<◌, ◌≤◌, Bool, true, false, ◌&&◌, eqb, List, [], ◌∷◌, ◌++◌, map, length, replicate, None, Ok, Err, Result, sym, refl, ap, ◌∙◌, subst, ap₂, arith}
use Rattle.std.proofs.lemmas.List.{length-map}
use Rattle.covers.specs.Rivals.{NumberSet}
use Rattle.covers.specs.Symbols.{Symbols}
use Rattle.circle.specs.Runs.{runs}
use Rattle.arrayvec.specs.ArrayVec.{ArrayVec}
use Rattle.ranges.specs.SeveralRanges.{RowsMade, RunsOf}
use Rattle.rows.specs.declared.edit.Edit.{Edit}
use Rattle.rows.specs.declared.range.Range.{Range}
use Rattle.rows.specs.declared.refusal.Refusal.{Refusal}
use Rattle.rows.specs.declared.refusal.Refusal.TheVariants.{NumberOutsideWidth, TooManyRows}
use Rattle.rows.specs.declared.row_words.RowWords.{RowWords}
use Rattle.rows.specs.Edits.{edit_in_width, edited}
use Rattle.rows.specs.Ranges.{ranges_of}
use Rattle.rows.specs.Memory.{words_of}
use Rattle.run_table.specs.declared.table.RunTable.{RunTable}
use Rattle.run_table.specs.Answers.{EditAnswered}
use Rattle.run_table.specs.Tables.{TableOf, table_runs}
use Rattle.device.specs.declared.device.RowDevice.{Ghosts}
use Rattle.device.specs.States.{Slot, DeviceState}
use Rattle.ledger.specs.Ledger.{Ledger, ledger_runs, ledger_rows, slot_with, slots_laid}
use Rattle.ledger.specs.Steps.{edit_step, token_fits, with_edit}
use Rattle.ledger.proofs.Edits.{outside, many_runs, many_rows, granted}
use Rattle.filter.specs.declared.filter.Filter.{Filter}
use Rattle.filter.specs.Placement.{slot_read, with_rows}
use Rattle.filter.specs.Standing.{Standing}
use Rattle.filter.specs.StandsFor.{StandsFor}
use Rattle.filter.proofs.Laid.{length_laid}

pub token_fitting : {D : Type 0} (d : Ghosts D) (f : Filter D) (b : Ledger) → StandsFor d f b → (token : ℕ) → (f.held && eqb token f.tag) ≡ true → token_fits b token ≡ true
token_fitting d f b s token h = ap₂ (λ m (t : ℕ). m && eqb token t) (sym s.held) (sym s.tag) ∙ h

-- a device has as many slots as its ledger knows
pub slots_known : {D : Type 0} (d : Ghosts D) (f : Filter D) (b : Ledger) → StandsFor d f b → length (d.state f.device).slots ≡ b.slots
slots_known d f b s = ap length s.slots ∙ length_laid b s.fit

-- the rows of a ledger, read from words, are those laid in its slots
rows_read : (rows : List Symbols) → map slot_read (map words_of rows) ≡ map slot_with rows
rows_read [] = refl
rows_read (r ∷ rows) = ap (λ (l : List Slot). slot_with r ∷ l) (rows_read rows)

words_laid : (b : Ledger) (words : List RowWords) → words ≡ map words_of (ledger_rows b) → (count : ℕ) → count ≡ b.slots →
    map slot_read words ++ replicate (count - length words) None ≡ slots_laid b
words_laid b words same count e =
    let long = ap length same ∙ length-map (ledger_rows b) words_of in
    ap₂ (λ (l : List Slot) (k : ℕ). l ++ replicate k None) (ap (map slot_read) same ∙ rows_read (ledger_rows b)) (ap₂ (λ (j k : ℕ). j - k) e long)

-- what the table answers, as the ledger sees it
module _ {D : Type 0} (d : Ghosts D) (f : Filter D) (b : Ledger) (s : StandsFor d f b) (token : ℕ) (e : Edit) (fits : token_fits b token ≡ true) (n : ℕ) (its_width : n ≡ (d.state f.device).width) (r : Result RunTable Refusal) (yes : (S : NumberSet) → TableOf n S f.runs → edit_in_width n e ≡ true → EditAnswered n e S r) (no : edit_in_width n e ≡ false → r ≡ Err NumberOutsideWidth) where
  pub same_width : n ≡ b.width
  same_width = its_width ∙ s.width

  answered : edit_in_width b.width e ≡ true → EditAnswered b.width e b.numbers r
  answered w =
      subst (λ k. EditAnswered k e b.numbers r) same_width
      (yes b.numbers (s.runs ∙ ap (λ k. runs k b.numbers) (sym same_width)) (ap (λ k. edit_in_width k e) same_width ∙ w))

  pub table_refuses : (x : Refusal) → r ≡ Err x → (edit_step token e b).0 ≡ Err x
  table_refuses x is = by (edit_in_width b.width e) refl
    where
      by : (v : Bool) → edit_in_width b.width e ≡ v → (edit_step token e b).0 ≡ Err x
      by true w =
          let a = subst (EditAnswered b.width e b.numbers) is (answered w) in
          many_runs b token e fits w a.1 ∙ ap Err (sym a.0)
      by false w =
          let q = sym is ∙ no (ap (λ k. edit_in_width k e) same_width ∙ w) in
          let z : NumberOutsideWidth ≡ x = cc in
          outside b token e fits w ∙ ap Err z

  -- an edit that the table grants
  module _ (t : RunTable) (is : r ≡ Ok t) where
    table_grants : (edit_in_width b.width e ≡ true) × (table_runs t ≡ ledger_runs (with_edit b e)) × (length (ledger_runs (with_edit b e)) ≤ 16)
    table_grants = by (edit_in_width b.width e) refl
      where
        by : (v : Bool) → edit_in_width b.width e ≡ v → (edit_in_width b.width e ≡ true) × (table_runs t ≡ ledger_runs (with_edit b e)) × (length (ledger_runs (with_edit b e)) ≤ 16)
        by true w = let a = subst (EditAnswered b.width e b.numbers) is (answered w) in (w, a.0, a.1)
        by false w =
            let q = sym is ∙ no (ap (λ k. edit_in_width k e) same_width ∙ w) in
            let z : ◌≡◌ {A = ℕ} 0 1 = cc in
            absurd (omega arith)

    pub runs_left : table_runs t ≡ ledger_runs (with_edit b e)
    runs_left = table_grants.1

    -- the rows that were made are those of the numbers that it leaves
    pub rows_made : (ranges : List Range) → ranges_of ranges ≡ table_runs t → (room : ℕ) (q : Result (ArrayVec RowWords) Refusal) →
        ((S : NumberSet) → RunsOf n S ranges → RowsMade (ledger_rows (record b { width = n; numbers = S })) room q) → RowsMade (ledger_rows (with_edit b e)) room q
    rows_made ranges lent room q of_set =
        let S = edited e b.numbers in
        subst (λ k. RowsMade (ledger_rows (record b { width = k; numbers = S })) room q) same_width
        (of_set S (lent ∙ runs_left ∙ ap (λ k. runs k S) (sym same_width)))

    pub rows_refused : length (d.state f.device).slots < length (ledger_rows (with_edit b e)) → (edit_step token e b).0 ≡ Err TooManyRows
    rows_refused h = let its_slots = slots_known d f b s in many_rows b token e fits table_grants.0 table_grants.2 (omega arith)

    -- the answer is the ledger's, and the parts stand for its next state
    edit_granted : (words : List RowWords) → words ≡ map words_of (ledger_rows (with_edit b e)) → length words ≤ length (d.state f.device).slots →
        (after : DeviceState) → after ≡ with_rows (d.state f.device) words →
        ((edit_step token e b).0 ≡ Ok (length words)) × Standing after t f.held f.tag (with_edit b e)
    edit_granted words same room after moved =
        let its_slots = slots_known d f b s in
        let long = ap length same ∙ length-map (ledger_rows (with_edit b e)) words_of in (
          granted b token e fits table_grants.0 table_grants.2 (omega arith) ∙ ap Ok (sym long),
          record {
            width = ap (λ v. v.width) moved ∙ s.width;
            muted = ap (λ v. v.muted) moved ∙ s.muted;
            held = s.held;
            tag = s.tag;
            runs = table_grants.1;
            fit = omega arith;
            slots = ap (λ v. v.slots) moved ∙ words_laid (with_edit b e) words same (length (d.state f.device).slots) its_slots;
          },
        )

    -- the same, from what the calls of an edit promise
    pub edit_made : (ranges : List Range) → ranges_of ranges ≡ table_runs t → (room : ℕ) (q : Result (ArrayVec RowWords) Refusal) →
        ((S : NumberSet) → RunsOf n S ranges → RowsMade (ledger_rows (record b { width = n; numbers = S })) room q) →
        (list : ArrayVec RowWords) → q ≡ Ok list → (words : List RowWords) → words ≡ list.items → length words ≤ length (d.state f.device).slots →
        (after : DeviceState) → after ≡ with_rows (d.state f.device) words →
        ((edit_step token e b).0 ≡ Ok (length words)) × Standing after t f.held f.tag (with_edit b e)
    edit_made ranges lent room q of_set list was words lie fit after moved =
        let rows = subst (RowsMade (ledger_rows (with_edit b e)) room) was (rows_made ranges lent room q of_set) in
        edit_granted words (lie ∙ rows.0) fit after moved
