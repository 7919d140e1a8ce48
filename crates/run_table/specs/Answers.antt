-- What an edit of a table answers.
use Rattle.std.specs.Prelude.{◌≡◌, ℕ, ◌<◌, ◌≤◌, true, false, ◌⊎◌, List, length, Ok, Err, Result}
use Rattle.covers.specs.Rivals.{NumberSet}
use Rattle.circle.specs.Runs.{runs}
use Rattle.rows.specs.declared.edit.Edit.{Edit}
use Rattle.rows.specs.declared.refusal.Refusal.{Refusal}
use Rattle.rows.specs.declared.refusal.Refusal.TheVariants.{NumberOutsideWidth, TooManyRuns}
use Rattle.rows.specs.Edits.{edit_in_width, edited}
use Rattle.run_table.specs.declared.table.RunTable.{RunTable}
use Rattle.run_table.specs.NewRuns.{firsts_left}
use Rattle.run_table.specs.Tables.{TableOf}

-- an edit of the set is answered by the table of the set after it if that has at most 16 runs, and else refused
abbrev pub EditAnswered : ℕ → Edit → NumberSet → Result RunTable Refusal → Type 0
EditAnswered n e S (Ok t) = TableOf n (edited e S) t × (length (runs n (edited e S)) ≤ 16)
EditAnswered n e S (Err x) = (x ≡ TooManyRuns) × (16 < length (runs n (edited e S)))

-- whichever set the table is of, an edit within the width is answered as one of that set
abbrev pub AnswersAsItsSet : ℕ → Edit → RunTable → Result RunTable Refusal → Type 0
AnswersAsItsSet n e table answer = (S : NumberSet) → TableOf n S table → edit_in_width n e ≡ true → EditAnswered n e S answer

-- which refusals an edit of any ranges may have, also where they are the runs of no set: 2 exactly if an end of the edit is
-- no number of the width, and 6 exactly if not and over 16 ranges are left
abbrev pub EditRefusals : ℕ → Edit → List (ℕ × ℕ) → Result RunTable Refusal → Type 0
EditRefusals n e ranges (Ok t) = (edit_in_width n e ≡ true) × (length (firsts_left n e ranges) ≤ 16)
EditRefusals n e ranges (Err x) =
    ((x ≡ NumberOutsideWidth) × (edit_in_width n e ≡ false)) ⊎
    ((x ≡ TooManyRuns) × (edit_in_width n e ≡ true) × (16 < length (firsts_left n e ranges)))
