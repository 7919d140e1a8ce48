-- Answers that may be refused, as they are printed.
use Rattle.std.specs.Prelude.{ℕ, List, ◌++◌, Some, Option, Ok, Err, Result, codes}
use Rattle.rows.specs.declared.refusal.Refusal.{Refusal}
use Rattle.rows.specs.Refusals.{refusal_text}

-- the answer's text, or a space and the refusal's
abbrev pub outcome_text : {X : Type 0} → (X → Option (List ℕ)) → Result X Refusal → Option (List ℕ)
outcome_text text (Ok answer) = text answer
outcome_text text (Err refusal) = Some (codes " " ++ refusal_text refusal)
