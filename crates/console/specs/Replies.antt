-- What the console replies to a line, by the ledger.
use Rattle.std.specs.Prelude.{ℕ, List, [], Some, None, Ok, Err, Option, Result}
use Rattle.rows.specs.declared.edit.Edit as edit
use Rattle.rows.specs.declared.refusal.Refusal.{Refusal}
use Rattle.rows.specs.declared.refusal.Refusal.TheVariants.{MalformedLine}
use Rattle.ledger.specs.Steps.{Step, told, hold_step, edit_step, release_step, ask_step}
use Rattle.filter.specs.Writes.{all_slots}
use Rattle.lines.specs.declared.command.Command.{Command}
use Rattle.lines.specs.declared.command.Command.TheVariants.{Edit, Ask}
use Rattle.lines.specs.declared.reply.Reply.{Reply}
use Rattle.lines.specs.declared.reply.Reply.TheVariants.{Rows, Says}
use Rattle.lines.specs.Lines.{Means}

-- what is read: the one that meets this, or none
abbrev pub ReadsAs : {X : Type 0} → (X → Type 0) → Option X → Type 0
ReadsAs P (Some x) = P x
ReadsAs {X} P None = (x : X) → P x → ⊥

-- a line as it is read: the command that it means, or none
abbrev pub Reads : List ℕ → Option Command → Type 0
Reads line = ReadsAs (Means line)

-- an answer as a reply: what was granted, or the refusal
abbrev pub replied : {X : Type 0} → (X → Reply) → Result X Refusal → Result Reply Refusal
replied granted (Ok x) = Ok (granted x)
replied granted (Err e) = Err e

-- an edit within a hold of its own
abbrev pub edit_in_hold : edit.Edit → Step (Result ℕ Refusal)
edit_in_hold e b =
    let within = edit_step b.tag e (hold_step b).1 in
    (within.0, (release_step b.tag within.1).1)

-- what a line does, as it is read: the reply, and the ledger after it
abbrev pub line_step : Option Command → Step (Result Reply Refusal)
line_step (Some (Edit e)) = told (replied Rows) (edit_in_hold e)
line_step (Some (Ask number)) = told (replied Says) (ask_step number)
line_step None = λ b. (Err MalformedLine, b)

-- the slots that a line has put or emptied, of so many: each once where a row count was replied, else none
abbrev pub reply_writes : ℕ → Result Reply Refusal → List ℕ
reply_writes count (Ok (Rows rows)) = all_slots count
reply_writes count (Ok (Says said)) = []
reply_writes count (Err e) = []
