-- Every input has an output.
use Rattle.std.proofs.Common.{ℕ, List, [], ◌∷◌, ◌++◌, Some, None, Option, refl, inl, inr}
use Rattle.lines.specs.Lines.{Means, SetsUp}
use Rattle.lines.specs.Printed.{reply_bytes}
use Rattle.lines.proofs.OneOrNone.{OneOrNone, setup_or_none, command_or_none}
use Rattle.console.specs.Replies.{ReadsAs, line_step}
use Rattle.console.specs.Sessions.{Stage, waiting, running, stopped, setup_output, after_setup, lines_of, LineAnswered, LinesAnswered}
use Rattle.console.specs.Theorems.{OutputExists}

some_read : {X : Type 0} (P : X → Type 0) → OneOrNone P → (read : Option X) × ReadsAs P read
some_read P (inl p) = (Some p.0, p.1)
some_read P (inr none) = (None, none)

line_answered : (s : Stage) (line : List ℕ) → (output : List ℕ) × (next : Stage) × LineAnswered s line output next
line_answered waiting line = let r = some_read (SetsUp line) (setup_or_none line) in (setup_output r.0, after_setup r.0, (r.0, r.1, refl, refl))
line_answered (running b) line =
    let r = some_read (Means line) (command_or_none line) in
    (reply_bytes (line_step r.0 b).0, running (line_step r.0 b).1, (r.0, r.1, refl, refl))
line_answered stopped line = ([], stopped, (refl, refl))

lines_answered : (lines : List (List ℕ)) (s : Stage) → (output : List ℕ) × (next : Stage) × LinesAnswered s lines output next
lines_answered [] s = ([], s, (refl, refl))
lines_answered (line ∷ lines) s =
    let one = line_answered s line in
    let rest = lines_answered lines one.1 in
    (one.0 ++ rest.0, rest.1, (one.0, one.1, rest.0, one.2, rest.2, refl))

pub output_exists : OutputExists
output_exists input = let a = lines_answered (lines_of input) waiting in (_, record { printed = a.0; last = a.1; answered = a.2; all = refl })
