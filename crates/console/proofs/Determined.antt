-- An input has one output.
use Rattle.std.proofs.Common.{◌≡◌, ℕ, List, [], ◌∷◌, ◌++◌, Some, None, Option, sym, refl, ap, ◌∙◌, subst, ap₂}
use Rattle.std.specs.List.{concat}
use Rattle.lines.specs.Lines.{Means, SetsUp}
use Rattle.lines.specs.Printed.{reply_bytes}
use Rattle.lines.proofs.Determined.{command_determined, setup_determined}
use Rattle.console.specs.Replies.{ReadsAs, line_step}
use Rattle.console.specs.Sessions.{Stage, waiting, running, stopped, setup_output, after_setup, closing_lines, lines_of, LineAnswered, LinesAnswered}
use Rattle.console.specs.Theorems.{OutputDetermined}

-- where at most one meets this, one is read, or none
read_determined : {X : Type 0} (P : X → Type 0) → ((x y : X) → P x → P y → y ≡ x) → (a b : Option X) → ReadsAs P a → ReadsAs P b → a ≡ b
read_determined P one (Some x) (Some y) m k = ap Some (sym (one x y m k))
read_determined P one (Some x) None m k = absurd (k x m)
read_determined P one None (Some y) m k = absurd (m y k)
read_determined P one None None m k = refl

line_determined : (s : Stage) (line o p : List ℕ) (t u : Stage) → LineAnswered s line o t → LineAnswered s line p u → (o ≡ p) × (t ≡ u)
line_determined waiting line o p t u a b =
    let e = read_determined (SetsUp line) (setup_determined line) a.0 b.0 a.1 b.1 in
    (a.2 ∙ ap setup_output e ∙ sym b.2, a.3 ∙ ap after_setup e ∙ sym b.3)
line_determined (running c) line o p t u a b =
    let e = read_determined (Means line) (command_determined line) a.0 b.0 a.1 b.1 in
    (a.2 ∙ ap (λ r. reply_bytes (line_step r c).0) e ∙ sym b.2, a.3 ∙ ap (λ r. running (line_step r c).1) e ∙ sym b.3)
line_determined stopped line o p t u a b = (a.0 ∙ sym b.0, a.1 ∙ sym b.1)

pub lines_determined : (lines : List (List ℕ)) (s : Stage) (o p : List ℕ) (t u : Stage) → LinesAnswered s lines o t → LinesAnswered s lines p u → (o ≡ p) × (t ≡ u)
lines_determined [] s o p t u a b = (a.0 ∙ sym b.0, a.1 ∙ sym b.1)
lines_determined (line ∷ lines) s o p t u a b =
    let one = line_determined s line a.0 b.0 a.1 b.1 a.3 b.3 in
    let rest = lines_determined lines a.1 a.2 b.2 t u a.4 (subst (λ k. LinesAnswered k lines b.2 u) (sym one.1) b.4) in
    (a.5 ∙ ap₂ (λ x y. x ++ y) one.0 rest.0 ∙ sym b.5, rest.1)

pub output_determined : OutputDetermined
output_determined input o p a b =
    let e = lines_determined (lines_of input) waiting a.printed b.printed a.last b.last a.answered b.answered in
    a.all ∙ ap₂ (λ x s. x ++ concat (closing_lines s)) e.0 e.1 ∙ sym b.all
