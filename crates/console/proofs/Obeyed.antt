-- A line that means a command, obeyed as the ledger answers it.
use Rattle.std.proofs.Common.{◌≡◌, ℕ, Bool, List, Some, Result, ap, ◌∙◌, subst}
use Rattle.rows.specs.declared.edit.Edit.{Edit}
use Rattle.rows.specs.declared.refusal.Refusal.{Refusal}
use Rattle.device.specs.declared.device.RowDevice.{Ghosts}
use Rattle.ledger.specs.Steps.{ask_step}
use Rattle.filter.specs.StandsFor.{Follows}
use Rattle.lines.specs.declared.command.Command.{Command}
use Rattle.lines.specs.declared.command.Command.TheVariants as commands
use Rattle.lines.specs.declared.reply.Reply.{Reply}
use Rattle.lines.specs.declared.reply.Reply.TheVariants.{Rows, Says}
use Rattle.lines.specs.Lines.{Means}
use Rattle.console.specs.declared.console.Console.{Console}
use Rattle.console.specs.Replies.{edit_in_hold, replied}
use Rattle.console.specs.StandsFor.{LineObeyed}

module _ {D : Type 0} (d : Ghosts D) (old : Console D) (line : List ℕ) (command : Command) (means : Means line command) (reply : Result Reply Refusal) where
  -- an edit within a hold of its own
  pub edited : (e : Edit) (answer : Result ℕ Refusal) (new : Console D) → command ≡ commands.Edit e → reply ≡ replied Rows answer → Follows d old.filter (edit_in_hold e) answer new.filter →
      LineObeyed d old line reply new
  edited e answer new is said step = record {
    read = Some (commands.Edit e);
    reads = subst (Means line) is means;
    follows = λ b s. let r = step b s in (said ∙ ap (replied Rows) r.0, r.1);
  }

  -- a question changes nothing
  pub asked : (number : ℕ) (answer : Result Bool Refusal) → command ≡ commands.Ask number → reply ≡ replied Says answer → Follows d old.filter (ask_step number) answer old.filter →
      LineObeyed d old line reply old
  asked number answer is said step = record {
    read = Some (commands.Ask number);
    reads = subst (Means line) is means;
    follows = λ b s. let r = step b s in (said ∙ ap (replied Says) r.0, r.1);
  }
