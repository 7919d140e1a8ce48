-- What it means that a console stands for a ledger.
use Rattle.std.specs.Prelude.{◌≡◌, ℕ, false, List, Option, Result}
use Rattle.rows.specs.declared.refusal.Refusal.{Refusal}
use Rattle.device.specs.declared.device.RowDevice.{Ghosts}
use Rattle.ledger.specs.Ledger.{Ledger}
use Rattle.filter.specs.StandsFor.{Follows, StandsFor, StandsForOne}
use Rattle.lines.specs.declared.command.Command.{Command}
use Rattle.lines.specs.declared.reply.Reply.{Reply}
use Rattle.console.specs.declared.console.Console.{Console}
use Rattle.console.specs.Replies.{Reads, line_step}

-- its filter, which is not held, stands for the ledger
abbrev pub ConsoleStands : {D : Type 0} → Ghosts D → Console D → Ledger → Type 0
ConsoleStands d c b = StandsFor d c.filter b

-- and for some ledger it does
abbrev pub ConsoleStandsForOne : {D : Type 0} → Ghosts D → Console D → Type 0
ConsoleStandsForOne d c = StandsForOne d c.filter × (c.filter.held ≡ false)

-- the line was read and obeyed: whichever ledger the console stood for, it replies as that one, and stands for its next state
pub record LineObeyed {D : Type 0} (d : Ghosts D) (old : Console D) (line : List ℕ) (reply : Result Reply Refusal) (new : Console D) : Type 0 where
  pub read : Option Command
  pub reads : Reads line read
  pub follows : Follows d old.filter (line_step read) reply new.filter
