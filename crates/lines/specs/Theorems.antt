-- Laws of the console's lines.
use Rattle.std.specs.Prelude.{ℕ, ◌≤◌, List, length, codes}
use Rattle.lines.specs.declared.command.Command.{Command}
use Rattle.lines.specs.declared.command.Command.TheVariants.{Edit, Ask}
use Rattle.rows.specs.declared.edit.Edit.TheVariants.{Add, Drop}
use Rattle.lines.specs.declared.command.Setup.{Setup}
use Rattle.lines.specs.Lines.{Means, SetsUp}

-- a line that means something has at most 64 bytes
pub record LinesAreShort : Type 0 where
  pub commands : (line : List ℕ) (c : Command) → Means line c → length line ≤ 64
  pub setups : (line : List ℕ) (s : Setup) → SetsUp line s → length line ≤ 64

-- examples; zeros may stand first
pub record LinesExamples : Type 0 where
  pub adds : Means (codes "+ 1 4") (Edit (Add record { first = 1; last = 4 }))
  pub drops : Means (codes "- 010 0000000009") (Edit (Drop record { first = 10; last = 9 }))
  pub asks : Means (codes "? 4294967295") (Ask 4294967295)
  pub sets_up : SetsUp (codes "32 120") record { width = 32; slots = 120 }
