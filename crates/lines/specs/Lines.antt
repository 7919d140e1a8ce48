-- What the console's lines mean.
use Rattle.std.specs.Prelude.{◌≡◌, ℕ, List, ◌++◌, codes}
use Rattle.lines.specs.declared.command.Command.{Command}
use Rattle.lines.specs.declared.command.Command.TheVariants.{Edit, Ask}
use Rattle.rows.specs.declared.edit.Edit.TheVariants.{Add, Drop}
use Rattle.lines.specs.declared.command.Setup.{Setup}
use Rattle.lines.specs.Numbers.{Written, WrittenPair}

-- the line is this verb, one space, and what is written after them
abbrev pub VerbThen : List ℕ → List ℕ → (List ℕ → Type 0) → Type 0
VerbThen verb line P = (rest : List ℕ) × (line ≡ verb ++ (codes " " ++ rest)) × P rest

-- the line, without its newline, is a command: "+ F L", "- F L" or "? X"
abbrev pub Means : List ℕ → Command → Type 0
Means line (Edit (Add range)) = VerbThen (codes "+") line (λ rest. WrittenPair rest range.first range.last)
Means line (Edit (Drop range)) = VerbThen (codes "-") line (λ rest. WrittenPair rest range.first range.last)
Means line (Ask number) = VerbThen (codes "?") line (λ rest. Written rest number)

-- the first line is "W S"
abbrev pub SetsUp : List ℕ → Setup → Type 0
SetsUp line setup = WrittenPair line setup.width setup.slots
