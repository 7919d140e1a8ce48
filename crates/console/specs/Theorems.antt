-- Laws of sessions.
use Rattle.std.specs.Prelude.{◌≡◌, ℕ, List}
use Rattle.console.specs.Sessions.{ConsoleOutput}

-- every input has an output
abbrev pub OutputExists : Type 0
OutputExists = (input : List ℕ) → (output : List ℕ) × ConsoleOutput input output

-- and only one
abbrev pub OutputDetermined : Type 0
OutputDetermined = (input a b : List ℕ) → ConsoleOutput input a → ConsoleOutput input b → a ≡ b
