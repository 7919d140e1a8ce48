-- A whole session: the bytes that come in, the lines that they are cut into, and the bytes that are printed.
use Rattle.std.specs.Prelude.{◌≡◌, ℕ, min, Bool, true, false, cond, ◌&&◌, List, [], ◌∷◌, ◌++◌, Some, None, Err, Option, ◌==◌, nat_le}
use Rattle.std.specs.List.{concat}
use Rattle.rows.specs.declared.refusal.Refusal.{Refusal}
use Rattle.rows.specs.declared.refusal.Refusal.TheVariants.{WidthOutOfRange, MalformedLine}
use Rattle.ledger.specs.Ledger.{Ledger, opened, ledger_rows}
use Rattle.lines.specs.declared.command.Command.{Command}
use Rattle.lines.specs.declared.command.Setup.{Setup}
use Rattle.lines.specs.Lines.{SetsUp}
use Rattle.lines.specs.Printed.{reply_bytes}
use Rattle.console.specs.Replies.{ReadsAs, Reads, line_step}
use Rattle.console.specs.Closing.{row_lines}

-- a text cut at its newlines, with what stood open before it: the lines that it closes
abbrev pub closed : List ℕ → List ℕ → List (List ℕ)
closed line [] = []
closed line (byte ∷ text) = cond (byte == 10) (line ∷ closed [] text) (closed (line ++ (byte ∷ [])) text)

-- and the line that it leaves open
abbrev pub left_open : List ℕ → List ℕ → List ℕ
left_open line [] = line
left_open line (byte ∷ text) = cond (byte == 10) (left_open [] text) (left_open (line ++ (byte ∷ [])) text)

-- the input's end closes a line too; nothing after the last newline is no line
abbrev pub at_end : List ℕ → List (List ℕ)
at_end [] = []
at_end (byte ∷ line) = (byte ∷ line) ∷ []

abbrev pub lines_of : List ℕ → List (List ℕ)
lines_of input = closed [] input ++ at_end (left_open [] input)

-- the console waits for its first line, runs with a ledger, or has stopped
pub data Stage : Type 0 where
  waiting : Stage
  running : Ledger → Stage
  stopped : Stage

abbrev pub is_stopped : Stage → Bool
is_stopped waiting = false
is_stopped (running b) = false
is_stopped stopped = true

-- the first line as it is read
abbrev pub ReadsSetup : List ℕ → Option Setup → Type 0
ReadsSetup line = ReadsAs (SetsUp line)

-- a refusal of the first line stops the console
abbrev pub refusal_line : Refusal → List ℕ
refusal_line refusal = reply_bytes (Err refusal)

-- a width from 1 to 32 starts it; slots over 120 count as 120
abbrev pub good_width : Setup → Bool
good_width s = nat_le 1 s.width && nat_le s.width 32

abbrev pub setup_output : Option Setup → List ℕ
setup_output (Some s) = cond (good_width s) [] (refusal_line WidthOutOfRange)
setup_output None = refusal_line MalformedLine

abbrev pub after_setup : Option Setup → Stage
after_setup (Some s) = cond (good_width s) (running (opened s.width (min 120 s.slots) 0)) stopped
after_setup None = stopped

-- one line: what is printed, and the next stage
abbrev pub LineAnswered : Stage → List ℕ → List ℕ → Stage → Type 0
LineAnswered waiting line output next = (setup : Option Setup) × ReadsSetup line setup × (output ≡ setup_output setup) × (next ≡ after_setup setup)
LineAnswered (running b) line output next = (read : Option Command) × Reads line read × (output ≡ reply_bytes (line_step read b).0) × (next ≡ running (line_step read b).1)
LineAnswered stopped line output next = (output ≡ []) × (next ≡ stopped)

-- a list of lines: what is printed in all, and the stage after them
abbrev pub LinesAnswered : Stage → List (List ℕ) → List ℕ → Stage → Type 0
LinesAnswered stage [] output next = (output ≡ []) × (next ≡ stage)
LinesAnswered stage (line ∷ lines) output next =
    (first : List ℕ) × (between : Stage) × (rest : List ℕ) × LineAnswered stage line first between × LinesAnswered between lines rest next × (output ≡ first ++ rest)

-- the lines that are printed at the end: the rows of the ledger's runs, by the rules; without a first line, its refusal
abbrev pub closing_lines : Stage → List (List ℕ)
closing_lines waiting = refusal_line MalformedLine ∷ []
closing_lines (running b) = row_lines (ledger_rows b)
closing_lines stopped = []

-- the end of a session: the input's end may close a line, and the closing lines follow
pub record SessionEnded (stage : Stage) (line output : List ℕ) : Type 0 where
  pub printed : List ℕ
  pub last : Stage
  pub answered : LinesAnswered stage (at_end line) printed last
  pub all : output ≡ printed ++ concat (closing_lines last)

-- the whole output for the whole input
pub record ConsoleOutput (input output : List ℕ) : Type 0 where
  pub printed : List ℕ
  pub last : Stage
  pub answered : LinesAnswered waiting (lines_of input) printed last
  pub all : output ≡ printed ++ concat (closing_lines last)
