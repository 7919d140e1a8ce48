-- What it means that a session stands for a stage and an open line. No invariant can say it: a console stands for many
-- ledgers, which differ in numbers beyond its width, and a clause names the stages before and after.
use Rattle.std.specs.Prelude.{◌≡◌, ℕ, min, true, false, List, [], Some, None, Ok, Err, Option, Result}
use Rattle.arrayvec.specs.ArrayString.{ArrayString}
use Rattle.rows.specs.declared.refusal.Refusal.{Refusal}
use Rattle.rows.specs.declared.refusal.Refusal.TheVariants.{WidthOutOfRange, MalformedLine}
use Rattle.device.specs.declared.device.RowDevice.{Ghosts}
use Rattle.ledger.specs.Ledger.{opened}
use Rattle.lines.specs.declared.command.Setup.{Setup}
use Rattle.lines.specs.Buffers.{buffered, kept}
use Rattle.console.specs.declared.console.Console.{Console}
use Rattle.console.specs.declared.stage.Stage as code
use Rattle.console.specs.declared.stage.Stage.TheVariants.{Waiting, Running, Stopped}
use Rattle.console.specs.declared.session.Session.{Session}
use Rattle.console.specs.StandsFor.{ConsoleStands}
use Rattle.console.specs.Sessions.{Stage, waiting, running, stopped, LineAnswered, LinesAnswered, closed, left_open, at_end, good_width}

-- a stage of the code stands for one of the definitions
abbrev pub StageStands : {D : Type 0} → Ghosts D → code.Stage D → Stage → Type 0
StageStands d Waiting waiting = Unit {0}
StageStands d (Running c) (running b) = ConsoleStands d c b
StageStands d Stopped stopped = Unit {0}
StageStands d _ _ = ⊥

pub record SessionStands {D : Type 0} (d : Ghosts D) (s : Session D) (stage : Stage) (line : List ℕ) : Type 0 where
  pub at_stage : StageStands d s.stage stage
  pub open_line : buffered s.line ≡ kept line

-- this holds of whichever stage and open line the session stands for
abbrev pub AtItsStage : {D : Type 0} → Ghosts D → Session D → (Stage → List ℕ → Type 0) → Type 0
AtItsStage d s P = (stage : Stage) (line : List ℕ) → SessionStands d s stage line → P stage line

-- the bytes of a line, if there is one
abbrev pub printed : Option ArrayString → List ℕ
printed (Some line) = line.bytes
printed None = []

-- a line was closed: what answers it, and the stage afterwards
pub record LineClosed {D : Type 0} (d : Ghosts D) (stage : Stage) (line : List ℕ) (output : List ℕ) (after : code.Stage D) : Type 0 where
  pub next : Stage
  pub answered : LineAnswered stage line output next
  pub stands : StageStands d after next

-- what a first line makes of a session
abbrev pub Begun : {D : Type 0} → Ghosts D → Option Setup → Result (Console D) Refusal → Type 0
Begun d (Some s) (Ok c) = (good_width s ≡ true) × ConsoleStands d c (opened s.width (min 120 s.slots) 0)
Begun d (Some s) (Err e) = (good_width s ≡ false) × (e ≡ WidthOutOfRange)
Begun d None (Ok c) = ⊥
Begun d None (Err e) = e ≡ MalformedLine

-- bytes were taken: this output answers the lines that they close, and the session goes on with the line that they leave open
pub record BytesTaken {D : Type 0} (d : Ghosts D) (stage : Stage) (line bytes output : List ℕ) (after : Session D) : Type 0 where
  pub next : Stage
  pub answered : LinesAnswered stage (closed line bytes) output next
  pub stands : SessionStands d after next (left_open line bytes)

-- the input has ended: this output answers the line that its end closes, if it closes one, and no line is open afterwards
pub record EndTaken {D : Type 0} (d : Ghosts D) (stage : Stage) (line output : List ℕ) (after : Session D) : Type 0 where
  pub next : Stage
  pub answered : LinesAnswered stage (at_end line) output next
  pub stands : SessionStands d after next []
