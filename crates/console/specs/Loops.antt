-- The loop over a reader and a writer. Of their bytes a clause speaks where they are known.
use Rattle.std.specs.Prelude.{◌≡◌, ℕ, ◌≤◌, List, [], ◌++◌, length, take, IfSome, OnOk, Err, Option, Result}
use Rattle.std.specs.Io.{StartsWith}
use Rattle.std.specs.Io.KnownBytes.{Appends, Consumes}
use Rattle.std.specs.declared.io.ErrorKind.{ErrorKind}
use Rattle.device.specs.declared.device.RowDevice.{Ghosts}
use Rattle.console.specs.declared.failure.Failure.{Failure}
use Rattle.console.specs.declared.failure.Failure.TheVariants.{CannotRead}
use Rattle.console.specs.declared.session.Session.{Session}
use Rattle.console.specs.Sessions.{Stage, waiting, closed, LinesAnswered, SessionEnded, ConsoleOutput}
use Rattle.console.specs.SessionStands.{BytesTaken}

-- so many of these bytes were written, from the first; all of them if nothing failed
pub record BytesWritten {T E : Type 0} (shown now : Option (List ℕ)) (bytes : List ℕ) (result : Result T E) : Type 0 where
  pub count : ℕ
  pub appended : Appends shown now (take count bytes)
  pub all : OnOk result (length bytes ≤ count)

-- a session took a piece of the input, or the beginning of it at which writing failed; of the answers a beginning was written
pub record PieceAnswered {D T E : Type 0} (d : Ghosts D) (shown now : Option (List ℕ)) (stage : Stage) (line piece : List ℕ) (result : Result T E) (after : Session D) : Type 0 where
  pub taken : List ℕ
  pub untaken : List ℕ
  pub written : List ℕ
  pub unwritten : List ℕ
  pub parts : piece ≡ taken ++ untaken
  pub appended : Appends shown now written
  pub answered : BytesTaken d stage line taken (written ++ unwritten) after
  pub all : OnOk result ((untaken ≡ []) × (unwritten ≡ []))

-- of what a session prints at the input's end a beginning was written
pub record EndWritten {T E : Type 0} (shown now : Option (List ℕ)) (stage : Stage) (line : List ℕ) (result : Result T E) : Type 0 where
  pub written : List ℕ
  pub unwritten : List ℕ
  pub appended : Appends shown now written
  pub ended : SessionEnded stage line (written ++ unwritten)
  pub all : OnOk result (unwritten ≡ [])

-- a new session took these bytes from the reader, and all that answers them was written
pub record RunSoFar {D : Type 0} (d : Ghosts D) (unread left shown now : Option (List ℕ)) (s : Session D) : Type 0 where
  pub read : List ℕ
  pub written : List ℕ
  pub consumed : Consumes unread left read
  pub appended : Appends shown now written
  pub taken : BytesTaken d waiting [] read written s

-- what was written is a beginning of the output for this input
abbrev pub OutputBegins : List ℕ → List ℕ → Type 0
OutputBegins input written = (output : List ℕ) → ConsoleOutput input output → StartsWith output written

-- it was not a read that failed
abbrev pub NoReadFailed : {T : Type 0} → Result T Failure → Type 0
NoReadFailed result = (kind : ErrorKind) → result ≡ Err (CannotRead kind) → ⊥

-- the loop has ended: what it read and what it wrote
pub record LoopEnded {T : Type 0} (unread left shown now : Option (List ℕ)) (result : Result T Failure) : Type 0 where
  pub read : List ℕ
  pub written : List ℕ
  pub consumed : Consumes unread left read
  pub appended : Appends shown now written
  -- it wrote a beginning of the output for what it read, and for all that there was to be read
  pub begun : OutputBegins read written
  pub begun_for_all : IfSome unread (λ input. OutputBegins input written)
  -- and if nothing failed, the whole output for both
  pub whole : OnOk result (ConsoleOutput read written)
  pub whole_for_all : OnOk result (IfSome unread (λ input. ConsoleOutput input written))
  -- if a read failed, the answers to all lines that were closed by then, and nothing else
  pub earned : (kind : ErrorKind) → result ≡ Err (CannotRead kind) → (stage : Stage) × LinesAnswered waiting (closed [] read) written stage
