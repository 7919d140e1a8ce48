-- The line that a buffer holds.
use Rattle.std.specs.Prelude.{ℕ, cond, List, length, take, Some, None, Option, nat_le}
use Rattle.std.specs.Option.{option_map}
use Rattle.lines.specs.declared.line_buffer.LineBuffer.{LineBuffer}

-- a line as a buffer keeps it: of one over 64 bytes, only that it is too long
abbrev pub kept : List ℕ → Option (List ℕ)
kept line = cond (nat_le (length line) 64) (Some line) None

abbrev pub buffered : LineBuffer → Option (List ℕ)
buffered b = option_map (λ n. take n b.bytes) b.len
