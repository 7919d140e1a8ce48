-- The bytes of every line that the console prints.
use Rattle.std.specs.Prelude.{ℕ, true, false, List, ◌++◌, map, Ok, Err, Result, codes, decimal}
use Rattle.covers.specs.Symbols.{Symbols, letter}
use Rattle.rows.specs.declared.refusal.Refusal.{Refusal}
use Rattle.rows.specs.Refusals.{refusal_text}
use Rattle.lines.specs.declared.reply.Reply.{Reply}
use Rattle.lines.specs.declared.reply.Reply.TheVariants.{Rows, Says}

-- a reply as it is printed
abbrev pub reply_text : Reply → List ℕ
reply_text (Rows count) = codes "ok " ++ decimal count
reply_text (Says true) = codes "yes"
reply_text (Says false) = codes "no"

-- the line of a reply or of a refusal, its newline included
abbrev pub reply_bytes : Result Reply Refusal → List ℕ
reply_bytes (Ok reply) = reply_text reply ++ codes "\n"
reply_bytes (Err refusal) = refusal_text refusal ++ codes "\n"

-- the line of a row: its symbols, the first place first
abbrev pub row_bytes : Symbols → List ℕ
row_bytes row = map letter row ++ codes "\n"
