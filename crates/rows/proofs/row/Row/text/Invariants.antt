use Rattle.std.proofs.Common.{◌≡◌, ◌++◌, ◌+◌, length, map}
use Rattle.covers.specs.Symbols.{letter}
use Rattle.covers.specs.Words.{symbols}
use Rattle.rows.specs.Widths.{places_of}
use Rattle.rows.proofs.row.Row.text.Given as goal

-- the text, and the letters of the places that are left, is the whole row
abbrev pub invariant-loop-place : goal.invariant-loop-place
invariant-loop-place l =
    (l.text.bytes ++ map letter (symbols l.place l.self.value l.self.care) ≡ map letter (symbols (places_of l.fn.width) l.self.value l.self.care))
    × (length l.text.bytes + l.place ≡ places_of l.fn.width)
