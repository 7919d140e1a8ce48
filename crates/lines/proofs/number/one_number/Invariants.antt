use Rattle.std.proofs.Common.{◌≡◌, ◌^◌, ◌<◌, drop}
use Rattle.std.specs.Str.Parse.{AllDigits, digits_value, digits_value_after}
use Rattle.lines.proofs.number.one_number.Given as goal

-- what is left, read after the number so far, gives the number; if it is digits, all is
abbrev pub invariant-loop-byte : goal.invariant-loop-byte
invariant-loop-byte l =
    (digits_value_after 10 l.number (drop l.byte-index l.text) ≡ digits_value 10 l.text)
    × (AllDigits 10 (drop l.byte-index l.text) → AllDigits 10 l.text)
    × (l.number < 10 ^ l.byte-index)
