-- How long lines are, and some that are written out.
use Rattle.std.proofs.Common.{rules, ℕ, ◌≤◌, List, ◌∷◌, length, codes, refl, ap, arith}
use Rattle.std.proofs.lemmas.List.{length-append}
use Rattle.lines.specs.declared.command.Command.{Command}
use Rattle.lines.specs.declared.command.Command.TheVariants.{Edit, Ask}
use Rattle.rows.specs.declared.edit.Edit.TheVariants.{Add, Drop}
use Rattle.lines.specs.Lines.{Means}
use Rattle.lines.specs.Numbers.{WrittenPair}
use Rattle.lines.specs.Theorems.{LinesAreShort, LinesExamples}

pair_short : (text : List ℕ) (x y : ℕ) → WrittenPair text x y → length text ≤ 21
pair_short text x y w =
    let e = ap length w.parts in
    let k = length-append w.left (32 ∷ w.right) in
    let a = w.first.few in
    let b = w.second.few in
    omega arith

command_short : (line : List ℕ) (c : Command) → Means line c → length line ≤ 64
command_short line (Edit (Add r)) m = let e = ap length m.1 in let k = pair_short m.0 r.first r.last m.2 in omega arith
command_short line (Edit (Drop r)) m = let e = ap length m.1 in let k = pair_short m.0 r.first r.last m.2 in omega arith
command_short line (Ask x) m = let e = ap length m.1 in let k = m.2.few in omega arith

pub lines_short : LinesAreShort
lines_short = record { commands = command_short; setups = λ line s w. let k = pair_short line s.width s.slots w in omega arith }

pub lines_written : LinesExamples
lines_written = record {
  adds = (codes "1 4", refl, record { left = codes "1"; right = codes "4"; parts = refl; first = search rules; second = search rules });
  drops = (codes "010 0000000009", refl, record { left = codes "010"; right = codes "0000000009"; parts = refl; first = search rules; second = search rules });
  asks = (codes "4294967295", refl, search rules);
  sets_up = record { left = codes "32"; right = codes "120"; parts = refl; first = search rules; second = search rules };
}
