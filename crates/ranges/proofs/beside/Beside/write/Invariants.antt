use Rattle.std.proofs.Common.{◌≡◌, ◌++◌}
use Rattle.std.specs.Prelude.{nat_le}
use Rattle.covers.specs.WitnessNumbers.{numbers_beside}
use Rattle.ranges.specs.Building.{HasRoom}
use Rattle.ranges.proofs.beside.Beside.write.Given as goal

-- what is there and what is left are the whole list
abbrev pub invariant-loop-places : goal.invariant-loop-places
invariant-loop-places l = record {
  list : l.numbers.items ++ numbers_beside (nat_le l.self.after l.self.before) l.places l.self.before l.self.after ≡ l.initial.numbers.items ++ numbers_beside (nat_le l.self.after l.self.before) l.self.places l.self.before l.self.after;
  room : HasRoom l.numbers (numbers_beside (nat_le l.self.after l.self.before) l.places l.self.before l.self.after);
}
