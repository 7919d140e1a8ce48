use Rattle.ranges.proofs.stretch.Stretch.+write_round.Given as goal

abbrev pub decreases-write_round : goal.decreases-write_round
decreases-write_round l = l.self.now.ends.places
