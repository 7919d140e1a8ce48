use Rattle.ranges.proofs.beside.Beside.+write_inner.Given as goal

abbrev pub decreases-write_inner : goal.decreases-write_inner
decreases-write_inner l = l.self.now.places
