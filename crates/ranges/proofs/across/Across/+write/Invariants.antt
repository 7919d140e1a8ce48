use Rattle.ranges.proofs.across.Across.+write.Given as goal

abbrev pub decreases-write : goal.decreases-write
decreases-write l = l.self.now.ends.places
