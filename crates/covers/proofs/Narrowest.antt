-- The narrowest row of two numbers takes just their mixes.
use Rattle.std.proofs.Common.{◌≡◌, true, false, [], ◌∷◌, refl, inl, inr}
use Rattle.std.proofs.lemmas.Bool.{both_ways}
use Rattle.covers.specs.Digits.{Digits}
use Rattle.covers.specs.Symbols.{takes}
use Rattle.covers.specs.Rivals.{narrowest}
use Rattle.covers.proofs.Witnesses.{Same, Mix}

pub narrowest_takes : (u v z : Digits) → Mix u v z → takes (narrowest u v) z ≡ true
narrowest_takes [] [] [] m = refl
narrowest_takes [] [] (z ∷ w) m = absurd m
narrowest_takes [] (y ∷ v) w m = absurd m
narrowest_takes (x ∷ u) [] w m = absurd m
narrowest_takes (x ∷ u) (y ∷ v) [] m = absurd m
narrowest_takes (false ∷ u) (false ∷ v) (false ∷ w) m = narrowest_takes u v w m.1
narrowest_takes (false ∷ u) (false ∷ v) (true ∷ w) m = elim m.0 [ inl e ↦ absurd (both_ways true e refl) | inr e ↦ absurd (both_ways true e refl) ]
narrowest_takes (false ∷ u) (true ∷ v) (z ∷ w) m = narrowest_takes u v w m.1
narrowest_takes (true ∷ u) (false ∷ v) (z ∷ w) m = narrowest_takes u v w m.1
narrowest_takes (true ∷ u) (true ∷ v) (true ∷ w) m = narrowest_takes u v w m.1
narrowest_takes (true ∷ u) (true ∷ v) (false ∷ w) m = elim m.0 [ inl e ↦ absurd (both_ways false refl e) | inr e ↦ absurd (both_ways false refl e) ]

pub takes_narrowest : (u v z : Digits) → Same u v → takes (narrowest u v) z ≡ true → Mix u v z
takes_narrowest [] [] [] s h = tt
takes_narrowest [] [] (z ∷ w) s h = absurd (both_ways false refl h)
takes_narrowest [] (y ∷ v) w s h = absurd s
takes_narrowest (x ∷ u) [] w s h = absurd s
takes_narrowest (false ∷ u) (false ∷ v) [] s h = absurd (both_ways false refl h)
takes_narrowest (false ∷ u) (true ∷ v) [] s h = absurd (both_ways false refl h)
takes_narrowest (true ∷ u) (false ∷ v) [] s h = absurd (both_ways false refl h)
takes_narrowest (true ∷ u) (true ∷ v) [] s h = absurd (both_ways false refl h)
takes_narrowest (false ∷ u) (false ∷ v) (false ∷ w) s h = (inl refl, takes_narrowest u v w s h)
takes_narrowest (false ∷ u) (false ∷ v) (true ∷ w) s h = absurd (both_ways false refl h)
takes_narrowest (false ∷ u) (true ∷ v) (false ∷ w) s h = (inl refl, takes_narrowest u v w s h)
takes_narrowest (false ∷ u) (true ∷ v) (true ∷ w) s h = (inr refl, takes_narrowest u v w s h)
takes_narrowest (true ∷ u) (false ∷ v) (false ∷ w) s h = (inr refl, takes_narrowest u v w s h)
takes_narrowest (true ∷ u) (false ∷ v) (true ∷ w) s h = (inl refl, takes_narrowest u v w s h)
takes_narrowest (true ∷ u) (true ∷ v) (true ∷ w) s h = (inl refl, takes_narrowest u v w s h)
takes_narrowest (true ∷ u) (true ∷ v) (false ∷ w) s h = absurd (both_ways false refl h)
