-- Calls made one after the other, where a step says of a call and the state before it what is answered, and the state after it.
use Rattle.std.specs.Prelude.{ℕ, List, [], ◌∷◌, ◌++◌, map}
use Rattle.device.specs.declared.exchange.Exchange.{Exchange}

abbrev pub calls_of : {C A : Type 0} → List (Exchange C A) → List C
calls_of exchanges = map (λ e. e.call) exchanges

-- the state after all the calls
abbrev pub after_all : {S C A : Type 0} → (C → S → A × S) → S → List C → S
after_all step s [] = s
after_all step s (c ∷ calls) = after_all step (step c s).1 calls

-- the calls, each with its answer beside it
abbrev pub answered_all : {S C A : Type 0} → (C → S → A × S) → S → List C → List (Exchange C A)
answered_all step s [] = []
answered_all step s (c ∷ calls) = record { call = c; answer = (step c s).0 } ∷ answered_all step (step c s).1 calls

-- the slots that the calls have written, one call after the other
abbrev pub written_all : {S C A : Type 0} → (S → C → List ℕ) → (C → S → A × S) → S → List C → List ℕ
written_all written step s [] = []
written_all written step s (c ∷ calls) = written s c ++ written_all written step (step c s).1 calls
