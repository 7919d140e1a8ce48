-- Which slots the calls of a filter put or empty.
use Rattle.std.specs.Prelude.{ℕ, List, [], Ok, Err, Result}
use Rattle.std.specs.List.{range_with_len}
use Rattle.rows.specs.declared.refusal.Refusal.{Refusal}

-- each of so many slots, from 0 upward
abbrev pub all_slots : ℕ → List ℕ
all_slots count = range_with_len 0 count

-- an edit that is granted writes each slot of the device once; a refused one writes none
abbrev pub edit_writes : {X : Type 0} → Result X Refusal → ℕ → List ℕ
edit_writes (Ok x) count = all_slots count
edit_writes (Err e) count = []
