-- What a device that counts what is written keeps.
use Rattle.std.specs.Prelude.{◌≡◌, ℕ, List, slice_index}
use Rattle.std.specs.List.{Contains}

-- a slot that is not among the written ones has the count that it had
pub record KeepsCounts (old : List ℕ) (written : List ℕ) (new : List ℕ) : Type 0 where
  pub unwritten : (slot : ℕ) → ¬ Contains written slot → slice_index new slot ≡ slice_index old slot
