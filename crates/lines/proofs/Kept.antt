-- Lines as a buffer keeps them.
use Rattle.std.proofs.Common.{◌≡◌, ℕ, ◌≤◌, Bool, true, false, cond, leb, List, length, Some, None, refl, arith}
use Rattle.std.proofs.lemmas.Bool.{leb-true}
use Rattle.lines.specs.Buffers.{kept}

pub short_kept : (line text : List ℕ) → Some text ≡ kept line → (line ≡ text) × (length line ≤ 64)
short_kept line text = go (leb (length line) 64) refl
  where
    go : (v : Bool) → leb (length line) 64 ≡ v → Some text ≡ cond v (Some line) None → (line ≡ text) × (length line ≤ 64)
    go true h e = (cc, leb-true (length line) 64 h)
    go false h e = let z : ◌≡◌ {A = ℕ} 0 1 = cc in absurd (omega arith)
