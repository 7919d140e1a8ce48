-- Lists written into memory one after the other.
use Rattle.std.proofs.Common.{◌≡◌, ℕ, suc, ◌+◌, ◌<◌, ◌≤◌, List, [], ◌∷◌, ◌++◌, length, take, drop, set, sym, ap, ◌∙◌, ap₂, add-zero, arith}
use Rattle.std.proofs.lemmas.List.{append_assoc, take-append-drop, take_more_set, drop-set-lt, length-set}
use Rattle.rows.specs.Memory.{written}

module _ {X : Type 0} where
  pub written_none : (xs : List X) (at : ℕ) → written xs at [] ≡ xs
  written_none xs at = ap (λ k. take at xs ++ drop k xs) (add-zero at) ∙ take-append-drop at xs

  pub written_first : (xs : List X) (at : ℕ) (w : X) (rest : List X) → at < length xs →
      written xs at (w ∷ rest) ≡ written (set xs at w) (at + 1) rest
  written_first xs at w rest h =
      let low : at < at + 1 + length rest = omega arith in
      let e : at + suc (length rest) ≡ at + 1 + length rest = omega arith in
      ap (λ k. take at xs ++ (w ∷ (rest ++ drop k xs))) e ∙
      sym (append_assoc (take at xs) (w ∷ []) (rest ++ drop (at + 1 + length rest) xs)) ∙
      ap₂ (λ (p q : List X). p ++ (rest ++ q)) (sym (take_more_set xs at w h)) (sym (drop-set-lt (at + 1 + length rest) xs at w low))

  pub written_one : (xs : List X) (at : ℕ) (w : X) → at < length xs → written xs at (w ∷ []) ≡ set xs at w
  written_one xs at w h = written_first xs at w [] h ∙ written_none (set xs at w) (at + 1)

  pub length_written : (rows xs : List X) (at : ℕ) → at + length rows ≤ length xs → length (written xs at rows) ≡ length xs
  length_written [] xs at h = ap length (written_none xs at)
  length_written (w ∷ rows) xs at h =
      let l = length-set xs at w in
      ap length (written_first xs at w rows (omega arith)) ∙ length_written rows (set xs at w) (at + 1) (omega arith) ∙ l

  pub written_join : (done rest xs : List X) (at : ℕ) → at + length done ≤ length xs →
      written (written xs at done) (at + length done) rest ≡ written xs at (done ++ rest)
  written_join [] rest xs at h = ap₂ (λ m k. written m k rest) (written_none xs at) (add-zero at)
  written_join (w ∷ done) rest xs at h =
      let l = length-set xs at w in
      let low : at < length xs = omega arith in
      let e : at + suc (length done) ≡ at + 1 + length done = omega arith in
      ap₂ (λ m k. written m k rest) (written_first xs at w done low) e ∙ written_join done rest (set xs at w) (at + 1) (omega arith) ∙
      sym (written_first xs at w (done ++ rest) low)

  -- a list of known length written after another
  pub written_after : (done rest xs ys : List X) (at next : ℕ) → at + length done ≤ length xs → ys ≡ written xs at done → next ≡ at + length done →
      written ys next rest ≡ written xs at (done ++ rest)
  written_after done rest xs ys at next h e n = ap₂ (λ m k. written m k rest) e n ∙ written_join done rest xs at h
