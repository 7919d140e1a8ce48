-- What a line can mean, by its first two bytes.
use Rattle.std.proofs.Common.{◌≡◌, ℕ, ◌-◌, ◌≤◌, List, ◌∷◌, length, get_or, take, drop, sym, refl, ap, ◌∙◌, subst, arith}
use Rattle.std.proofs.lemmas.List.{drop_more, take_rest}
use Rattle.rows.specs.declared.range.Range.{Range}
use Rattle.lines.specs.declared.command.Command.{Command}
use Rattle.lines.specs.declared.command.Command.TheVariants.{Edit, Ask}
use Rattle.rows.specs.declared.edit.Edit.TheVariants.{Add, Drop}
use Rattle.lines.specs.Lines.{Means}
use Rattle.lines.specs.Numbers.{Written, WrittenPair}

-- a line by its first two bytes and the rest
pub opened_line : (line : List ℕ) (v s : ℕ) → 2 ≤ length line → get_or line 0 0 ≡ v → get_or line 1 0 ≡ s → line ≡ v ∷ (s ∷ take (length line - 2) (drop 2 line))
opened_line line v s h a b =
    drop_more line 0 0 (omega arith) ∙ ap (λ x. x ∷ drop 1 line) a ∙
    ap (λ t. v ∷ t) (drop_more line 1 0 (omega arith) ∙ ap (λ x. x ∷ drop 2 line) b ∙ ap (λ t. s ∷ t) (sym (take_rest line 2)))

same_rest : (v : ℕ) (rest other : List ℕ) → v ∷ (32 ∷ rest) ≡ v ∷ (32 ∷ other) → other ≡ rest
same_rest v rest other e = cc

other_verb : (v w : ℕ) (rest other : List ℕ) → v ∷ (32 ∷ rest) ≡ w ∷ (32 ∷ other) → v ≡ w
other_verb v w rest other e = cc

module _ (line rest : List ℕ) where
  pub means_add : line ≡ 43 ∷ (32 ∷ rest) → (c : Command) → Means line c → (r : Range) × (c ≡ Edit (Add r)) × WrittenPair rest r.first r.last
  means_add e (Edit (Add r)) m = (r, refl, subst (λ t. WrittenPair t r.first r.last) (same_rest 43 rest m.0 (sym e ∙ m.1)) m.2)
  means_add e (Edit (Drop r)) m = let z = other_verb 43 45 rest m.0 (sym e ∙ m.1) in absurd (omega arith)
  means_add e (Ask x) m = let z = other_verb 43 63 rest m.0 (sym e ∙ m.1) in absurd (omega arith)

  pub means_drop : line ≡ 45 ∷ (32 ∷ rest) → (c : Command) → Means line c → (r : Range) × (c ≡ Edit (Drop r)) × WrittenPair rest r.first r.last
  means_drop e (Edit (Add r)) m = let z = other_verb 45 43 rest m.0 (sym e ∙ m.1) in absurd (omega arith)
  means_drop e (Edit (Drop r)) m = (r, refl, subst (λ t. WrittenPair t r.first r.last) (same_rest 45 rest m.0 (sym e ∙ m.1)) m.2)
  means_drop e (Ask x) m = let z = other_verb 45 63 rest m.0 (sym e ∙ m.1) in absurd (omega arith)

  pub means_ask : line ≡ 63 ∷ (32 ∷ rest) → (c : Command) → Means line c → (x : ℕ) × (c ≡ Ask x) × Written rest x
  means_ask e (Edit (Add r)) m = let z = other_verb 63 43 rest m.0 (sym e ∙ m.1) in absurd (omega arith)
  means_ask e (Edit (Drop r)) m = let z = other_verb 63 45 rest m.0 (sym e ∙ m.1) in absurd (omega arith)
  means_ask e (Ask x) m = (x, refl, subst (λ t. Written t x) (same_rest 63 rest m.0 (sym e ∙ m.1)) m.2)
