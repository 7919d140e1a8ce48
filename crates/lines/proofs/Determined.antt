-- A line has at most one meaning.
use Rattle.std.proofs.Common.{◌≡◌, ℕ, List, sym, ap, ◌∙◌, subst, ap₂}
use Rattle.rows.specs.declared.range.Range.{Range}
use Rattle.lines.specs.declared.command.Command.{Command}
use Rattle.lines.specs.declared.command.Command.TheVariants.{Edit, Ask}
use Rattle.rows.specs.declared.edit.Edit.TheVariants.{Add, Drop}
use Rattle.lines.specs.declared.command.Setup.{Setup}
use Rattle.lines.specs.Lines.{Means, SetsUp}
use Rattle.lines.specs.Numbers.{Written, WrittenPair}
use Rattle.lines.proofs.Meanings.{means_add, means_drop, means_ask}
use Rattle.lines.proofs.Pairs.{same_left, same_right}

one_number : (text : List ℕ) (x y : ℕ) → Written text x → Written text y → x ≡ y
one_number text x y a b = sym a.number ∙ b.number

module _ (text : List ℕ) (x y u v : ℕ) (a : WrittenPair text x y) (b : WrittenPair text u v) where
  pub first_determined : x ≡ u
  first_determined = one_number a.left x u a.first (subst (λ t. Written t u) (sym (same_left text x y u v a b)) b.first)

  pub second_determined : y ≡ v
  second_determined = one_number a.right y v a.second (subst (λ t. Written t v) (sym (same_right text x y u v a b)) b.second)

range_determined : (text : List ℕ) (r s : Range) → WrittenPair text r.first r.last → WrittenPair text s.first s.last → s ≡ r
range_determined text r s a b =
    ap₂ (λ f l. record { first = f; last = l }) (sym (first_determined text r.first r.last s.first s.last a b)) (sym (second_determined text r.first r.last s.first s.last a b))

pub command_determined : (line : List ℕ) (c d : Command) → Means line c → Means line d → d ≡ c
command_determined line (Edit (Add r)) d m k = let q = means_add line m.0 m.1 d k in q.1 ∙ ap (λ x. Edit (Add x)) (range_determined m.0 r q.0 m.2 q.2)
command_determined line (Edit (Drop r)) d m k = let q = means_drop line m.0 m.1 d k in q.1 ∙ ap (λ x. Edit (Drop x)) (range_determined m.0 r q.0 m.2 q.2)
command_determined line (Ask x) d m k =
    let q = means_ask line m.0 m.1 d k in
    q.1 ∙ ap Ask (sym (one_number m.0 x q.0 m.2 q.2))

pub setup_determined : (line : List ℕ) (s t : Setup) → SetsUp line s → SetsUp line t → t ≡ s
setup_determined line s t m k =
    ap₂ (λ w n. record { width = w; slots = n }) (sym (first_determined line s.width s.slots t.width t.slots m k)) (sym (second_determined line s.width s.slots t.width t.slots m k))
