-- Two numbers, parted at the first space.
use Rattle.std.proofs.Common.{◌≡◌, ℕ, ◌+◌, ◌-◌, ◌<◌, ◌⊎◌, List, ◌∷◌, Some, Option, IfSome, MatchOption, length, get_or, take, drop, sym, refl, ap, ◌∙◌, subst, inl, inr, arith}
use Rattle.std.proofs.lemmas.List.{get_or_append_left, get_or_at, take_at, drop_at, drop_more, take_rest, length-append}
use Rattle.std.proofs.lemmas.Str.Parse.{digit_at}
use Rattle.std.proofs.lemmas.Bool.{cases_order}
use Rattle.lines.specs.Numbers.{Written, WrittenPair}

abbrev pub Spaceless : List ℕ → ℕ → Type 0
Spaceless text n = (k : ℕ) → k < n → get_or text k 0 ≡ 32 → ⊥

module _ (text : List ℕ) (x y : ℕ) (w : WrittenPair text x y) where
  at_left : get_or text (length w.left) 0 ≡ 32
  at_left = ap (λ t. get_or t (length w.left) 0) w.parts ∙ get_or_at w.left 32 w.right 0 (length w.left) refl

  within : length w.left < length text
  within = let e = ap length w.parts in let l = length-append w.left (32 ∷ w.right) in omega arith

  -- a pair has a space
  pub some_space : Spaceless text (length text) → ⊥
  some_space none = none (length w.left) within at_left

  not_before : (i : ℕ) → get_or text i 0 ≡ 32 → i < length w.left → ⊥
  not_before i e h =
      let d = digit_at w.left i w.first.digits.1 h in
      let same = sym (ap (λ t. get_or t i 0) w.parts ∙ get_or_append_left w.left (32 ∷ w.right) 0 i h) ∙ e in
      omega arith

  here : (i : ℕ) → get_or text i 0 ≡ 32 → Spaceless text i → i ≡ length w.left
  here i e none = by (cases_order i (length w.left))
    where
      by : (i ≡ length w.left) ⊎ ((i < length w.left) ⊎ (length w.left < i)) → i ≡ length w.left
      by (inl q) = q
      by (inr (inl h)) = absurd (not_before i e h)
      by (inr (inr h)) = absurd (none (length w.left) h at_left)

  -- its numbers stand before and after the first one
  pub left_part : (i : ℕ) → get_or text i 0 ≡ 32 → Spaceless text i → Written (take i text) x
  left_part i e none =
      let same = ap (take i) w.parts ∙ take_at w.left (32 ∷ w.right) i (sym (here i e none)) in
      subst (λ t. Written t x) (sym same) w.first

  pub right_part : (i : ℕ) → get_or text i 0 ≡ 32 → Spaceless text i → Written (take (length text - (i + 1)) (drop (i + 1) text)) y
  right_part i e none =
      let one = drop_more text i 0 in
      let at = drop_at w.left (32 ∷ w.right) i (sym (here i e none)) in
      let there = here i e none in
      let h : i < length text = subst (λ k. k < length text) (sym there) within in
      let whole = sym (drop_more text i 0 h) ∙ ap (drop i) w.parts ∙ at in
      let same : drop (i + 1) text ≡ w.right = cc in
      subst (λ t. Written t y) (sym (take_rest text (i + 1) ∙ same)) w.second

-- so a search for the first space parts a pair
pub parted : (text : List ℕ) (found : Option ℕ) (i x y : ℕ) → found ≡ Some i → MatchOption found (Spaceless text (length text)) (Spaceless text) →
    IfSome found (λ k. (k < length text) × (get_or text k 0 ≡ 32)) → WrittenPair text x y →
    Written (take i text) x × Written (take (length text - (i + 1)) (drop (i + 1) text)) y
parted text found i x y e before at w =
    let none = rw e at before in
    let space = rw e at at in
    (left_part text x y w i space.1 none, right_part text x y w i space.1 none)

-- a pair is parted in one way
module _ (text : List ℕ) (x y u v : ℕ) (a : WrittenPair text x y) (b : WrittenPair text u v) where
  none_before : Spaceless text (length a.left)
  none_before k h e = not_before text x y a k e h

  same_place : length a.left ≡ length b.left
  same_place = here text u v b (length a.left) (at_left text x y a) none_before

  pub same_left : a.left ≡ b.left
  same_left = sym (take_at a.left (32 ∷ a.right) (length a.left) refl) ∙ ap (take (length a.left)) (sym a.parts ∙ b.parts) ∙ take_at b.left (32 ∷ b.right) (length a.left) (sym same_place)

  pub same_right : a.right ≡ b.right
  same_right =
      let l = sym (drop_at a.left (32 ∷ a.right) (length a.left) refl) in
      let r = ap (drop (length a.left)) (sym a.parts ∙ b.parts) ∙ drop_at b.left (32 ∷ b.right) (length a.left) (sym same_place) in
      let e = l ∙ r in
      cc
