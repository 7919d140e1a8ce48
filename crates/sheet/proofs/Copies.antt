-- One more element written over the start of memory.
use Rattle.std.proofs.Common.{◌≡◌, ℕ, ◌+◌, ◌-◌, ◌<◌, ◌≤◌, List, [], ◌∷◌, ◌++◌, length, get_or, take, drop, set, sym, ap, ◌∙◌, ap₂, append-nil, arith}
use Rattle.std.proofs.lemmas.List.{set-append_right, length-take-le, drop_more, drop_all, take_all, take_more, append_assoc}

pub copied_more : {X : Type 0} (s before : List X) (i : ℕ) (d : X) → i < length s → i < length before →
    set (take i s ++ drop i before) i (get_or s i d) ≡ take (i + 1) s ++ drop (i + 1) before
copied_more s before i d h k =
    let n : i - i ≡ 0 = omega arith in
    set-append_right (take i s) (drop i before) i i (get_or s i d) (length-take-le i s (omega arith)) (omega arith) ∙
    ap₂ (λ (m : ℕ) (ys : List _). take i s ++ set ys m (get_or s i d)) n (drop_more before i d k) ∙
    sym (ap (λ (xs : List _). xs ++ drop (i + 1) before) (take_more s i d h) ∙ append_assoc (take i s) (get_or s i d ∷ []) (drop (i + 1) before))

pub copied_all : {X : Type 0} (s before : List X) (i : ℕ) → length s ≤ i → length before ≤ i → take i s ++ drop i before ≡ s
copied_all s before i h k = ap₂ (λ (xs ys : List _). xs ++ ys) (take_all i s h) (drop_all i before k) ∙ append-nil s
