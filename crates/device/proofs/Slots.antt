-- Whether some slot takes a number, slot by slot.
use Rattle.std.proofs.Common.{◌≡◌, ℕ, zero, suc, ◌+◌, ◌<◌, ◌≤◌, Bool, true, false, ◌||◌, List, [], ◌∷◌, ◌++◌, length, get_or, take, None, sym, refl, ap, ◌∙◌, suc-le-suc, le_of_suc-le-suc, not-suc-le-zero, zero-lt-suc, take_all}
use Rattle.std.proofs.lemmas.List.{take_more}
use Rattle.device.specs.States.{Slot, slot_takes, some_slot_takes}

none_append : (x : ℕ) (slots more : List Slot) → some_slot_takes slots x ≡ false → some_slot_takes more x ≡ false → some_slot_takes (slots ++ more) x ≡ false
none_append x [] more p q = q
none_append x (s ∷ slots) more p q = go (slot_takes s x) p (λ h. none_append x slots more h q)
  where
    go : (t : Bool) → (t || some_slot_takes slots x) ≡ false → (some_slot_takes slots x ≡ false → some_slot_takes (slots ++ more) x ≡ false) → (t || some_slot_takes (slots ++ more) x) ≡ false
    go true h rest = h
    go false h rest = rest h

or_false : (t : Bool) → t ≡ false → (t || false) ≡ false
or_false t h = rw h

-- one slot more, which does not take the number
pub none_more : (x : ℕ) (slots : List Slot) (i : ℕ) → i < length slots → some_slot_takes (take i slots) x ≡ false → slot_takes (get_or slots i None) x ≡ false → some_slot_takes (take (i + 1) slots) x ≡ false
none_more x slots i h p q =
    ap (λ (l : List Slot). some_slot_takes l x) (take_more slots i None h) ∙ none_append x (take i slots) (get_or slots i None ∷ []) p (or_false _ q)

pub none_all : (x : ℕ) (slots : List Slot) (i : ℕ) → length slots ≤ i → some_slot_takes (take i slots) x ≡ false → some_slot_takes slots x ≡ false
none_all x slots i h p = sym (ap (λ (l : List Slot). some_slot_takes l x) (take_all i slots h)) ∙ p

or_true : (t : Bool) → (t || true) ≡ true
or_true true = refl
or_true false = refl

-- a slot that takes the number
pub one_takes : (x : ℕ) (slots : List Slot) (i : ℕ) → i < length slots → slot_takes (get_or slots i None) x ≡ true → some_slot_takes slots x ≡ true
one_takes x [] i h q = absurd (not-suc-le-zero h)
one_takes x (s ∷ slots) zero h q = rw q
one_takes x (s ∷ slots) (suc i) h q = rw (one_takes x slots i (le_of_suc-le-suc h) q) (or_true (slot_takes s x))

-- no slot takes the number
pub none_by_index : (x : ℕ) (slots : List Slot) → ((i : ℕ) → i < length slots → slot_takes (get_or slots i None) x ≡ false) → some_slot_takes slots x ≡ false
none_by_index x [] none = refl
none_by_index x (s ∷ slots) none =
    ap (λ (t : Bool). t || some_slot_takes slots x) (none 0 (zero-lt-suc (length slots))) ∙ none_by_index x slots (λ i h. none (suc i) (suc-le-suc h))
