-- Each line means a command or none, and each first line sets up or does not.
use Rattle.std.proofs.Common.{◌≡◌, ℕ, zero, suc, ◌+◌, ◌-◌, ◌<◌, ◌≤◌, ◌⊎◌, List, [], ◌∷◌, ◌++◌, length, get_or, take, drop, sym, refl, ap, ◌∙◌, ap₂, inl, inr, arith}
use Rattle.std.specs.Char.{digit_value}
use Rattle.std.specs.Str.Parse.{AllDigits, digits_value}
use Rattle.std.proofs.lemmas.List.{take-append-drop, drop_more, take_rest}
use Rattle.std.proofs.lemmas.Bool.{cases_eq, cases_lt}
use Rattle.lines.specs.declared.command.Command.{Command}
use Rattle.lines.specs.declared.command.Command.TheVariants.{Edit, Ask}
use Rattle.rows.specs.declared.edit.Edit.TheVariants.{Add, Drop}
use Rattle.lines.specs.Lines.{Means, SetsUp}
use Rattle.lines.specs.Numbers.{Written, WrittenPair}
use Rattle.lines.proofs.Meanings.{means_add, means_drop, means_ask}
use Rattle.lines.proofs.Pairs.{Spaceless, some_space, left_part, right_part}

-- one that meets this, or the proof that none does
abbrev pub OneOrNone : {X : Type 0} → (X → Type 0) → Type 0
OneOrNone {X} P = ((x : X) × P x) ⊎ ((x : X) → P x → ⊥)

-- the same of Q, where what meets P and what meets Q come from each other
from_other : {X Y : Type 0} (P : X → Type 0) (Q : Y → Type 0) (f : X → Y) → ((x : X) → P x → Q (f x)) → ((y : Y) → Q y → (x : X) × P x) → OneOrNone P → OneOrNone Q
from_other P Q f to back (inl p) = inl (f p.0, to p.0 p.1)
from_other P Q f to back (inr none) = inr (λ y q. let p = back y q in none p.0 p.1)

-- a number
digits_or_not : (text : List ℕ) → AllDigits 10 text ⊎ (AllDigits 10 text → ⊥)
digits_or_not [] = inl tt
digits_or_not (c ∷ cs) = by (cases_lt (digit_value c) 10) (digits_or_not cs)
  where
    by : (digit_value c < 10) ⊎ (10 ≤ digit_value c) → AllDigits 10 cs ⊎ (AllDigits 10 cs → ⊥) → AllDigits 10 (c ∷ cs) ⊎ (AllDigits 10 (c ∷ cs) → ⊥)
    by (inl h) (inl all) = inl (h, all)
    by (inl h) (inr other) = inr (λ a. other a.1)
    by (inr h) d = inr (λ a. let k = a.0 in omega arith)

number_or_none : (text : List ℕ) → OneOrNone (Written text)
number_or_none text = by (cases_lt 0 (length text)) (cases_lt 10 (length text)) (digits_or_not text)
  where
    by : (0 < length text) ⊎ (length text ≤ 0) → (10 < length text) ⊎ (length text ≤ 10) → AllDigits 10 text ⊎ (AllDigits 10 text → ⊥) → OneOrNone (Written text)
    by (inl some) (inr few) (inl all) = inl (digits_value 10 text, record { digits = (some, all); few = few; number = refl })
    by (inl some) (inr few) (inr other) = inr (λ x w. other w.digits.1)
    by (inl some) (inl many) d = inr (λ x w. let k = w.few in omega arith)
    by (inr empty) n d = inr (λ x w. let k = w.digits.0 in omega arith)

-- two numbers with one space between them
abbrev FirstSpace : List ℕ → Type 0
FirstSpace text = (i : ℕ) × (i < length text) × (get_or text i 0 ≡ 32) × Spaceless text i

first_space : (text : List ℕ) → FirstSpace text ⊎ Spaceless text (length text)
first_space [] = inr (λ k h e. omega arith)
first_space (c ∷ cs) = by (cases_eq c 32) (first_space cs)
  where
    further : (n : ℕ) → (c ≡ 32 → ⊥) → Spaceless cs n → Spaceless (c ∷ cs) (suc n)
    further n other none zero h e = other e
    further n other none (suc k) h e = none k (omega arith) e

    by : (c ≡ 32) ⊎ (c ≡ 32 → ⊥) → FirstSpace cs ⊎ Spaceless cs (length cs) → FirstSpace (c ∷ cs) ⊎ Spaceless (c ∷ cs) (length (c ∷ cs))
    by (inl space) s = inl (0, omega arith, space, λ k h e. omega arith)
    by (inr other) (inl s) = inl (suc s.0, omega (arith, s.1), s.2, further s.0 other s.3)
    by (inr other) (inr none) = inr (further (length cs) other none)

abbrev Pair : List ℕ → ℕ × ℕ → Type 0
Pair text p = WrittenPair text p.0 p.1

module _ (text : List ℕ) (i : ℕ) (within : i < length text) (space : get_or text i 0 ≡ 32) (first : Spaceless text i) where
  abbrev left : List ℕ
  left = take i text

  abbrev right : List ℕ
  right = take (length text - (i + 1)) (drop (i + 1) text)

  parts : text ≡ left ++ 32 ∷ right
  parts =
      sym (take-append-drop i text) ∙
      ap (λ t. take i text ++ t) (drop_more text i 0 within ∙ ap₂ (λ b t. b ∷ t) space (sym (take_rest text (i + 1))))

  both_or_none : OneOrNone (Written left) → OneOrNone (Written right) → OneOrNone (Pair text)
  both_or_none (inl a) (inl b) = inl ((a.0, b.0), record { left = left; right = right; parts = parts; first = a.1; second = b.1 })
  both_or_none (inl a) (inr none) = inr (λ p w. none p.1 (right_part text p.0 p.1 w i space first))
  both_or_none (inr none) b = inr (λ p w. none p.0 (left_part text p.0 p.1 w i space first))

pair_or_none : (text : List ℕ) → OneOrNone (Pair text)
pair_or_none text = by (first_space text)
  where
    by : FirstSpace text ⊎ Spaceless text (length text) → OneOrNone (Pair text)
    by (inl s) = both_or_none text s.0 s.1 s.2 s.3 (number_or_none _) (number_or_none _)
    by (inr none) = inr (λ p w. some_space text p.0 p.1 w none)

-- the first line
pub setup_or_none : (line : List ℕ) → OneOrNone (SetsUp line)
setup_or_none line = from_other (Pair line) (SetsUp line) (λ p. record { width = p.0; slots = p.1 }) (λ p w. w) (λ s w. ((s.width, s.slots), w)) (pair_or_none line)

-- a later line
as_long : (line : List ℕ) (c : Command) → Means line c → 2 ≤ length line
as_long line (Edit (Add r)) m = let e = ap length m.1 in omega arith
as_long line (Edit (Drop r)) m = let e = ap length m.1 in omega arith
as_long line (Ask x) m = let e = ap length m.1 in omega arith

second_byte : (line : List ℕ) (c : Command) → Means line c → get_or line 1 0 ≡ 32
second_byte line (Edit (Add r)) m = ap (λ t. get_or t 1 0) m.1
second_byte line (Edit (Drop r)) m = ap (λ t. get_or t 1 0) m.1
second_byte line (Ask x) m = ap (λ t. get_or t 1 0) m.1

abbrev NoVerb : ℕ → Type 0
NoVerb v = (v ≡ 43 → ⊥) × (v ≡ 45 → ⊥) × (v ≡ 63 → ⊥)

some_verb : (line : List ℕ) (c : Command) → Means line c → NoVerb (get_or line 0 0) → ⊥
some_verb line (Edit (Add r)) m none = none.0 (ap (λ t. get_or t 0 0) m.1)
some_verb line (Edit (Drop r)) m none = none.1 (ap (λ t. get_or t 0 0) m.1)
some_verb line (Ask x) m none = none.2 (ap (λ t. get_or t 0 0) m.1)

module _ (line rest : List ℕ) where
  added_or_none : line ≡ 43 ∷ (32 ∷ rest) → OneOrNone (Means line)
  added_or_none e =
      from_other (Pair rest) (Means line) (λ p. Edit (Add record { first = p.0; last = p.1 })) (λ p w. (rest, e, w))
      (λ c m. let k = means_add line rest e c m in ((k.0.first, k.0.last), k.2)) (pair_or_none rest)

  dropped_or_none : line ≡ 45 ∷ (32 ∷ rest) → OneOrNone (Means line)
  dropped_or_none e =
      from_other (Pair rest) (Means line) (λ p. Edit (Drop record { first = p.0; last = p.1 })) (λ p w. (rest, e, w))
      (λ c m. let k = means_drop line rest e c m in ((k.0.first, k.0.last), k.2)) (pair_or_none rest)

  asked_or_none : line ≡ 63 ∷ (32 ∷ rest) → OneOrNone (Means line)
  asked_or_none e =
      from_other (Written rest) (Means line) Ask (λ x w. (rest, e, w))
      (λ c m. let k = means_ask line rest e c m in (k.0, k.2)) (number_or_none rest)

pub command_or_none : (line : List ℕ) → OneOrNone (Means line)
command_or_none [] = inr (λ c m. let k = as_long [] c m in omega arith)
command_or_none (v ∷ []) = inr (λ c m. let k = as_long (v ∷ []) c m in omega arith)
command_or_none (v ∷ (s ∷ rest)) = by (cases_eq s 32) (cases_eq v 43) (cases_eq v 45) (cases_eq v 63)
  where
    opened : (w : ℕ) → v ≡ w → s ≡ 32 → v ∷ (s ∷ rest) ≡ w ∷ (32 ∷ rest)
    opened w is space = ap₂ (λ a b. a ∷ (b ∷ rest)) is space

    by : (s ≡ 32) ⊎ (s ≡ 32 → ⊥) → (v ≡ 43) ⊎ (v ≡ 43 → ⊥) → (v ≡ 45) ⊎ (v ≡ 45 → ⊥) → (v ≡ 63) ⊎ (v ≡ 63 → ⊥) → OneOrNone (Means (v ∷ (s ∷ rest)))
    by (inl space) (inl plus) b c = added_or_none _ rest (opened 43 plus space)
    by (inl space) (inr a) (inl minus) c = dropped_or_none _ rest (opened 45 minus space)
    by (inl space) (inr a) (inr b) (inl mark) = asked_or_none _ rest (opened 63 mark space)
    by (inl space) (inr a) (inr b) (inr c) = inr (λ d m. some_verb _ d m (a, b, c))
    by (inr other) a b c = inr (λ d m. other (second_byte _ d m))
