-- The lists of the lowest and the highest numbers, digit by digit.
use Rattle.std.proofs.Common.{◌≡◌, ℕ, suc, ◌+◌, ◌-◌, ◌^◌, ◌<◌, ◌≤◌, Bool, true, false, cond, not, List, [], ◌∷◌, map, length, sym, refl, ap, ◌∙◌, ap₂, arith}
use lib.Count.{ones}
use Rattle.std.proofs.lemmas.List.{length-map}
use Rattle.covers.specs.declared.symbol.Symbol.TheVariants.{Zero, One}
use Rattle.covers.specs.Digits.{Digits, digits, digit}
use Rattle.covers.specs.Symbols.{Symbols}
use Rattle.covers.specs.Rules.{swap, dashes, below, straight_rows}
use Rattle.covers.specs.RuleEquations.{plain}
use Rattle.covers.proofs.Equations.{plain_digits, swap_dashes, equations_hold}
use Rattle.covers.proofs.RowCounts.{lowest_ones}
use Rattle.covers.proofs.Numbers.{length_digits}
use Rattle.covers.proofs.RowLengths.{Long, long_map, below_long}
use Rattle.rows.specs.declared.row_words.RowWords.{RowWords}
use Rattle.ranges.specs.declared.edge.Edge.{Edge}
use Rattle.ranges.specs.Building.{behind_words, behind_front, turned, edge_list, edge_words, WithDigit}
use Rattle.ranges.proofs.Fronts.{symbol, extended_rows, digit_behind, plain_behind}

pub swap_behind : (d : Bool) (rows : List Symbols) → map (map swap) (map (λ r. symbol d ∷ r) rows) ≡ map (λ r. symbol (not d) ∷ r) (map (map swap) rows)
swap_behind d [] = refl
swap_behind true (r ∷ rows) = ap (λ l. (Zero ∷ map swap r) ∷ l) (swap_behind true rows)
swap_behind false (r ∷ rows) = ap (λ l. (One ∷ map swap r) ∷ l) (swap_behind false rows)

pub turned_long : (e : Bool) (m : ℕ) (rows : List Symbols) → Long m rows → Long m (turned e rows)
turned_long true m rows h = long_map (map swap) m m (λ r k. length-map r swap ∙ k) rows h
turned_long false m rows h = h

pub turned_length : (e : Bool) (rows : List Symbols) → length (turned e rows) ≡ length rows
turned_length true rows = length-map rows (map swap)
turned_length false rows = refl

turned_below_1 : (e : Bool) (u : Digits) → turned e (below (true ∷ u)) ≡ (symbol e ∷ dashes u) ∷ map (λ r. symbol (not e) ∷ r) (turned e (below u))
turned_below_1 false u = refl
turned_below_1 true u = ap₂ (λ (r : Symbols) (l : List Symbols). (One ∷ r) ∷ l) (swap_dashes u) (swap_behind true (below u))

turned_below_0 : (e : Bool) (u : Digits) → turned e (below (false ∷ u)) ≡ map (λ r. symbol e ∷ r) (turned e (below u))
turned_below_0 false u = refl
turned_below_0 true u = swap_behind false (below u)

below_digits_long : (e : Bool) (m c : ℕ) → Long m (turned e (below (digits m c)))
below_digits_long e m c = turned_long e m (below (digits m c)) (rw (length_digits m c) at (below_long (digits m c)))

-- what is written at a place where the number has a 1, and where it has a 0
pub below_step_1 : (front here rest : RowWords) (e : Bool) (m c : ℕ) → digit m c ≡ true → WithDigit front here m e → WithDigit front rest m (not e) →
    map (behind_words front) (turned e (below (digits (suc m) c))) ≡ here ∷ map (behind_words rest) (turned e (below (digits m c)))
below_step_1 front here rest e m c d x y =
    ap (λ t. map (behind_words front) (turned e (below (t ∷ digits m c)))) d ∙
    ap (map (behind_words front)) (turned_below_1 e (digits m c)) ∙
    ap₂ (λ (w : RowWords) (l : List RowWords). w ∷ l)
    (ap (λ r. behind_words front (symbol e ∷ r)) (plain_digits m c) ∙ digit_behind front here m e x)
    (extended_rows front rest m (not e) y (turned e (below (digits m c))) (below_digits_long e m c))

pub below_step_0 : (front rest : RowWords) (e : Bool) (m c : ℕ) → digit m c ≡ false → WithDigit front rest m e →
    map (behind_words front) (turned e (below (digits (suc m) c))) ≡ map (behind_words rest) (turned e (below (digits m c)))
below_step_0 front rest e m c d x =
    ap (λ t. map (behind_words front) (turned e (below (t ∷ digits m c)))) d ∙
    ap (map (behind_words front)) (turned_below_0 e (digits m c)) ∙
    extended_rows front rest m e x (turned e (below (digits m c))) (below_digits_long e m c)

-- the rows that are still to be written at the last p places
abbrev pub left_rows : RowWords → Bool → ℕ → ℕ → List RowWords
left_rows front e p c = map (behind_words front) (turned e (below (digits p c)))

abbrev pub extend : RowWords → ℕ → Bool → RowWords
extend front m d = record { value = front.value + cond d (2 ^ m) 0; care = front.care + 2 ^ m }

pub none_left : (front : RowWords) (e : Bool) (c : ℕ) → left_rows front e 0 c ≡ []
none_left front true c = refl
none_left front false c = refl

-- the list of the lowest or highest numbers: all of them, or fewer
pub edge_whole : (m count : ℕ) (e : Bool) → count ≡ 2 ^ m → edge_list m count e ≡ plain m ∷ []
unfolding edge_list
edge_whole m count e h = ap (λ k. turned e (straight_rows m 0 (k - 1))) h ∙ ap (turned e) (equations_hold.whole m) ∙ turned_plain e
  where
    turned_plain : (e : Bool) → turned e (plain m ∷ []) ≡ plain m ∷ []
    turned_plain true = ap (λ r. r ∷ []) (ap (map swap) (sym (plain_digits m 0)) ∙ swap_dashes (digits m 0) ∙ plain_digits m 0)
    turned_plain false = refl

pub edge_below : (m count : ℕ) (e : Bool) → 1 ≤ count → count < 2 ^ m → edge_list m count e ≡ turned e (below (digits m count))
unfolding edge_list
edge_below m count e p h =
    let k : count - 1 + 1 ≡ count = omega arith in
    ap (turned e) (equations_hold.from_zero m (count - 1) (omega arith) ∙ ap (λ c. below (digits m c)) k)

-- as many rows as ones
pub edge_length : (m count : ℕ) (e : Bool) → 1 ≤ count → count ≤ 2 ^ m → length (edge_list m count e) ≡ ones count
unfolding edge_list
edge_length m count e p h =
    let k : count - 1 + 1 ≡ count = omega arith in
    turned_length e (straight_rows m 0 (count - 1)) ∙ lowest_ones m (count - 1) (omega arith) ∙ ap ones k

-- the words that are to be written, while not all numbers are in
module _ (edge : Edge) where
  pub edge_left : edge.count < 2 ^ edge.front.places → edge_words edge ≡ left_rows edge.front.words edge.exchanged edge.front.places edge.count
  edge_left h = ap (map (behind_front edge.front)) (edge_below edge.front.places edge.count edge.exchanged edge.some h)

  pub edge_count : length (edge_words edge) ≡ ones edge.count
  edge_count =
      length-map (edge_list edge.front.places edge.count edge.exchanged) (behind_front edge.front) ∙
      edge_length edge.front.places edge.count edge.exchanged edge.some edge.count_within

  pub edge_all : edge.count ≡ 2 ^ edge.front.places → edge_words edge ≡ edge.front.words ∷ []
  edge_all h =
      ap (map (behind_front edge.front)) (edge_whole edge.front.places edge.count edge.exchanged h) ∙
      ap {B = List RowWords} (λ w. w ∷ []) (plain_behind edge.front.words edge.front.places)
