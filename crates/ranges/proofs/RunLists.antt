-- The lists of straight runs and of runs that go round, as words behind a front.
use Rattle.std.proofs.Common.{◌≡◌, ℕ, zero, suc, ◌+◌, ◌-◌, ◌*◌, ◌/◌, ◌%◌, ◌^◌, ◌<◌, ◌≤◌, Bool, true, false, cond, not, List, [], ◌∷◌, ◌++◌, map, length, take, Ok, sym, subst, refl, ap, ◌∙◌, ap₂, ltb, inl, inr, add_assoc, mod-lt, add-mul, zero-add, arith, pow_pos, pow_mono, pow-add}
use Rattle.std.specs.List.{AllByRecursion}
use Rattle.std.specs.Prelude.{◌==◌}
use lib.Arith.{digits_lt}
use lib.Bits.{bit_and, bit_xor, xor_shr, xor_self, xor_assoc, xor_zero_l, xor_zero_r, xor_lt}
use Rattle.std.proofs.lemmas.Nat.{shr_split, shr_below, div_below, le-div, xor_mod}
use Rattle.std.proofs.lemmas.List.{length-map, take_at}
use Rattle.std.proofs.lemmas.Bool.{and_parts, cases_lt, le-leb, lt-leb, lt-ltb, ltb-true}
use Rattle.covers.specs.declared.symbol.Symbol.TheVariants.{Zero, One, Dash}
use Rattle.covers.specs.Digits.{digit}
use Rattle.covers.specs.RuleEquations.{plain}
use Rattle.covers.specs.Symbols.{Symbols}
use Rattle.covers.specs.Words.{value_word, care_word, symbols}
use Rattle.covers.specs.Rules.{swap_first, straight_rows, round_rows, rows_of_run, rows_of_range}
use Rattle.covers.proofs.Equations.{equations_hold}
use Rattle.covers.proofs.RowWords.{symbols_back, care_word_fits, clean_word}
use Rattle.covers.proofs.Lists.{all_map}
use Rattle.covers.proofs.RangeLists.{range_few, most_few}
use Rattle.covers.proofs.RowLengths.{Long, straight_rows_long, round_rows_long}
use Rattle.rows.specs.declared.row_words.RowWords.{RowWords}
use Rattle.ranges.specs.declared.front.Front.{Front}
use Rattle.ranges.specs.declared.lead.Lead.{Lead}
use Rattle.ranges.specs.declared.ends.Ends.{Ends}
use Rattle.ranges.specs.declared.stretch.Stretch.{Stretch}
use Rattle.ranges.specs.Building.{behind_words, behind_front, behind_lead, across_rows, straight_words, round_words, stretch_words, range_words, Extended, Begun, Split, OverMiddle, Parted, EndsOf, Alone}
use Rattle.rows.specs.Memory.{rows_of, words_of}
use Rattle.rows.specs.Widths.{in_width}
use Rattle.ranges.specs.RangeRows.{range_answer, rows_in}
use Rattle.ranges.proofs.Fronts.{plain_care, plain_value, symbol, same_words, extended_row, extended_rows, digit_behind, at_place}
use Rattle.ranges.proofs.EdgeLists.{extend}
use Rattle.ranges.proofs.SplitEnds.{first_one, first_zero, first_low, last_one, last_zero, last_low, last_high}

-- one digit that both ends share
shared_digit : (d : Bool) (m a b : ℕ) → a ≤ b → b < 2 ^ m →
    straight_rows (suc m) (cond d (2 ^ m) 0 + a) (cond d (2 ^ m) 0 + b) ≡ map (λ r. symbol d ∷ r) (straight_rows m a b)
shared_digit true m a b h k = equations_hold.same_first_one m a b h k
shared_digit false m a b h k =
    let ea : 0 + a ≡ a = omega arith in
    let eb : 0 + b ≡ b = omega arith in
    ap₂ (straight_rows (suc m)) ea eb ∙ equations_hold.same_first_zero m a b h k

-- the first digit of a number of one digit more
split_digit : (m h : ℕ) → h < 2 ^ suc m → (d : Bool) × (k : ℕ) × (k < 2 ^ m) × (h ≡ cond d (2 ^ m) 0 + k)
split_digit m h l = elim (cases_lt h (2 ^ m)) [
  | inl s ↦ (false, h, s, omega arith)
  | inr s ↦ (true, h - 2 ^ m, omega arith, omega arith)
]

scaled : (j m i : ℕ) (d : Bool) → (cond d (2 ^ j) 0 + i) * 2 ^ m ≡ cond d (2 ^ (j + m)) 0 + i * 2 ^ m
scaled j m i true = add-mul (2 ^ j) i (2 ^ m) ∙ ap (λ x. x + i * 2 ^ m) (sym (pow-add 2 j m))
scaled j m i false = ap (λ x. x * 2 ^ m) (zero-add i) ∙ sym (zero-add (i * 2 ^ m))

-- the digits that both ends share
pub shared_digits : (j m h a b : ℕ) (front more : RowWords) → a ≤ b → b < 2 ^ m → h < 2 ^ j →
    more.value ≡ front.value + h * 2 ^ m → more.care ≡ front.care + (2 ^ (j + m) - 2 ^ m) →
    map (behind_words front) (straight_rows (j + m) (h * 2 ^ m + a) (h * 2 ^ m + b)) ≡ map (behind_words more) (straight_rows m a b)
shared_digits zero m h a b front more o k l v c =
    let z : h ≡ 0 = omega arith in
    let ea : h * 2 ^ m + a ≡ a = ap (λ x. x * 2 ^ m + a) z ∙ none a in
    let eb : h * 2 ^ m + b ≡ b = ap (λ x. x * 2 ^ m + b) z ∙ none b in
    let em : 0 + m ≡ m = omega arith in
    let ev : more.value ≡ front.value = v ∙ ap (λ x. front.value + x * 2 ^ m) z ∙ omega arith in
    let p2 = ap (λ x. 2 ^ x) em in
    let ec : more.care ≡ front.care = omega arith in
    ap (λ x. map (behind_words front) (straight_rows x (h * 2 ^ m + a) (h * 2 ^ m + b))) em ∙ ap₂ (λ x y. map (behind_words front) (straight_rows m x y)) ea eb ∙
    ap (λ f. map (behind_words f) (straight_rows m a b)) (sym (same_words more front ev ec))
  where
    none : (x : ℕ) → 0 * 2 ^ m + x ≡ x
    none x = omega arith
shared_digits (suc j) m h a b front more o k l v c = step (split_digit j h l) (λ d i. shared_digits j m i a b (extend front (j + m) d) more o k)
  where
    step : (d : Bool) × (i : ℕ) × (i < 2 ^ j) × (h ≡ cond d (2 ^ j) 0 + i) →
        ((d : Bool) (i : ℕ) → i < 2 ^ j → more.value ≡ (extend front (j + m) d).value + i * 2 ^ m → more.care ≡ (extend front (j + m) d).care + (2 ^ (j + m) - 2 ^ m) →
        map (behind_words (extend front (j + m) d)) (straight_rows (j + m) (i * 2 ^ m + a) (i * 2 ^ m + b)) ≡ map (behind_words more) (straight_rows m a b)) →
        map (behind_words front) (straight_rows (suc j + m) (h * 2 ^ m + a) (h * 2 ^ m + b)) ≡ map (behind_words more) (straight_rows m a b)
    step (d, i, s, e) ih =
        let suc_place : suc j + m ≡ suc (j + m) = omega arith in
        let scale : h * 2 ^ m ≡ cond d (2 ^ (j + m)) 0 + i * 2 ^ m = ap (λ x. x * 2 ^ m) e ∙ scaled j m i d in
        let top = cond d (2 ^ (j + m)) 0 in
        let ea : h * 2 ^ m + a ≡ top + (i * 2 ^ m + a) = ap (λ x. x + a) scale ∙ add_assoc top (i * 2 ^ m) a in
        let eb : h * 2 ^ m + b ≡ top + (i * 2 ^ m + b) = ap (λ x. x + b) scale ∙ add_assoc top (i * 2 ^ m) b in
        let whole = pow-add 2 j m in
        let high : i * 2 ^ m + b < 2 ^ j * 2 ^ m = digits_lt s k in
        let low : 2 ^ m ≤ 2 ^ (j + m) = pow_mono {i = m} {j = j + m} (omega arith) in
        let twice = ap (λ x. 2 ^ x) suc_place in
        ap (λ x. map (behind_words front) (straight_rows x (h * 2 ^ m + a) (h * 2 ^ m + b))) suc_place ∙
        ap₂ (λ x y. map (behind_words front) (straight_rows (suc (j + m)) x y)) ea eb ∙
        ap (map (behind_words front)) (shared_digit d (j + m) (i * 2 ^ m + a) (i * 2 ^ m + b) (omega arith) (omega arith)) ∙
        extended_rows front (extend front (j + m) d) (j + m) d (record { value = refl; care = refl }) (straight_rows (j + m) (i * 2 ^ m + a) (i * 2 ^ m + b)) (straight_rows_long (j + m) (i * 2 ^ m + a) (i * 2 ^ m + b)) ∙
        ih d i s (v ∙ ap (λ x. front.value + x) scale ∙ sym (add_assoc front.value top (i * 2 ^ m))) (omega arith)

-- the same for a range of p places whose ends agree before the last q
pub shared_beginning : (p q a b : ℕ) (front more : RowWords) → q ≤ p → a ≤ b → b < 2 ^ p → a / 2 ^ q ≡ b / 2 ^ q →
    more.value ≡ front.value + (a - a % 2 ^ q) → more.care ≡ front.care + (2 ^ p - 2 ^ q) →
    map (behind_words front) (straight_rows p a b) ≡ map (behind_words more) (straight_rows q (a % 2 ^ q) (b % 2 ^ q))
shared_beginning p q a b front more le o hb same v c =
    let j : p - q + q ≡ p = omega arith in
    let sa = shr_split a q in
    let sb = shr_split b q in
    let sb' : a / 2 ^ q * 2 ^ q + b % 2 ^ q ≡ b = ap (λ x. x * 2 ^ q + b % 2 ^ q) same ∙ sb in
    let few : a / 2 ^ q < 2 ^ (p - q) = shr_below a (p - q) q (let e = ap (λ x. 2 ^ x) j in omega arith) in
    let pj = ap (λ x. 2 ^ x) j in
    ap (λ x. map (behind_words front) (straight_rows x a b)) (sym j) ∙
    ap₂ (λ x y. map (behind_words front) (straight_rows (p - q + q) x y)) (sym sa) (sym sb') ∙
    shared_digits (p - q) q (a / 2 ^ q) (a % 2 ^ q) (b % 2 ^ q) front more (omega arith) (mod-lt b (pow_pos q)) few (omega arith) (omega arith)

-- the same for a stretch whose ends agree before those of the rest
pub shared_words : (stretch : Stretch) (words : RowWords) (rest : Ends) → rest.places ≤ stretch.ends.places → stretch.ends.first ≤ stretch.ends.last →
    stretch.ends.first / 2 ^ rest.places ≡ stretch.ends.last / 2 ^ rest.places → rest.first ≡ stretch.ends.first % 2 ^ rest.places → rest.last ≡ stretch.ends.last % 2 ^ rest.places →
    words.value ≡ stretch.front.words.value + (stretch.ends.first - stretch.ends.first % 2 ^ rest.places) → words.care ≡ stretch.front.words.care + (2 ^ stretch.ends.places - 2 ^ rest.places) →
    straight_words stretch ≡ map (behind_words words) (straight_rows rest.places rest.first rest.last)
shared_words stretch words rest le o same f l v c =
    shared_beginning stretch.ends.places rest.places stretch.ends.first stretch.ends.last stretch.front.words words le o stretch.ends.last_within same v c ∙
    sym (ap₂ (λ j k. map (behind_words words) (straight_rows rest.places j k)) f l)

-- what is left of both ends keeps their order
pub order_left : (q a b : ℕ) → a ≤ b → a / 2 ^ q ≡ b / 2 ^ q → a % 2 ^ q ≤ b % 2 ^ q
order_left q a b o same =
    let sa = shr_split a q in
    let sb = shr_split b q in
    let e = ap (λ x. x * 2 ^ q) same in
    omega arith

-- numbers whose exclusive or is short agree before
xor_none : (x y : ℕ) → bit_xor x y ≡ 0 → x ≡ y
xor_none x y e = sym (xor_zero_r x) ∙ ap (bit_xor x) (sym e) ∙ sym (xor_assoc x x y) ∙ ap (λ k. bit_xor k y) (xor_self x) ∙ xor_zero_l y

pub same_before : (a b q : ℕ) → bit_xor a b < 2 ^ q → a / 2 ^ q ≡ b / 2 ^ q
same_before a b q h =
    let none = div_below (bit_xor a b) (2 ^ q) 1 (pow_pos q) (omega arith) in
    let is : bit_xor a b / 2 ^ q ≡ 0 = omega arith in
    xor_none (a / 2 ^ q) (b / 2 ^ q) (sym (xor_shr a b q) ∙ is)

-- a power that a short number needs is short
pub short_power : (m p x : ℕ) → 2 ^ m ≤ 2 * x + 1 → x < 2 ^ p → m ≤ p
short_power m p x k h = elim (cases_lt p m) [
  | inl l ↦ let w = pow_mono {i = suc p} {j = m} l in let z : ⊥ = omega arith in absurd z
  | inr le ↦ le
]

-- numbers whose exclusive or is not short differ in the first digit
pub differ_first : (a b m : ℕ) → a ≤ b → b < 2 ^ suc m → 2 ^ m ≤ bit_xor a b → (a < 2 ^ m) × (2 ^ m ≤ b)
differ_first a b m o hb h = elim (cases_lt a (2 ^ m)) [
  | inl la ↦ elim (cases_lt b (2 ^ m)) [
    | inl lb ↦ let x = xor_lt m a b la lb in let z : ⊥ = omega arith in absurd z
    | inr lb ↦ (la, lb)
  ]
  | inr la ↦
      let one : a / 2 ^ m ≡ 1 = one_half a (omega arith) la in
      let two : b / 2 ^ m ≡ 1 = one_half b hb (omega arith) in
      let x = le-div 1 (bit_xor a b) (2 ^ m) (pow_pos m) (omega arith) in
      let e : bit_xor a b / 2 ^ m ≡ 0 = xor_shr a b m ∙ ap₂ bit_xor one two in
      let z : ⊥ = omega arith in absurd z
]
  where
    one_half : (x : ℕ) → x < 2 ^ suc m → 2 ^ m ≤ x → x / 2 ^ m ≡ 1
    one_half x hx lx =
        let u = div_below x (2 ^ m) 2 (pow_pos m) (omega arith) in
        let v = le-div 1 x (2 ^ m) (pow_pos m) (omega arith) in
        omega arith

-- what is left of both ends behind the digits that they share
pub left_parted : (q a b : ℕ) → a ≤ b → a / 2 ^ q ≡ b / 2 ^ q → 2 ^ q ≤ 2 * bit_xor a b + 1 → 0 < q → (a % 2 ^ q < 2 ^ (q - 1)) × (2 ^ (q - 1) ≤ b % 2 ^ q)
left_parted q a b o same apart some =
    let e : suc (q - 1) ≡ q = omega arith in
    let t = ap (λ j. 2 ^ j) e in
    let w = mod-lt b (pow_pos q) in
    let x = xor_mod a b q in
    let s = xor_shr a b q ∙ ap (λ k. bit_xor k (b / 2 ^ q)) same ∙ xor_self (b / 2 ^ q) in
    let z = shr_split (bit_xor a b) q in
    let n = ap (λ k. k * 2 ^ q) s in
    differ_first (a % 2 ^ q) (b % 2 ^ q) (q - 1) (order_left q a b o same) (omega arith) (omega arith)

-- the rows of a range whose first digits differ, behind the lead
module _ (front : Front) (lead : Lead) (m : ℕ) (places : front.places ≡ suc m) where
  begun_row : Begun front lead false → (r : Symbols) → length r ≡ suc m → behind_front front r ≡ behind_lead lead r
  begun_row x [] e = let z : ⊥ = omega arith in absurd z
  begun_row x (Zero ∷ r) e = extended_row _ _ m false (at_place x.at_zero m places) r (omega arith)
  begun_row x (One ∷ r) e = extended_row _ _ m true (at_place x.at_one m places) r (omega arith)
  begun_row x (Dash ∷ r) e = ap (λ f. behind_words f r) (sym x.at_dash)

  swapped_row : Begun front lead true → (r : Symbols) → length r ≡ suc m → behind_front front (swap_first r) ≡ behind_lead lead r
  swapped_row x [] e = let z : ⊥ = omega arith in absurd z
  swapped_row x (Zero ∷ r) e = extended_row _ _ m true (at_place x.at_zero m places) r (omega arith)
  swapped_row x (One ∷ r) e = extended_row _ _ m false (at_place x.at_one m places) r (omega arith)
  swapped_row x (Dash ∷ r) e = ap (λ f. behind_words f r) (sym x.at_dash)

  begun_list : Begun front lead false → (rows : List Symbols) → Long (suc m) rows → map (behind_front front) rows ≡ map (behind_lead lead) rows
  begun_list x [] h = refl
  begun_list x (r ∷ rows) h = ap₂ (λ (w : RowWords) (l : List RowWords). w ∷ l) (begun_row x r h.0) (begun_list x rows h.1)

  swapped_list : Begun front lead true → (rows : List Symbols) → Long (suc m) rows → map (behind_front front) (map swap_first rows) ≡ map (behind_lead lead) rows
  swapped_list x [] h = refl
  swapped_list x (r ∷ rows) h = ap₂ (λ (w : RowWords) (l : List RowWords). w ∷ l) (swapped_row x r h.0) (swapped_list x rows h.1)

-- a range by its first digits and what is behind them, behind a front
module _ (stretch : Stretch) (rest : Ends) (s : Split stretch.ends rest) where
  front_places : stretch.front.places ≡ suc rest.places
  front_places = stretch.fits ∙ s.places

  pub straight_across : (lead : Lead) → Parted stretch.ends → Begun stretch.front lead false →
      straight_words stretch ≡ map (behind_lead lead) (across_rows rest.places rest.first rest.last)
  unfolding across_rows
  straight_across lead parted x =
      let e = s.places in
      let k : stretch.ends.places - 1 ≡ rest.places = omega arith in
      let t = ap (λ j. 2 ^ j) k in
      let p = parted (omega arith) in
      ap (λ k. map (behind_front stretch.front) (straight_rows k stretch.ends.first stretch.ends.last)) s.places ∙
      ap₂ (λ j k. map (behind_front stretch.front) (straight_rows (suc rest.places) j k)) (first_low s (omega arith)) (last_high s (omega arith)) ∙
      begun_list stretch.front lead rest.places front_places x (across_rows rest.places rest.first rest.last) (straight_rows_long (suc rest.places) rest.first (2 ^ rest.places + rest.last))

  same_ends : {a b : ℕ} → stretch.ends.first ≡ a → stretch.ends.last ≡ b → round_words stretch ≡ map (behind_front stretch.front) (round_rows (suc rest.places) a b)
  same_ends {a} {b} e f =
      ap (λ k. map (behind_front stretch.front) (round_rows k stretch.ends.first stretch.ends.last)) s.places ∙
      ap₂ (λ j k. map (behind_front stretch.front) (round_rows (suc rest.places) j k)) e f

  row_and_rest : (row inner : Front) (d : Bool) → Extended stretch.front row d → Extended stretch.front inner (not d) →
      map (behind_front stretch.front) ((symbol d ∷ plain rest.places) ∷ map (λ r. symbol (not d) ∷ r) (round_rows rest.places rest.first rest.last)) ≡ row.words ∷ map (behind_front inner) (round_rows rest.places rest.first rest.last)
  row_and_rest row inner d x y =
      ap₂ (λ (w : RowWords) (l : List RowWords). w ∷ l) (digit_behind stretch.front.words row.words rest.places d (at_place x rest.places front_places))
      (extended_rows stretch.front.words inner.words rest.places (not d) (at_place y rest.places front_places) (round_rows rest.places rest.first rest.last) (round_rows_long rest.places rest.first rest.last))

  module _ (row inner : Front) (o : stretch.ends.last < stretch.ends.first) where
    pub round_low_at : digit rest.places stretch.ends.first ≡ false → Extended stretch.front row true → Extended stretch.front inner false →
        round_words stretch ≡ row.words ∷ map (behind_front inner) (round_rows rest.places rest.first rest.last)
    round_low_at d x y =
        let a = first_zero s d in
        let h = rest.first_within in
        let b = last_low s (omega arith) in
        same_ends a b ∙ ap (map (behind_front stretch.front)) (equations_hold.round_low rest.places rest.first rest.last h (omega arith)) ∙ row_and_rest row inner true x y

    pub round_high_at : digit rest.places stretch.ends.first ≡ true → digit rest.places stretch.ends.last ≡ true → Extended stretch.front row false → Extended stretch.front inner true →
        round_words stretch ≡ row.words ∷ map (behind_front inner) (round_rows rest.places rest.first rest.last)
    round_high_at d e x y =
        let a = first_one s d in
        let b = last_one s e in
        same_ends a b ∙ ap (map (behind_front stretch.front)) (equations_hold.round_high rest.places rest.first rest.last rest.first_within (omega arith)) ∙ row_and_rest row inner false x y

  pub round_across_at : (lead : Lead) → digit rest.places stretch.ends.first ≡ true → digit rest.places stretch.ends.last ≡ false → Begun stretch.front lead true →
      round_words stretch ≡ map (behind_lead lead) (across_rows rest.places rest.first rest.last)
  unfolding across_rows
  round_across_at lead d e x =
      same_ends (first_one s d) (last_zero s e) ∙
      ap (map (behind_front stretch.front)) (equations_hold.round_across rest.places rest.first rest.last rest.first_within rest.last_within) ∙
      swapped_list stretch.front lead rest.places front_places x (across_rows rest.places rest.first rest.last) (straight_rows_long (suc rest.places) rest.first (2 ^ rest.places + rest.last))

-- a run that goes over the middle
pub over_across : (stretch : Stretch) (rest : Ends) → Split stretch.ends rest → (lead : Lead) → OverMiddle stretch.ends → Begun stretch.front lead true →
    round_words stretch ≡ map (behind_lead lead) (across_rows rest.places rest.first rest.last)
over_across stretch rest s lead o x =
    let p = s.places in
    let e : stretch.ends.places - 1 ≡ rest.places = omega arith in
    round_across_at stretch rest s lead (ap (λ k. digit k stretch.ends.first) (sym e) ∙ o.first) (ap (λ k. digit k stretch.ends.last) (sym e) ∙ o.last) x

-- a stretch that is straight, and one that goes round
pub stretch_straight : (stretch : Stretch) → stretch.ends.first ≤ stretch.ends.last → stretch_words stretch ≡ straight_words stretch
stretch_straight stretch h = rw (le-leb stretch.ends.first stretch.ends.last h) refl

pub stretch_round : (stretch : Stretch) → stretch.ends.last < stretch.ends.first → stretch_words stretch ≡ round_words stretch
stretch_round stretch h = rw (lt-leb stretch.ends.first stretch.ends.last h) refl

-- the words of rows with nothing before them
pub words_behind : (front : RowWords) → front.value ≡ 0 → front.care ≡ 0 → (rows : List Symbols) → map (behind_words front) rows ≡ map words_of rows
words_behind front v c [] = refl
words_behind front v c (r ∷ rows) =
    ap₂ (λ (w : RowWords) (l : List RowWords). w ∷ l)
    (same_words (behind_words front r) (words_of r) (ap (λ x. x + value_word r) v ∙ zero-add (value_word r)) (ap (λ x. x + care_word r) c ∙ zero-add (care_word r)))
    (words_behind front v c rows)

-- the first rows of memory, where a list stands there
pub first_rows : (rows : List Symbols) (rest : List RowWords) (k : ℕ) → k ≡ length rows → take k (map words_of rows ++ rest) ≡ map words_of rows
first_rows rows rest k e = take_at (map words_of rows) rest k (length-map rows words_of ∙ sym e)

-- their words care only within the width, and have no 1 in the value where they do not care
pub words_within : (n : ℕ) (rows : List Symbols) → Long n rows → AllByRecursion (λ w. w.care < 2 ^ n) (map words_of rows)
words_within n rows h = all_map words_of (λ w. w.care < 2 ^ n) (λ r e. subst (λ k. care_word r < 2 ^ k) e (care_word_fits r)) rows h

pub words_clean : (n : ℕ) (rows : List Symbols) → Long n rows → AllByRecursion (λ w. bit_and w.value w.care ≡ w.value) (map words_of rows)
words_clean n rows h = all_map words_of (λ w. bit_and w.value w.care ≡ w.value) (λ r e. clean_word r) rows h

-- rows that stand in memory are read back
pub words_read : (n : ℕ) (rows : List Symbols) → Long n rows → rows_of n (map words_of rows) ≡ rows
words_read n [] h = refl
words_read n (r ∷ rows) h =
    ap₂ (λ (q : Symbols) (l : List Symbols). q ∷ l)
    (ap (λ v. symbols n v (care_word r)) (clean_word r) ∙ ap (λ m. symbols m (value_word r) (care_word r)) (sym h.0) ∙ symbols_back r) (words_read n rows h.1)

pub rows_read : (n : ℕ) (rows : List Symbols) (rest : List RowWords) (k : ℕ) → Long n rows → k ≡ length rows → rows_in n k (map words_of rows ++ rest) ≡ rows
rows_read n rows rest k h e = ap (rows_of n) (first_rows rows rest k e) ∙ words_read n rows h

-- ends within the width are numbers of it
pub within_fit : (n f l : ℕ) → in_width n f l ≡ true → (f < 2 ^ n) × (l < 2 ^ n)
within_fit n f l w = let p = and_parts (ltb f (2 ^ n)) (ltb l (2 ^ n)) w in (ltb-true f (2 ^ n) p.0, ltb-true l (2 ^ n) p.1)

-- the whole circle, and another range, which is a run with nothing before it
module _ (ends : Ends) where
  pub range_whole : (ends.first == ends.last + 1) ≡ true → range_words ends ≡ record { value = 0; care = 0 } ∷ []
  unfolding rows_of_range
  range_whole e =
      let p = pow_pos ends.places in
      rw (e, le-leb 0 (2 ^ ends.places - 1) (omega arith), equations_hold.whole ends.places)
      (ap {B = List RowWords} (λ w. w ∷ []) (same_words (words_of (plain ends.places)) (record { value = 0; care = 0 }) (plain_value ends.places) (plain_care ends.places)))

  pub range_alone : {stretch : Stretch} → (ends.first == ends.last + 1) ≡ false → Alone ends stretch → stretch_words stretch ≡ range_words ends
  unfolding rows_of_range
  range_alone {stretch} e alone =
      words_behind stretch.front.words alone.value alone.care (rows_of_run stretch.ends.places stretch.ends.first stretch.ends.last) ∙
      ap (λ e. map words_of (rows_of_run e.places e.first e.last)) alone.ends ∙ rw e refl

-- the ends of a range are numbers of the width
module _ {n f l : ℕ} {ends : Ends} (of : EndsOf n f l ends) where
  pub ends_fit : (f < 2 ^ n) × (l < 2 ^ n)
  ends_fit = (rw (of.first, of.places) at ends.first_within, rw (of.last, of.places) at ends.last_within)

  pub ends_granted : in_width n f l ≡ true
  ends_granted = rw (lt-ltb f (2 ^ n) ends_fit.0, lt-ltb l (2 ^ n) ends_fit.1)

  pub range_made : range_words ends ≡ map words_of (rows_of_range n f l)
  range_made = ap (λ k. map words_of (rows_of_range k ends.first ends.last)) of.places ∙ ap₂ (λ j k. map words_of (rows_of_range n j k)) of.first of.last

  -- they are no more than there is room for
  pub range_fits : 1 ≤ n → n ≤ 32 → length (range_words ends) ≤ 62
  range_fits some most =
      let k = ap length range_made ∙ length-map (rows_of_range n f l) words_of in
      let few = range_few n f l some in
      let top = most_few n most in
      omega arith

-- a range of the width is granted where memory has room
pub range_granted : (n f l room : ℕ) → f < 2 ^ n → l < 2 ^ n → length (rows_of_range n f l) ≤ room → range_answer n f l room ≡ Ok (length (rows_of_range n f l))
range_granted n f l room hf hl h = rw (lt-ltb f (2 ^ n) hf, lt-ltb l (2 ^ n) hl, le-leb (length (rows_of_range n f l)) room h)
