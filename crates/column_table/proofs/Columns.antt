-- The slots of a column table, column by column.
use Rattle.std.proofs.Common.{◌≡◌, ℕ, zero, suc, ◌+◌, ◌*◌, ◌%◌, ◌^◌, ◌<◌, ◌≤◌, Bool, true, false, cond, not, ◌&&◌, eqb, ltb, ◌≢◌, List, [], ◌∷◌, length, get_or, set, replicate, Some, None, Option, sym, refl, ap, ◌∙◌, subst, ap₂, one-mul, add-one, arith, length-set, get_or-set_other, get_or-set_same, pow_pos}
use lib.Bits.{bit_and, bit_or, and_le_r, or_shifted_r}
use lib.ListN.{length-replicate, get_or-replicate}
use Rattle.std.proofs.lemmas.Nat.{one_shl}
use Rattle.std.proofs.lemmas.List.FromFn.{length-map-range_with_len, get_or-map-range_with_len, fill_by_all}
use Rattle.std.proofs.lemmas.Bool.{eq-eqb, ne_eqb, eqb-true, eqb-false, lt-ltb, ltb-true, both_ways}
use Rattle.rows.specs.declared.row.Row.{Row}
use Rattle.rows.specs.declared.row_words.RowWords.{RowWords}
use Rattle.rows.specs.Memory.{words_of}
use Rattle.covers.specs.declared.symbol.Symbol.{Symbol}
use Rattle.covers.specs.declared.symbol.Symbol.TheVariants.{Zero, One, Dash}
use Rattle.covers.specs.Digits.{Digits, digit, digits}
use Rattle.covers.specs.Symbols.{Symbols, takes}
use Rattle.covers.specs.Words.{value_word, care_word, symbols}
use Rattle.covers.proofs.RowWords.{symbols_back, value_word_fits, care_word_fits, words_take, words_back, clean_word}
use Rattle.column_table.specs.declared.column.Column.{Column}
use Rattle.column_table.specs.declared.slot_set.SlotSet.{SlotSet}
use Rattle.device.specs.States.{Slot, slot_takes, some_slot_takes}
use Rattle.rows.specs.MadeRows.{row_made}
use Rattle.column_table.specs.Columns.{admitting_symbol, column_symbol, one_more, blank_column, slot_symbols, slot_with, row_symbol, column_slot, column_slots}
use Rattle.column_table.specs.ColumnTableLaws.{Counts, slot_symbols_count}
use Rattle.rows.proofs.MadeRows.{row_made_row}
use Rattle.device.proofs.Slots.{one_takes, none_by_index}
use Rattle.covers.proofs.Digitwise.{digit_beyond}
use Rattle.column_table.proofs.BitSets.{none_zero}

-- the slot is in the set of the number's digit in each of the first n columns
abbrev pub admitted : ℕ → List Column → ℕ → ℕ → Bool
admitted zero columns slot x = true
admitted (suc m) columns slot x =
    (cond (digit m x) (digit slot (get_or columns m blank_column).ones.bits) (digit slot (get_or columns m blank_column).zeros.bits) && admitted m columns slot x)

abbrev content_takes : Option Symbols → Digits → Bool
content_takes (Some r) u = takes r u
content_takes None u = false

ends : (b : Bool) → (b && false) ≡ false
ends true = refl
ends false = refl

admitted_content : (n : ℕ) (columns : List Column) (slot x : ℕ) → content_takes (slot_symbols n columns slot) (digits n x) ≡ admitted n columns slot x
admitted_content zero columns slot x = refl
admitted_content (suc m) columns slot x =
    go (digit slot c.zeros.bits) (digit slot c.ones.bits) (digit m x) (slot_symbols m columns slot) ∙
    ap (λ b. cond (digit m x) (digit slot c.ones.bits) (digit slot c.zeros.bits) && b) (admitted_content m columns slot x)
  where
    c : Column
    c = get_or columns m blank_column

    go : (z o d : Bool) (content : Option Symbols) →
        content_takes (one_more (admitting_symbol z o) content) (d ∷ digits m x) ≡ (cond d o z && content_takes content (digits m x))
    go true true true (Some r) = refl
    go true true false (Some r) = refl
    go true false true (Some r) = refl
    go true false false (Some r) = refl
    go false true true (Some r) = refl
    go false true false (Some r) = refl
    go false false true (Some r) = refl
    go false false false (Some r) = refl
    go true true d None = sym (ends (cond d true true))
    go true false d None = sym (ends (cond d false true))
    go false true d None = sym (ends (cond d true false))
    go false false d None = sym (ends (cond d false false))

-- what the row of some symbols takes
content_slot : (n : ℕ) (content : Option Symbols) (x : ℕ) → Counts n content → slot_takes (slot_with content) x ≡ content_takes content (digits n x)
unfolding row_made
content_slot n (Some r) x h =
    ap (eqb (bit_and x (care_word r))) (clean_word r) ∙
    sym (words_take (length r) (value_word r) (care_word r) x (value_word_fits r) (care_word_fits r) (clean_word r)) ∙
    ap₂ takes (symbols_back r) (ap (λ k. digits k x) h)
content_slot n None x h = refl

pub column_takes : (n : ℕ) (columns : List Column) (slot x : ℕ) → slot_takes (column_slot n columns slot) x ≡ admitted n columns slot x
unfolding column_slot
column_takes n columns slot x =
    content_slot n (slot_symbols n columns slot) x (slot_symbols_count n columns slot) ∙ admitted_content n columns slot x

-- a column more
pub column_more : (i place x slots count : ℕ) (set : SlotSet) (columns : List Column) (tested : Bool) →
    digit i slots ≡ (ltb i count && admitted place columns i x) → tested ≡ digit place x →
    set ≡ cond tested (get_or columns place blank_column).ones (get_or columns place blank_column).zeros →
    (digit i slots && digit i set.bits) ≡ (ltb i count && admitted (place + 1) columns i x)
column_more i place x slots count set columns tested h e s =
    let c = get_or columns place blank_column in
    ap₂ (λ (p q : Bool). p && q) h (ap (λ (k : SlotSet). digit i k.bits) (s ∙ ap (λ (b : Bool). cond b c.ones c.zeros) e) ∙ through (digit place x) c.ones c.zeros) ∙
    turned (ltb i count) (admitted place columns i x) (cond (digit place x) (digit i c.ones.bits) (digit i c.zeros.bits)) ∙
    ap (λ (k : ℕ). ltb i count && admitted k columns i x) (sym (add-one place))
  where
    through : (b : Bool) (o z : SlotSet) → digit i (cond b o z).bits ≡ cond b (digit i o.bits) (digit i z.bits)
    through true o z = refl
    through false o z = refl

    turned : (l a d : Bool) → ((l && a) && d) ≡ (l && (d && a))
    turned false a d = refl
    turned true true true = refl
    turned true true false = refl
    turned true false true = refl
    turned true false false = refl

-- the slots by their index
pub column_length : (n : ℕ) (columns : List Column) (count : ℕ) → length (column_slots n columns count) ≡ count
unfolding column_slots
column_length n columns count = length-map-range_with_len (column_slot n columns) 0 count

pub column_at : (n : ℕ) (columns : List Column) (count i : ℕ) → i < count → get_or (column_slots n columns count) i None ≡ column_slot n columns i
unfolding column_slots
column_at n columns count i h = get_or-map-range_with_len (column_slot n columns) 0 count i i None h (omega arith)

-- a slot that admits no digit in one column is empty
pub empty_stays : (m n : ℕ) (columns : List Column) (slot : ℕ) → slot_symbols m columns slot ≡ None → m ≤ n → slot_symbols n columns slot ≡ None
empty_stays m n columns slot e h = go n h
  where
    ignored : (s : Option Symbol) → one_more s None ≡ None
    ignored (Some s) = refl
    ignored None = refl

    go : (n : ℕ) → m ≤ n → slot_symbols n columns slot ≡ None
    go zero h = let z : m ≡ 0 = omega arith in ap (λ k. slot_symbols k columns slot) (sym z) ∙ e
    go (suc n) h = at (eqb m (suc n)) refl (λ k. go n k)
      where
        at : (t : Bool) → eqb m (suc n) ≡ t → (m ≤ n → slot_symbols n columns slot ≡ None) → slot_symbols (suc n) columns slot ≡ None
        at true t rest = ap (λ k. slot_symbols k columns slot) (sym (eqb-true m (suc n) t)) ∙ e
        at false t rest =
            let d = eqb-false m (suc n) t in
            ap (one_more (column_symbol (get_or columns n blank_column) slot)) (rest (omega arith)) ∙ ignored (column_symbol (get_or columns n blank_column) slot)

-- in the first k columns the slot asks for what its content asks for, and every other slot for what it did
abbrev pub Writes : List Column → List Column → ℕ → Slot → ℕ → Type 0
Writes was is slot content k =
    (place i : ℕ) → place < k →
    column_symbol (get_or is place blank_column) i ≡ cond (eqb i slot) (row_symbol content place) (column_symbol (get_or was place blank_column) i)

-- what writing a slot leaves, in the first n columns
module _ (was is : List Column) (slot : ℕ) (content : Slot) (written : Writes was is slot content 32) where
  others : (n i : ℕ) → n ≤ 32 → i ≢ slot → slot_symbols n is i ≡ slot_symbols n was i
  others zero i h d = refl
  others (suc m) i h d =
      ap₂ one_more (written m i (omega arith) ∙ ap (λ b. cond b (row_symbol content m) (column_symbol (get_or was m blank_column) i)) (ne_eqb i slot d)) (others m i (omega arith) d)

  itself : (place : ℕ) → place < 32 → column_symbol (get_or is place blank_column) slot ≡ row_symbol content place
  itself place h = written place slot h ∙ ap (λ b. cond b (row_symbol content place) (column_symbol (get_or was place blank_column) slot)) (eq-eqb slot slot refl)

  row_there : (r : Row) → content ≡ Some r → (n : ℕ) → n ≤ 32 → slot_symbols n is slot ≡ Some (symbols n r.value r.care)
  row_there r e zero h = refl
  row_there r e (suc m) h = ap₂ one_more (itself m (omega arith) ∙ ap (λ s. row_symbol s m) e) (row_there r e m (omega arith))

  pub slot_put : (r : Row) (n : ℕ) → content ≡ Some r → r.care < 2 ^ n → n ≤ 32 → column_slot n is slot ≡ content
  unfolding column_slot
  slot_put r n e k h =
      let v : r.value < 2 ^ n = let l = and_le_r r.value r.care in let c = r.clean in omega arith in
      let back = words_back n r.value r.care v k r.clean in
      ap slot_with (row_there r e n h) ∙ ap₂ (λ (a b : ℕ). Some (row_made a b)) back.0 back.1 ∙ ap {B = Slot} Some (row_made_row r) ∙ sym e

  pub slot_emptied : (n : ℕ) → content ≡ None → 1 ≤ n → n ≤ 32 → column_slot n is slot ≡ content
  unfolding column_slot
  slot_emptied n e k h =
      ap slot_with (empty_stays 1 n is slot (ap (λ s. one_more s (Some [])) (itself 0 (omega arith) ∙ ap (λ s. row_symbol s 0) e)) k) ∙ sym e

  -- the slots as a list
  pub slots_written : (n count : ℕ) → n ≤ 32 → slot < count → column_slot n is slot ≡ content → column_slots n is count ≡ set (column_slots n was count) slot content
  unfolding column_slots column_slot
  slots_written n count h k here =
      let old = column_slots n was count in
      sym (fill_by_all (column_slot n is) (set old slot content) count None (length-set old slot content ∙ column_length n was count) at)
    where
      at : (i : ℕ) → i < count → get_or (set (column_slots n was count) slot content) i None ≡ column_slot n is i
      at i l = go (eqb i slot) refl
        where
          go : (t : Bool) → eqb i slot ≡ t → get_or (set (column_slots n was count) slot content) i None ≡ column_slot n is i
          go true t =
              let e = eqb-true i slot t in
              let len = column_length n was count in
              ap (λ k. get_or (set (column_slots n was count) slot content) k None) e ∙ get_or-set_same (column_slots n was count) slot content None (omega arith) ∙ sym here ∙ ap (column_slot n is) (sym e)
          go false t =
              let d = eqb-false i slot t in
              get_or-set_other (column_slots n was count) slot i content None d ∙ column_at n was count i l ∙ sym (ap slot_with (others n i h d))

-- the set of the slots that take a number is 0 if and only if no slot does
module _ (n : ℕ) (columns : List Column) (count x taking : ℕ) (fits : taking < 2 ^ 128)
    (tells : (i : ℕ) → digit i taking ≡ (ltb i count && slot_takes (column_slot n columns i) x)) where
  abbrev slots : List Slot
  slots = column_slots n columns count

  one_of : (i : ℕ) → i < count → slot_takes (get_or slots i None) x ≡ digit i taking
  one_of i h =
      ap (λ (s : Slot). slot_takes s x) (column_at n columns count i h) ∙
      sym (tells i ∙ ap (λ b. b && slot_takes (column_slot n columns i) x) (lt-ltb i count h))

  none_taking : taking ≡ 0 → some_slot_takes slots x ≡ false
  none_taking e =
      none_by_index x slots
      (λ i h. let len = column_length n columns count in one_of i (omega arith) ∙ ap (digit i) e ∙ digit_beyond i 0 (pow_pos i))

  taking_none : some_slot_takes slots x ≡ false → taking ≡ 0
  taking_none e = none_zero 128 taking fits (λ i. go i (digit i taking) refl (ltb i count) refl)
    where
      go : (i : ℕ) (t : Bool) → digit i taking ≡ t → (u : Bool) → ltb i count ≡ u → digit i taking ≡ false
      go i false t u _ = t
      go i true t true u =
          let h = ltb-true i count u in
          let len = column_length n columns count in
          absurd (both_ways (some_slot_takes slots x) e (one_takes x slots i (omega arith) (one_of i h ∙ t)))
      go i true t false u = tells i ∙ ap (λ b. b && slot_takes (column_slot n columns i) x) u

  pub some_taking : not (eqb taking 0) ≡ some_slot_takes slots x
  some_taking = go (some_slot_takes slots x) refl
    where
      go : (t : Bool) → some_slot_takes slots x ≡ t → not (eqb taking 0) ≡ t
      go true t = ap not (ne_eqb taking 0 (λ e. both_ways (some_slot_takes slots x) (none_taking e) t))
      go false t = ap not (eq-eqb taking 0 (taking_none t))

-- columns with no slot in them
pub blank_slots : (n count : ℕ) → 1 ≤ n → column_slots n (replicate 32 blank_column) count ≡ replicate count None
unfolding column_slots column_slot
blank_slots n count h =
    sym (fill_by_all (column_slot n (replicate 32 blank_column)) (replicate count None) count None (length-replicate count None)
    (λ k l. get_or-replicate count k None None l ∙ sym (ap slot_with (empty_stays 1 n (replicate 32 blank_column) k (first k) h))))
  where
    first : (k : ℕ) → slot_symbols 1 (replicate 32 blank_column) k ≡ None
    first k = ap₂ (λ z o. one_more (admitting_symbol z o) (Some [])) (digit_beyond k 0 (pow_pos k)) (digit_beyond k 0 (pow_pos k))

-- the columns after one more was written
module _ (was columns : List Column) (at slot : ℕ) (content : Slot) (column : Column) (here : at < length columns)
    (now : (i : ℕ) → column_symbol column i ≡ cond (eqb i slot) (row_symbol content at) (column_symbol (get_or columns at blank_column) i))
    (rest : (place : ℕ) → at ≤ place → get_or columns place blank_column ≡ get_or was place blank_column) where
  pub written_more : Writes was columns slot content at → Writes was (set columns at column) slot content (at + 1)
  written_more before place i h = go (eqb place at) refl
    where
      go : (t : Bool) → eqb place at ≡ t →
          column_symbol (get_or (set columns at column) place blank_column) i ≡
          cond (eqb i slot) (row_symbol content place) (column_symbol (get_or was place blank_column) i)
      go true t =
          let e = eqb-true place at t in
          ap (λ (k : ℕ). column_symbol (get_or (set columns at column) k blank_column) i) e ∙
          ap (λ (c : Column). column_symbol c i) (get_or-set_same columns at column blank_column here) ∙ now i ∙
          ap (λ (c : Column). cond (eqb i slot) (row_symbol content at) (column_symbol c i)) (rest at (omega arith)) ∙
          ap (λ (k : ℕ). cond (eqb i slot) (row_symbol content k) (column_symbol (get_or was k blank_column) i)) (sym e)
      go false t =
          let d = eqb-false place at t in
          ap (λ (c : Column). column_symbol c i) (get_or-set_other columns at place column blank_column d) ∙ before place i (omega arith)

  pub rest_more : (place : ℕ) → at + 1 ≤ place → get_or (set columns at column) place blank_column ≡ get_or was place blank_column
  rest_more place h =
      let d : place ≢ at = λ e. let z : ⊥ = omega arith in z in
      get_or-set_other columns at place column blank_column d ∙ rest place (omega arith)

-- the words of a slot in the first columns
abbrev pub Read : List Column → ℕ → ℕ → RowWords → Type 0
Read columns slot place words = (r : Symbols) × (slot_symbols place columns slot ≡ Some r) × (words ≡ words_of r)

-- one column more
module _ (columns : List Column) (slot place : ℕ) (words : RowWords) (read : Read columns slot place words) (p : place < 32) where
  long : length read.0 ≡ place
  long = subst (Counts place) read.1 (slot_symbols_count place columns slot)

  more : (s : Symbol) → column_symbol (get_or columns place blank_column) slot ≡ Some s → slot_symbols (place + 1) columns slot ≡ Some (s ∷ read.0)
  more s h = ap (λ k. slot_symbols k columns slot) (add-one place) ∙ ap₂ one_more h read.1

  abbrev with_place : ℕ → ℕ
  with_place word = bit_or word ((1 * 2 ^ place) % 2 ^ 32)

  wider : (word k : ℕ) → word ≡ k → k < 2 ^ length read.0 → with_place word ≡ 2 ^ length read.0 + k
  wider word k e h =
      let fits : k < 2 ^ place = let q = ap (λ n. 2 ^ n) long in omega arith in
      ap₂ bit_or e (one_shl place 32 p ∙ sym (one-mul (2 ^ place))) ∙ or_shifted_r 1 place k fits ∙
      ap (λ n. n + k) (one-mul (2 ^ place) ∙ ap (λ n. 2 ^ n) (sym long))

  cared : with_place words.care ≡ 2 ^ length read.0 + care_word read.0
  cared = wider words.care (care_word read.0) (ap (λ (w : RowWords). w.care) read.2) (care_word_fits read.0)

  pub read_dash : column_symbol (get_or columns place blank_column) slot ≡ Some Dash → (w : RowWords) → w ≡ words → Read columns slot (place + 1) w
  read_dash h w e = (Dash ∷ read.0, more Dash h, e ∙ read.2)

  pub read_zero : column_symbol (get_or columns place blank_column) slot ≡ Some Zero → (w : RowWords) →
      w ≡ record { value = words.value; care = with_place words.care } → Read columns slot (place + 1) w
  read_zero h w e = (
    Zero ∷ read.0,
    more Zero h,
    e ∙ ap₂ (λ (v c : ℕ). record { value = v; care = c }) (ap (λ (w : RowWords). w.value) read.2) cared,
  )

  pub read_one : column_symbol (get_or columns place blank_column) slot ≡ Some One → (w : RowWords) →
      w ≡ record { value = with_place words.value; care = with_place words.care } → Read columns slot (place + 1) w
  read_one h w e = (
    One ∷ read.0,
    more One h,
    e ∙ ap₂ (λ (v c : ℕ). record { value = v; care = c })
        (wider words.value (value_word read.0) (ap (λ (w : RowWords). w.value) read.2) (value_word_fits read.0)) cared,
  )

-- a slot of which every column was read, and one that admits no digit in a column
pub read_slot : (columns : List Column) (slot n : ℕ) (words : RowWords) → Read columns slot n words → Some (row_made words.value words.care) ≡ column_slot n columns slot
unfolding column_slot
read_slot columns slot n words read = ap (λ (w : RowWords). Some (row_made w.value w.care)) read.2 ∙ sym (ap slot_with read.1)

pub read_none : (columns : List Column) (slot place n : ℕ) → column_symbol (get_or columns place blank_column) slot ≡ None → place < n → None ≡ column_slot n columns slot
unfolding column_slot
read_none columns slot place n h l =
    sym (ap slot_with (empty_stays (suc place) n columns slot (ap (λ s. one_more s (slot_symbols place columns slot)) h) l))
