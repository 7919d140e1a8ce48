-- The slots of a slot table, record by record.
use Rattle.std.proofs.Common.{◌≡◌, ℕ, zero, suc, ◌^◌, ◌<◌, ◌≤◌, min, Bool, true, false, leb, List, [], ◌∷◌, ◌++◌, map, length, get_or, take, drop, set, replicate, Some, None, refl, sym, ap, ◌∙◌, ap₂, append-nil, mod-eq_of_lt, lit<, arith, length-take, take_all, get_or-take, drop-set-lt, subst}
use lib.ListN.{length-map}
use lib.Seq.{map-set, take-set-lt, take-append_seam, drop-append_seam}
use Rattle.std.proofs.lemmas.Bool.{leb-true, leb-false}
use Rattle.std.proofs.lemmas.List.{drop_all, get_or-map, set-append_left}
use Rattle.std.specs.Prelude.{slice_get}
use Rattle.std.specs.List.{AllByRecursion, Contains}
use Rattle.rows.specs.declared.row.Row.{Row}
use Rattle.rows.specs.Widths.{places_of}
use Rattle.slot_table.specs.declared.record.SlotRecord.{SlotRecord}
use Rattle.slot_table.specs.declared.table.SlotTable.{SlotTable}
use Rattle.device.specs.States.{Slot, SlotWithin, DeviceState}
use Rattle.device.specs.Answers.{with_slot, after_put, after_empty}
use Rattle.rows.specs.MadeRows.{row_made}
use Rattle.slot_table.specs.SlotTables.{record_of, memory_with, slot_of, table_slots, table_state, KeepsRecords, slot_table_state}
use Rattle.device.proofs.Granted.{put_left, empty_left}
use Rattle.rows.proofs.MadeRows.{row_made_row}

pub table_length : (n : ℕ) (rs : List SlotRecord) → length (table_slots n rs) ≡ min 120 (length rs)
unfolding table_slots
table_length n rs = length-map (take 120 rs) (slot_of n) ∙ length-take 120 rs

pub table_set : (n : ℕ) (rs : List SlotRecord) (i : ℕ) (r : SlotRecord) → i < length (table_slots n rs) → table_slots n (set rs i r) ≡ set (table_slots n rs) i (slot_of n r)
unfolding table_slots
table_set n rs i r h =
    let short : i < 120 = omega (arith, length-map (take 120 rs) (slot_of n) ∙ length-take 120 rs) in
    ap (map (slot_of n)) (take-set-lt 120 rs i r short) ∙ map-set (slot_of n) (take 120 rs) i r

pub table_at : (n : ℕ) (rs : List SlotRecord) (i : ℕ) (d : SlotRecord) → i < length (table_slots n rs) → get_or (table_slots n rs) i None ≡ slot_of n (get_or rs i d)
unfolding table_slots
table_at n rs i d h =
    let e = length-map (take 120 rs) (slot_of n) ∙ length-take 120 rs in
    let short : i < 120 = omega (arith, e) in
    let within : i < length (take 120 rs) = omega (arith, e, length-take 120 rs) in
    get_or-map (slot_of n) (take 120 rs) i d None within ∙ ap (slot_of n) (get_or-take 120 rs i d short)

-- a record beyond the slots is not touched
pub spare_kept : (n : ℕ) (rs : List SlotRecord) (i : ℕ) (r : SlotRecord) → i < length (table_slots n rs) → drop 120 (set rs i r) ≡ drop 120 rs
spare_kept n rs i r h = drop-set-lt 120 rs i r (omega (arith, table_length n rs))

-- a slot is found again in its own record
pub slot_found : (n : ℕ) (content : Slot) → SlotWithin n content → slot_of n (record_of content) ≡ content
unfolding slot_of
slot_found n (Some row) fit = ap {B = Slot} Some (ap (row_made row.value) (mod-eq_of_lt fit) ∙ row_made_row row)
slot_found n None fit = refl

slots_found : (n : ℕ) (slots : List Slot) → AllByRecursion (SlotWithin n) slots → map (slot_of n) (map record_of slots) ≡ slots
slots_found n [] fit = refl
slots_found n (content ∷ slots) fit = ap₂ (λ (s : Slot) (l : List Slot). s ∷ l) (slot_found n content fit.0) (slots_found n slots fit.1)

get_other : {X : Type 0} (xs : List X) (i : ℕ) (x : X) (j : ℕ) → (i ≡ j → ⊥) → slice_get (set xs i x) j ≡ slice_get xs j
get_other [] i x j d = refl
get_other (y ∷ xs) zero x zero d = absurd (d refl)
get_other (y ∷ xs) zero x (suc j) d = refl
get_other (y ∷ xs) (suc i) x zero d = refl
get_other (y ∷ xs) (suc i) x (suc j) d = get_other xs i x j (λ e. d (ap suc e))

-- the slots after a granted call
module _ (n : ℕ) (rs : List SlotRecord) (muted : Bool) (i : ℕ) (h : i < length (table_slots n rs)) where
  written : (r : SlotRecord) (content : Slot) → slot_of n r ≡ content → table_state n (set rs i r) muted ≡ with_slot (table_state n rs muted) i content
  written r content e =
      ap {B = DeviceState} (λ (l : List Slot). record { width = n; slots = l; muted = muted })
      (table_set n rs i r h ∙ ap (set (table_slots n rs) i) e)

  -- a row of the width is found again
  pub slots_put : (row : Row) → row.care < 2 ^ n → table_state n (set rs i (record_of (Some row))) muted ≡ after_put (table_state n rs muted) i row
  slots_put row fit = written (record_of (Some row)) (Some row) (slot_found n (Some row) fit) ∙ put_left (table_state n rs muted) i row h fit

  pub slots_emptied : table_state n (set rs i (record_of None)) muted ≡ after_empty (table_state n rs muted) i
  slots_emptied = written (record_of None) None (slot_found n None tt) ∙ empty_left (table_state n rs muted) i h

  -- memory that was that of its slots still is, after a slot's own record was written
  pub of_slots_kept : (content : Slot) → SlotWithin n content → rs ≡ memory_with (table_slots n rs) rs →
      set rs i (record_of content) ≡ memory_with (table_slots n (set rs i (record_of content))) (set rs i (record_of content))
  of_slots_kept content fit own =
      let slots = table_slots n rs in
      let within : i < length (map record_of slots) = omega (arith, length-map slots record_of) in
      ap (λ (l : List SlotRecord). set l i (record_of content)) own ∙
      set-append_left (map record_of slots) (drop 120 rs) i (record_of content) within ∙
      ap (λ (l : List SlotRecord). l ++ drop 120 rs) (sym (map-set record_of slots i content)) ∙
      ap₂ (λ (l : List Slot) (m : List SlotRecord). map record_of l ++ m)
      (sym (table_set n rs i (record_of content) h ∙ ap (set slots i) (slot_found n content fit)))
      (sym (spare_kept n rs i (record_of content) h))

-- a record that is not written stays
pub unwritten_stays : (rs : List SlotRecord) (i : ℕ) (r : SlotRecord) (j : ℕ) → ¬ Contains (i ∷ []) j → slice_get (set rs i r) j ≡ slice_get rs j
unwritten_stays rs i r j none = get_other rs i r j (λ e. none (0, lit< tt, e))

-- what a table keeps when the record of a slot is written
pub keeps_written : (t : SlotTable) (slot : ℕ) (content : Slot) (r : SlotRecord) → slot < length (slot_table_state t).slots → SlotWithin (places_of t.width) content → r ≡ record_of content →
    KeepsRecords t (slot ∷ []) (record t { records = record t.records { now = set t.records.now slot r } })
keeps_written t slot content r within fit e =
    let n = places_of t.width in
    let rs = t.records.now in
    record {
      same_memory = refl;
      spare = spare_kept n rs slot r within;
      unwritten = unwritten_stays rs slot r;
      of_its_slots = λ own.
          subst (λ (q : SlotRecord). set rs slot q ≡ memory_with (table_slots n (set rs slot q)) (set rs slot q)) (sym e)
          (of_slots_kept n rs t.muted slot within content fit own);
    }

-- memory that begins with the records of some slots, as many as there are
module _ (slots : List Slot) (before : List SlotRecord) (long : length slots ≡ min 120 (length before)) where
  records_long : length (map record_of slots) ≡ min 120 (length before)
  records_long = length-map slots record_of ∙ long

  none_spare : length before ≤ 120 → memory_with slots before ≡ map record_of slots
  none_spare h = ap (λ (l : List SlotRecord). map record_of slots ++ l) (drop_all 120 before h) ∙ append-nil (map record_of slots)

  all_used : 120 ≤ length before → length (map record_of slots) ≡ 120
  all_used h = omega (arith, records_long)

  -- its slots' records are these
  first_records : take 120 (memory_with slots before) ≡ map record_of slots
  first_records = go (leb (length before) 120) refl
    where
      go : (t : Bool) → leb (length before) 120 ≡ t → take 120 (memory_with slots before) ≡ map record_of slots
      go true t =
          let h = leb-true (length before) 120 t in
          ap (take 120) (none_spare h) ∙ take_all 120 (map record_of slots) (omega (arith, records_long))
      go false t =
          let h = leb-false (length before) 120 t in
          ap (λ (k : ℕ). take k (memory_with slots before)) (sym (all_used (omega arith))) ∙ take-append_seam (map record_of slots) (drop 120 before)

  -- and the spare ones those that lay there before
  pub spare_records_of : drop 120 (memory_with slots before) ≡ drop 120 before
  spare_records_of = go (leb (length before) 120) refl
    where
      go : (t : Bool) → leb (length before) 120 ≡ t → drop 120 (memory_with slots before) ≡ drop 120 before
      go true t =
          let h = leb-true (length before) 120 t in
          ap (drop 120) (none_spare h) ∙ drop_all 120 (map record_of slots) (omega (arith, records_long)) ∙ sym (drop_all 120 before h)
      go false t =
          let h = leb-false (length before) 120 t in
          ap (λ (k : ℕ). drop k (memory_with slots before)) (sym (all_used (omega arith))) ∙ drop-append_seam (map record_of slots) (drop 120 before)

  pub slots_of_memory : (n : ℕ) → AllByRecursion (SlotWithin n) slots → table_slots n (memory_with slots before) ≡ slots
  unfolding table_slots
  slots_of_memory n fit = ap (map (slot_of n)) first_records ∙ slots_found n slots fit

-- the emptied records of a new table
pub blank_records : (k : ℕ) → map record_of (replicate k None) ≡ replicate k (record_of None)
blank_records zero = refl
blank_records (suc k) = ap₂ (λ (s : SlotRecord) (l : List SlotRecord). s ∷ l) refl (blank_records k)

pub blank_within : (n k : ℕ) → AllByRecursion (SlotWithin n) (replicate k None)
blank_within n zero = tt
blank_within n (suc k) = (tt, blank_within n k)

pub spare_of : (before : List SlotRecord) → drop (min 120 (length before)) before ≡ drop 120 before
spare_of before = go (leb (length before) 120) refl
  where
    go : (t : Bool) → leb (length before) 120 ≡ t → drop (min 120 (length before)) before ≡ drop 120 before
    go true t =
        let h = leb-true (length before) 120 t in
        drop_all (min 120 (length before)) before (omega arith) ∙ sym (drop_all 120 before h)
    go false t =
        let h = leb-false (length before) 120 t in
        let e : min 120 (length before) ≡ 120 = omega arith in
        ap (λ (k : ℕ). drop k before) e
