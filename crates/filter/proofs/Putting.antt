-- Rows put into slots one after the other.
use Rattle.std.proofs.Common.{◌≡◌, ℕ, zero, suc, ◌+◌, ◌-◌, ◌^◌, ◌<◌, ◌≤◌, List, [], ◌∷◌, ◌++◌, map, length, get_or, take, drop, set, replicate, Some, None, Ok, sym, ap, ap₂, ◌∙◌, subst, le_of_suc-le-suc, not-suc-le-zero, arith}
use Rattle.std.specs.List.{AllByRecursion}
use Rattle.std.proofs.lemmas.List.{length-map, length-take-le, map_more, take_at}
use Rattle.std.proofs.lemmas.Bool.{lt-ltb}
use Rattle.rows.specs.declared.row.Row.{Row}
use Rattle.rows.specs.declared.row_words.RowWords.{RowWords}
use Rattle.rows.specs.Memory.{written}
use Rattle.rows.proofs.Writing.{written_none, written_one, written_join, length_written}
use Rattle.rows.specs.MadeRows.{row_made}
use Rattle.device.specs.States.{Slot, DeviceState}
use Rattle.device.specs.Answers.{with_slot, put_answer, after_put}
use Rattle.filter.proofs.Written.{put_granted}
use Rattle.filter.specs.Placement.{emptied, slot_read, with_rows, with_slots}

put_slot : (s : DeviceState) (slot : ℕ) (row : Row) → slot < length s.slots → row.care < 2 ^ s.width → after_put s slot row ≡ with_slot s slot (Some row)
put_slot s slot row h k = rw (lt-ltb slot (length s.slots) h, lt-ltb row.care (2 ^ s.width) k)

narrow_at : (n : ℕ) (rows : List RowWords) (i : ℕ) (d : RowWords) → AllByRecursion (λ w. w.care < 2 ^ n) rows → i < length rows → (get_or rows i d).care < 2 ^ n
narrow_at n [] i d h k = absurd (not-suc-le-zero k)
narrow_at n (w ∷ rows) zero d h k = h.0
narrow_at n (w ∷ rows) (suc i) d h k = narrow_at n rows i d h.1 (le_of_suc-le-suc k)

-- no row put yet
pub put_none : (s : DeviceState) → s ≡ with_slots s []
put_none s = ap (λ l. record s { slots = l }) (sym (written_none s.slots 0))

-- the row at an index, put after those before it
module _ (s : DeviceState) (i : ℕ) (rows : List RowWords) (d : RowWords) (row : Row) (narrow : AllByRecursion (λ w. w.care < 2 ^ s.width) rows) (room : length rows ≤ length s.slots) (h : i < length rows) (made : row ≡ row_made (get_or rows i d).value (get_or rows i d).care) where
  abbrev pub done : List Slot
  done = map slot_read (take i rows)

  as_many : length done ≡ i
  as_many = length-map (take i rows) slot_read ∙ length-take-le i rows (omega arith)

  size : length (with_slots s done).slots ≡ length s.slots
  size = let k = as_many in length_written done s.slots 0 (omega arith)

  care : row.care < 2 ^ s.width
  unfolding row_made
  care = subst (λ r. r.care < 2 ^ s.width) (sym made) (narrow_at s.width rows i d narrow h)

  -- it is granted
  pub row_granted : put_answer (with_slots s done) i row ≡ Ok tt
  row_granted = let k = size in put_granted (with_slots s done) i row (omega arith) care

  -- and there is one row more
  pub put_more : after_put (with_slots s done) i row ≡ with_slots s (map slot_read (take (i + 1) rows))
  put_more =
      let k = as_many in
      let long = size in
      let next : i ≡ 0 + length done = omega arith in
      put_slot (with_slots s done) i row (omega arith) care ∙
      ap (λ l. record s { slots = l })
      (ap (λ r. set (written s.slots 0 done) i (Some r)) made ∙
      sym (written_one (written s.slots 0 done) i (slot_read (get_or rows i d)) (omega arith)) ∙
      ap (λ j. written (written s.slots 0 done) j (slot_read (get_or rows i d) ∷ [])) next ∙
      written_join done (slot_read (get_or rows i d) ∷ []) s.slots 0 (omega arith) ∙
      ap (written s.slots 0) (sym (map_more slot_read rows i d h)))

-- all put, and nothing left in the slots after them
module _ (s : DeviceState) (rows : List RowWords) (room : length rows ≤ length s.slots) where
  pub size_put : length (with_slots s (map slot_read rows)).slots ≡ length s.slots
  size_put = let k = length-map rows slot_read in length_written (map slot_read rows) s.slots 0 (omega arith)

  pub placed : emptied (with_slots s (map slot_read rows)) (length rows) ≡ with_rows s rows
  placed =
      ap₂ (λ (l : List Slot) (j : ℕ). record s { slots = l ++ replicate (j - length rows) None })
      (take_at (map slot_read rows) (drop (0 + length (map slot_read rows)) s.slots) (length rows) (length-map rows slot_read)) size_put
