-- The rows at a level beneath a pile, and their rivals.
use Rattle.std.proofs.Common.{◌≡◌, ℕ, zero, suc, ◌^◌, ◌<◌, ◌||◌, List, [], ◌∷◌, length, Some, None, sym, refl, ap, ◌∙◌, subst, ap₂, arith}
use lib.ListN.{length-map}
use Rattle.std.specs.List.{AllByRecursion}
use Rattle.covers.specs.Digits.{digits}
use Rattle.covers.specs.Symbols.{Symbols, takes, list_takes}
use Rattle.covers.specs.Words.{value_word, care_word, symbols}
use Rattle.covers.specs.Rivals.{Rival}
use Rattle.covers.proofs.RowWords.{care_word_fits, clean_word, symbols_back}
use Rattle.rows.specs.declared.row.Row.{Row}
use Rattle.device.specs.States.{Slot, DeviceState, SlotWithin, Lawful, row_takes, some_slot_takes}
use Rattle.rows.specs.MadeRows.{row_made}
use Rattle.device.specs.SymbolLaws.{rows_in}
use Rattle.rows.specs.Memory.{symbols_of}
use Rattle.device.specs.Levels.{Level, Beneath, carried_slots}
use Rattle.device.proofs.SymbolTakes.{row_by_symbols, slots_by_symbols}
use Rattle.layers.specs.LayerLaws.{carried_within}
use Rattle.layers.specs.Piles.{carried_rows, Alike}

length_symbols : (n value care : ℕ) → length (symbols n value care) ≡ n
length_symbols zero value care = refl
length_symbols (suc n) value care = ap suc (length_symbols n value care)

-- the row that some symbols make
made_fits : (n : ℕ) (q : Symbols) → length q ≡ n → (row_made (value_word q) (care_word q)).care < 2 ^ n
unfolding row_made
made_fits n q e = let f = care_word_fits q in let p = ap (λ k. 2 ^ k) e in let h : care_word q < 2 ^ n = omega arith in h

made_symbols : (n : ℕ) (q : Symbols) → length q ≡ n → symbols_of n (row_made (value_word q) (care_word q)) ≡ q
unfolding row_made
made_symbols n q e = ap₂ (λ (j v : ℕ). symbols j v (care_word q)) (sym e) (clean_word q) ∙ symbols_back q

module _ (s : DeviceState) (l : Level) (w : Lawful s) (b : Beneath s l) where
  level_within : AllByRecursion (SlotWithin s.width) l.slots
  level_within =
      subst (λ (slots : List Slot). AllByRecursion (SlotWithin s.width) slots) (sym b.slots_carried)
      (carried_within s.width l.carrying.row_there b.carries.row_stays s.slots w.rows_within)

  pub taken_beneath : (x : ℕ) → x < 2 ^ s.width → some_slot_takes l.slots (l.carrying.number_there x) ≡ some_slot_takes s.slots x
  taken_beneath x h = ap (λ (slots : List Slot). some_slot_takes slots (l.carrying.number_there x)) b.slots_carried ∙ go s.slots w.rows_within
    where
      go : (slots : List Slot) → AllByRecursion (SlotWithin s.width) slots → some_slot_takes (carried_slots l.carrying.row_there slots) (l.carrying.number_there x) ≡ some_slot_takes slots x
      go [] k = refl
      go (Some r ∷ slots) k = ap₂ ◌||◌ (b.carries.taken r x k.0 h) (go slots k.1)
      go (None ∷ slots) k = go slots k.1

  pub rows_as_many : length (rows_in s.width l.slots) ≡ length (rows_in s.width s.slots)
  rows_as_many = ap (λ (slots : List Slot). length (rows_in s.width slots)) b.slots_carried ∙ go s.slots
    where
      go : (slots : List Slot) → length (rows_in s.width (carried_slots l.carrying.row_there slots)) ≡ length (rows_in s.width slots)
      go [] = refl
      go (Some r ∷ slots) = ap suc (go slots)
      go (None ∷ slots) = go slots

  -- a row carried back takes a number exactly when the row takes the carried number
  row_back_takes : (q : Symbols) → length q ≡ s.width → (x : ℕ) → x < 2 ^ s.width →
      takes (symbols_of s.width (l.carrying.row_back (row_made (value_word q) (care_word q)))) (digits s.width x) ≡ takes q (digits s.width (l.carrying.number_there x))
  row_back_takes q e x h =
      let r = row_made (value_word q) (care_word q) in
      let fits = made_fits s.width q e in
      let back = b.carries.row_back_stays r fits in
      sym (row_by_symbols s.width (l.carrying.row_back r) x back) ∙ sym (b.carries.taken (l.carrying.row_back r) x back h) ∙
      ap (λ (t : Row). row_takes t (l.carrying.number_there x)) (b.carries.row_back_there r fits) ∙
      row_by_symbols s.width r (l.carrying.number_there x) fits ∙
      ap (λ (t : Symbols). takes t (digits s.width (l.carrying.number_there x))) (made_symbols s.width q e)

  rows_back_take : (other : List Symbols) → AllByRecursion (λ q. length q ≡ s.width) other → (x : ℕ) → x < 2 ^ s.width →
      list_takes (carried_rows s.width l.carrying.row_back other) (digits s.width x) ≡ list_takes other (digits s.width (l.carrying.number_there x))
  rows_back_take [] a x h = refl
  rows_back_take (q ∷ other) a x h = ap₂ ◌||◌ (row_back_takes q a.0 x h) (rows_back_take other a.1 x h)

  rows_back_wide : (other : List Symbols) → AllByRecursion (λ q. length q ≡ s.width) (carried_rows s.width l.carrying.row_back other)
  rows_back_wide [] = tt
  rows_back_wide (q ∷ other) =
      let r = l.carrying.row_back (row_made (value_word q) (care_word q)) in
      (length_symbols s.width r.value r.care, rows_back_wide other)

  pub rival_back : (other : List Symbols) → Rival s.width (rows_in s.width l.slots) other →
      Rival s.width (rows_in s.width s.slots) (carried_rows s.width l.carrying.row_back other)
  rival_back other v =
      record {
        of_width = rows_back_wide other;
        same_numbers = λ x h.
            rows_back_take other v.of_width x h ∙ v.same_numbers (l.carrying.number_there x) (b.carries.number_stays x h) ∙
            sym (slots_by_symbols s.width l.slots (l.carrying.number_there x) level_within) ∙ taken_beneath x h ∙
            slots_by_symbols s.width s.slots x w.rows_within;
      }

  pub level_alike : Alike s l
  level_alike =
      record {
        taken = taken_beneath;
        as_many = rows_as_many;
        rival_back = rival_back;
        rival_as_many = λ other. length-map other (λ q. symbols_of s.width (l.carrying.row_back (row_made (value_word q) (care_word q))));
      }
