-- That the meaning of a layer is lawful, and that its levels lie beneath it.
use Rattle.std.specs.Prelude.{◌≡◌, ℕ, ◌^◌, ◌<◌, List, [], ◌∷◌, map, Some, None, refl}
use Rattle.std.proofs.Common.{sym, ap, ap₂, ◌∙◌, arith}
use Rattle.std.proofs.lemmas.List.{length-map}
use Rattle.std.specs.List.{AllByRecursion}
use Rattle.rows.specs.declared.row.Row.{Row}
use Rattle.device.specs.States.{Slot, DeviceState, SlotWithin, Lawful}
use Rattle.device.specs.Levels.{Carrying, Carries, Level, Beneath, carried_slot, carried_slots}
use Rattle.layers.specs.Maps.{LawfulMap}
use Rattle.layers.specs.Layers.{layer_state, layer_levels, composed, level_under}

pub carried_within : (n : ℕ) (carry : Row → Row) → ((r : Row) → r.care < 2 ^ n → (carry r).care < 2 ^ n) → (slots : List Slot) → AllByRecursion (SlotWithin n) slots → AllByRecursion (SlotWithin n) (carried_slots carry slots)
carried_within n carry stays [] h = tt
carried_within n carry stays (Some r ∷ slots) h = (stays r h.0, carried_within n carry stays slots h.1)
carried_within n carry stays (None ∷ slots) h = (tt, carried_within n carry stays slots h.1)

pub carried_twice : (f g : Row → Row) (slots : List Slot) → carried_slots (λ r. f (g r)) slots ≡ carried_slots f (carried_slots g slots)
carried_twice f g [] = refl
carried_twice f g (Some r ∷ slots) = ap (λ (l : List Slot). Some (f (g r)) ∷ l) (carried_twice f g slots)
carried_twice f g (None ∷ slots) = ap (λ (l : List Slot). None ∷ l) (carried_twice f g slots)

pub carried_same : (n : ℕ) (carry : Row → Row) → ((r : Row) → r.care < 2 ^ n → carry r ≡ r) → (slots : List Slot) → AllByRecursion (SlotWithin n) slots → carried_slots carry slots ≡ slots
carried_same n carry same [] h = refl
carried_same n carry same (Some r ∷ slots) h = ap₂ (λ (t : Row) (l : List Slot). Some t ∷ l) (same r h.0) (carried_same n carry same slots h.1)
carried_same n carry same (None ∷ slots) h = ap (λ (l : List Slot). None ∷ l) (carried_same n carry same slots h.1)

pub composed_carries : (n : ℕ) (c d : Carrying) → Carries n c → Carries n d → Carries n (composed c d)
composed_carries n c d p q =
    record {
      number_stays = λ x h. q.number_stays (c.number_there x) (p.number_stays x h);
      number_back_stays = λ x h. p.number_back_stays (d.number_back x) (q.number_back_stays x h);
      number_there_back = λ x h. ap c.number_back (q.number_there_back (c.number_there x) (p.number_stays x h)) ∙ p.number_there_back x h;
      number_back_there = λ x h. ap d.number_there (p.number_back_there (d.number_back x) (q.number_back_stays x h)) ∙ q.number_back_there x h;
      row_stays = λ r h. q.row_stays (c.row_there r) (p.row_stays r h);
      row_back_stays = λ r h. p.row_back_stays (d.row_back r) (q.row_back_stays r h);
      row_there_back = λ r h. ap c.row_back (q.row_there_back (c.row_there r) (p.row_stays r h)) ∙ p.row_there_back r h;
      row_back_there = λ r h. ap d.row_there (p.row_back_there (d.row_back r) (q.row_back_stays r h)) ∙ q.row_back_there r h;
      taken = λ r x h k. q.taken (c.row_there r) (c.number_there x) (p.row_stays r h) (p.number_stays x k) ∙ p.taken r x h k;
    }

module _ (carrying : ℕ → Carrying) (s : DeviceState) where
  pub layer_lawful : LawfulMap carrying → Lawful s → Lawful (layer_state carrying s)
  layer_lawful m w =
      record {
        some_place = w.some_place;
        few_places = w.few_places;
        few_slots = let h = w.few_slots in omega (arith, length-map s.slots (carried_slot (carrying s.width).row_back));
        rows_within = carried_within s.width (carrying s.width).row_back (m s.width w.some_place w.few_places).row_back_stays s.slots w.rows_within;
      }

  pub layer_beneath : (levels : List Level) → LawfulMap carrying → Lawful s → AllByRecursion (Beneath s) levels → AllByRecursion (Beneath (layer_state carrying s)) (layer_levels carrying s levels)
  layer_beneath levels m w h = (record { carries = k; slots_carried = again }, under levels h)
    where
      k : Carries s.width (carrying s.width)
      k = m s.width w.some_place w.few_places

      again : s.slots ≡ carried_slots (carrying s.width).row_there (carried_slots (carrying s.width).row_back s.slots)
      again =
          sym (carried_same s.width (λ r. (carrying s.width).row_there ((carrying s.width).row_back r)) k.row_back_there s.slots w.rows_within) ∙
          carried_twice (carrying s.width).row_there (carrying s.width).row_back s.slots

      under : (levels : List Level) → AllByRecursion (Beneath s) levels → AllByRecursion (Beneath (layer_state carrying s)) (map (level_under (carrying s.width)) levels)
      under [] h = tt
      under (l ∷ levels) h = (
        record {
          carries = composed_carries s.width (carrying s.width) l.carrying k h.0.carries;
          slots_carried =
              h.0.slots_carried ∙ ap (carried_slots l.carrying.row_there) again ∙
              sym (carried_twice l.carrying.row_there (carrying s.width).row_there (carried_slots (carrying s.width).row_back s.slots));
        },
        under levels h.1,
      )
