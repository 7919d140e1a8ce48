-- What a layer answers, by what the device below answers.
use Rattle.std.proofs.Common.{◌≡◌, ℕ, ◌^◌, ◌<◌, Bool, true, false, cond, ◌||◌, ltb, List, [], ◌∷◌, length, set, Some, None, Ok, Err, Result, sym, refl, ap, ◌∙◌, ap₂}
use lib.ListN.{length-map}
use lib.Seq.{map-set}
use Rattle.std.specs.List.{AllByRecursion}
use Rattle.std.proofs.lemmas.Bool.{lt-ltb, ltb-true}
use Rattle.rows.specs.declared.row.Row.{Row}
use Rattle.rows.specs.declared.refusal.Refusal.{Refusal}
use Rattle.rows.specs.declared.refusal.Refusal.TheVariants.{NumberOutsideWidth, NoSuchSlot, RowOutsideWidth}
use Rattle.device.specs.States.{Slot, DeviceState, SlotWithin, row_takes, some_slot_takes, says}
use Rattle.rows.specs.Refusals.{if_granted}
use Rattle.device.specs.Answers.{with_slot, after_put, after_empty, ask_answer}
use Rattle.device.specs.Levels.{Carrying, Carries, carried_slot, carried_slots}
use Rattle.device.proofs.Says.{says_alike}
use Rattle.layers.specs.Layers.{layer_state, number_below, row_below}

-- the answers, by their tests
abbrev put_of : Bool → Bool → Result (Unit {0}) Refusal
put_of t u = cond t (cond u (Ok tt) (Err RowOutsideWidth)) (Err NoSuchSlot)

abbrev empty_of : Bool → Result (Unit {0}) Refusal
empty_of t = cond t (Ok tt) (Err NoSuchSlot)

abbrev ask_of : Bool → Bool → Result Bool Refusal
ask_of t said = cond t (Ok said) (Err NumberOutsideWidth)

abbrev holding : DeviceState → List Slot → DeviceState
holding s slots = record s { slots = slots }

-- the slots take a carried number as the slots carried back take the number
carried_takes : (n : ℕ) (c : Carrying) → Carries n c → (x : ℕ) → x < 2 ^ n → (slots : List Slot) → AllByRecursion (SlotWithin n) slots → some_slot_takes slots (c.number_there x) ≡ some_slot_takes (carried_slots c.row_back slots) x
carried_takes n c k x h [] w = refl
carried_takes n c k x h (Some r ∷ slots) w =
    ap₂ ◌||◌
    (ap (λ (t : Row). row_takes t (c.number_there x)) (sym (k.row_back_there r w.0)) ∙ k.taken (c.row_back r) x (k.row_back_stays r w.0) h)
    (carried_takes n c k x h slots w.1)
carried_takes n c k x h (None ∷ slots) w = carried_takes n c k x h slots w.1

module _ (carrying : ℕ → Carrying) (s : DeviceState) where
  carried_length : length (layer_state carrying s).slots ≡ length s.slots
  carried_length = length-map s.slots (carried_slot (carrying s.width).row_back)

  row_below_cares : Carries s.width (carrying s.width) → (r : Row) → ltb (row_below carrying s r).care (2 ^ s.width) ≡ ltb r.care (2 ^ s.width)
  row_below_cares k r = go (ltb r.care (2 ^ s.width)) refl
    where
      go : (t : Bool) → ltb r.care (2 ^ s.width) ≡ t → ltb (cond t ((carrying s.width).row_there r) r).care (2 ^ s.width) ≡ t
      go true e = lt-ltb ((carrying s.width).row_there r).care (2 ^ s.width) (k.row_stays r (ltb-true r.care (2 ^ s.width) e))
      go false e = e

  put_carried : Carries s.width (carrying s.width) → (i : ℕ) (r : Row) → layer_state carrying (after_put s i (row_below carrying s r)) ≡ after_put (layer_state carrying s) i r
  put_carried k i r =
      ap (λ (u : Bool). layer_state carrying (if_granted (put_of (ltb i (length s.slots)) u) (with_slot s i (Some (row_below carrying s r))) s)) (row_below_cares k r) ∙
      go (ltb i (length s.slots)) (ltb r.care (2 ^ s.width)) refl ∙
      ap (λ (t : Bool). if_granted (put_of t (ltb r.care (2 ^ s.width))) (with_slot (layer_state carrying s) i (Some r)) (layer_state carrying s)) (ap (ltb i) (sym carried_length))
    where
      go : (t u : Bool) → ltb r.care (2 ^ s.width) ≡ u →
          layer_state carrying (if_granted (put_of t u) (with_slot s i (Some (cond u ((carrying s.width).row_there r) r))) s) ≡
          if_granted (put_of t u) (with_slot (layer_state carrying s) i (Some r)) (layer_state carrying s)
      go true true e =
          ap (holding s)
          (map-set (carried_slot (carrying s.width).row_back) s.slots i (Some ((carrying s.width).row_there r)) ∙
          ap (λ (t : Row). set (carried_slots (carrying s.width).row_back s.slots) i (Some t)) (k.row_there_back r (ltb-true r.care (2 ^ s.width) e)))
      go true false e = refl
      go false true e = refl
      go false false e = refl

  pub after_put_carried : Carries s.width (carrying s.width) → (i : ℕ) (r below : Row) (t : DeviceState) → below ≡ row_below carrying s r → t ≡ after_put s i below →
      layer_state carrying t ≡ after_put (layer_state carrying s) i r
  after_put_carried k i r below t e f = ap (layer_state carrying) (f ∙ ap (after_put s i) e) ∙ put_carried k i r

  pub after_empty_carried : (i : ℕ) (t : DeviceState) → t ≡ after_empty s i → layer_state carrying t ≡ after_empty (layer_state carrying s) i
  after_empty_carried i t f =
      ap (layer_state carrying) f ∙ go (ltb i (length s.slots)) ∙
      ap (λ (t : Bool). if_granted (empty_of t) (with_slot (layer_state carrying s) i None) (layer_state carrying s)) (ap (ltb i) (sym carried_length))
    where
      go : (t : Bool) → layer_state carrying (if_granted (empty_of t) (with_slot s i None) s) ≡ if_granted (empty_of t) (with_slot (layer_state carrying s) i None) (layer_state carrying s)
      go true = ap (holding s) (map-set (carried_slot (carrying s.width).row_back) s.slots i None)
      go false = refl

  asked_carried : Carries s.width (carrying s.width) → AllByRecursion (SlotWithin s.width) s.slots → (x : ℕ) → ask_answer s (number_below carrying s x) ≡ ask_answer (layer_state carrying s) x
  asked_carried k w x = go (ltb x (2 ^ s.width)) refl
    where
      go : (t : Bool) → ltb x (2 ^ s.width) ≡ t →
          ask_of (ltb (cond t ((carrying s.width).number_there x) x) (2 ^ s.width)) (says s (cond t ((carrying s.width).number_there x) x)) ≡ ask_of t (says (layer_state carrying s) x)
      go true e =
          let h = ltb-true x (2 ^ s.width) e in
          ap₂ ask_of (lt-ltb ((carrying s.width).number_there x) (2 ^ s.width) (k.number_stays x h))
          (says_alike s (layer_state carrying s) ((carrying s.width).number_there x) x refl (carried_takes s.width (carrying s.width) k x h s.slots w))
      go false e = ap (λ (t : Bool). ask_of t (says s x)) e

  pub ask_carried : Carries s.width (carrying s.width) → AllByRecursion (SlotWithin s.width) s.slots → (x below : ℕ) (asked said : Result Bool Refusal) → below ≡ number_below carrying s x → asked ≡ ask_answer s below → asked ≡ said →
      said ≡ ask_answer (layer_state carrying s) x
  ask_carried k w x below asked said e f was = sym was ∙ f ∙ ap (ask_answer s) e ∙ asked_carried k w x
