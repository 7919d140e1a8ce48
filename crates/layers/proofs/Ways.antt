-- The ways to the levels beneath a layer stay the same while the width does, and the ways beneath the device below.
use Rattle.std.proofs.Common.{◌≡◌, ℕ, List, [], ◌∷◌, map, Some, None, Ok, Err, Result, refl, sym, ap, ap₂, ◌∙◌}
use Rattle.rows.specs.declared.refusal.Refusal.{Refusal}
use Rattle.rows.specs.declared.row.Row.{Row}
use Rattle.rows.specs.Refusals.{if_granted}
use Rattle.device.specs.States.{DeviceState}
use Rattle.device.specs.Answers.{put_answer, after_put, empty_answer, after_empty, with_slot}
use Rattle.device.specs.Levels.{Carrying, Level, carryings}
use Rattle.layers.specs.Layers.{composed, level_under, layer_levels}

ways_under : (c : Carrying) (levels : List Level) → carryings (map (level_under c) levels) ≡ map (composed c) (carryings levels)
ways_under c [] = refl
ways_under c (l ∷ levels) = ap (λ (ways : List Carrying). composed c l.carrying ∷ ways) (ways_under c levels)

-- whatever is granted leaves the width
width_kept : {X : Type 0} (r : Result X Refusal) (t s : DeviceState) → t.width ≡ s.width → (if_granted r t s).width ≡ s.width
width_kept (Ok x) t s e = e
width_kept (Err x) t s e = refl

-- so where the width and the ways below are the same, the ways are
pub ways_same : (carrying : ℕ → Carrying) (s t : DeviceState) (levels after : List Level) → t.width ≡ s.width → carryings after ≡ carryings levels →
    carryings (layer_levels carrying t after) ≡ carryings (layer_levels carrying s levels)
ways_same carrying s t levels after e same =
    ap₂ (λ (c : Carrying) (ways : List Carrying). c ∷ ways) (ap carrying e)
    (ways_under (carrying t.width) after ∙ ap₂ (λ (n : ℕ) (ways : List Carrying). map (composed (carrying n)) ways) e same ∙ sym (ways_under (carrying s.width) levels))

pub ways_after_put : (carrying : ℕ → Carrying) (s t : DeviceState) (levels after : List Level) (i : ℕ) (r : Row) → t ≡ after_put s i r → carryings after ≡ carryings levels →
    carryings (layer_levels carrying t after) ≡ carryings (layer_levels carrying s levels)
ways_after_put carrying s t levels after i r e same =
    ways_same carrying s t levels after (ap (λ (u : DeviceState). u.width) e ∙ width_kept (put_answer s i r) (with_slot s i (Some r)) s refl) same

pub ways_after_empty : (carrying : ℕ → Carrying) (s t : DeviceState) (levels after : List Level) (i : ℕ) → t ≡ after_empty s i → carryings after ≡ carryings levels →
    carryings (layer_levels carrying t after) ≡ carryings (layer_levels carrying s levels)
ways_after_empty carrying s t levels after i e same =
    ways_same carrying s t levels after (ap (λ (u : DeviceState). u.width) e ∙ width_kept (empty_answer s i) (with_slot s i None) s refl) same
