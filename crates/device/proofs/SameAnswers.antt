-- The derived comparison of answers tells whether they are the same.
use Rattle.std.proofs.Common.{◌≡◌, Bool, true, false, Some, None, Ok, Err, Decides, ◌&&◌, refl, sym, ap, ap₂, ◌∙◌}
use denote.Enum.Bare.{same_true, true_same}
use Rattle.rows.specs.contracts.refusal.Refusal.{the_type}
use Rattle.std.proofs.lemmas.Bool.{false≢true, both_ways, eq-eqb, eqb-true}
use Rattle.std.proofs.Math.Bool.{beq}
use Rattle.std.proofs.Math.Dec.{eqb}
use Rattle.std.specs.Cmp.{booleans_Decides}
use Rattle.std.specs.Result.{result_eq}
use Rattle.rows.specs.declared.refusal.Refusal.{Refusal}
use Rattle.rows.specs.declared.row.Row.{Row}
use Rattle.rows.specs.contracts.row.RowPartialEq.TheImpl as row_equality
use Rattle.rows.specs.contracts.refusal.RefusalPartialEq.TheImpl as refusal_equality
use Rattle.device.specs.declared.call.DeviceAnswer.{DeviceAnswer}
use Rattle.device.specs.declared.call.DeviceAnswer.TheVariants.{Done, Holds, Says}
use Rattle.device.specs.contracts.call.DeviceAnswerPartialEq.TheImpl as answer_equality
use Rattle.device.specs.Replays.{Answer}
use Rattle.rows.proofs.SameRows.{row_same}

-- a result that equals a test decides what the test decides
by_test : {P : Type 0} (s r : Bool) → r ≡ s → Decides s P → Decides r P
by_test s r h d = (λ t. d.0 (sym h ∙ t), λ p. h ∙ d.1 p)

both_hold : (a b : Bool) → (a && b) ≡ true → (a ≡ true) × (b ≡ true)
both_hold true true h = (refl, refl)
both_hold true false h = absurd (false≢true h)
both_hold false b h = absurd (false≢true h)

row_decides : (x y : Row) (r : Bool) → (r ≡ (row_equality.ghosts).eq x y) → Decides r (x ≡ y)
row_decides x y r h =
    by_test (eqb x.value y.value && eqb x.care y.care) r h (
      λ t. let k = both_hold _ _ t in row_same x y (eqb-true _ _ k.0) (eqb-true _ _ k.1),
      λ e. ap₂ (λ a b. a && b) (eq-eqb _ _ (ap (λ (z : Row). z.value) e)) (eq-eqb _ _ (ap (λ (z : Row). z.care) e)),
    )

refusal_decides : (x y : Refusal) (r : Bool) → (r ≡ (refusal_equality.ghosts).eq x y) → Decides r (x ≡ y)
refusal_decides x y r h = (λ t. same_true the_type tt x y (sym h ∙ t), λ e. h ∙ true_same the_type x y e)

apart : {X : Type 0} (x y : X) (r : Bool) → (x ≡ y → ⊥) → r ≡ false → Decides r (x ≡ y)
apart x y r differ h = (λ t. absurd (both_ways r h t), λ e. absurd (differ e))

carried : {X Y : Type 0} (f : X → Y) (x y : X) (r : Bool) → (f x ≡ f y → x ≡ y) → Decides r (x ≡ y) → Decides r (f x ≡ f y)
carried f x y r back d = (λ t. ap f (d.0 t), λ e. d.1 (back e))

granted_decides : (x y : DeviceAnswer) (r : Bool) → r ≡ (answer_equality.ghosts).eq x y → Decides r (x ≡ y)
granted_decides Done Done r h = (λ _. refl, λ _. h)
granted_decides Done (Holds b) r h = apart _ _ r (λ e. cc) h
granted_decides Done (Says b) r h = apart _ _ r (λ e. cc) h
granted_decides (Holds a) Done r h = apart _ _ r (λ e. cc) h
granted_decides (Holds None) (Holds None) r h = (λ _. refl, λ _. h)
granted_decides (Holds None) (Holds (Some b)) r h = apart _ _ r (λ e. cc) h
granted_decides (Holds (Some a)) (Holds None) r h = apart _ _ r (λ e. cc) h
granted_decides (Holds (Some a)) (Holds (Some b)) r h = carried (λ (z : Row). Holds (Some z)) a b r (λ e. cc) (row_decides a b r h)
granted_decides (Holds a) (Says b) r h = apart _ _ r (λ e. cc) h
granted_decides (Says a) Done r h = apart _ _ r (λ e. cc) h
granted_decides (Says a) (Holds b) r h = apart _ _ r (λ e. cc) h
granted_decides (Says a) (Says b) r h = carried Says a b r (λ e. cc) (by_test (beq a b) r h (booleans_Decides a b))

pub answer_decides : (x y : Answer) (r : Bool) → r ≡ result_eq (answer_equality.ghosts).eq (refusal_equality.ghosts).eq x y → Decides r (x ≡ y)
answer_decides (Ok a) (Ok b) r h = carried {Y = Answer} Ok a b r (λ e. cc) (granted_decides a b r h)
answer_decides (Ok a) (Err b) r h = apart _ _ r (λ e. cc) h
answer_decides (Err a) (Ok b) r h = apart _ _ r (λ e. cc) h
answer_decides (Err a) (Err b) r h = carried {Y = Answer} Err a b r (λ e. cc) (refusal_decides a b r h)
