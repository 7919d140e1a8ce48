-- One step of a list of calls.
use Rattle.std.proofs.Common.{◌≡◌, ℕ, ◌+◌, ◌<◌, Bool, true, ◌&&◌, List, [], ◌∷◌, ◌++◌, length, get_or, take, drop, set, append_assoc, drop-cons, add-one, Decides, sym, ap, ◌∙◌, ap₂}
use Rattle.std.proofs.lemmas.Bool.{and_from, and_parts}
use Rattle.std.proofs.lemmas.List.{drop-drop, take_more_set}
use Rattle.device.specs.declared.call.DeviceCall.{DeviceCall}
use Rattle.device.specs.declared.exchange.Exchange.{Exchange}
use Rattle.device.specs.Exchanges.{after_all, answered_all, calls_of}
use Rattle.device.specs.States.{DeviceState}
use Rattle.device.specs.Replays.{Answer, device_step, answers_to, after_calls}

-- the next element and what is left
pub next_left : {X : Type 0} (xs : List X) (i : ℕ) (x : X) → i < length xs → x ≡ get_or xs i x → drop i xs ≡ x ∷ drop (i + 1) xs
next_left xs i x h e = drop-cons xs i x h ∙ ap₂ (λ (y : _) (n : ℕ). y ∷ drop n xs) (sym e) (sym (add-one i))

-- of exchanges whose rest is as it was, the calls that are left
pub calls_next : {C A : Type 0} (es was : List (Exchange C A)) (i : ℕ) (e : Exchange C A) → drop i es ≡ drop i was → i < length es → e ≡ get_or es i e →
    calls_of (drop i was) ≡ (get_or es i e).call ∷ calls_of (drop (i + 1) was)
calls_next es was i e same h is =
    let first : drop i was ≡ e ∷ drop (i + 1) es = sym same ∙ next_left es i e h is in
    let rest : drop (i + 1) was ≡ drop (i + 1) es = sym (drop-drop 1 i was) ∙ ap (drop 1) first in
    ap calls_of first ∙ ap₂ (λ (x : Exchange _ _) (l : List (Exchange _ _)). x.call ∷ calls_of l) is (sym rest)

-- one call more of exchanges, of which those so far are answered and the rest is as it was
module _ {S C A : Type 0} (step : C → S → A × S) (s t : S) (es was : List (Exchange C A)) (i : ℕ) (e : Exchange C A) (same : drop i es ≡ drop i was) (h : i < length es) (is : e ≡ get_or es i e) (now : t ≡ (step (get_or es i e).call s).1) where
  abbrev call : C
  call = (get_or es i e).call

  abbrev left : List C
  left = calls_of (drop (i + 1) was)

  -- those so far, with those that are left answered, are what they were
  pub answered_more : (x : A) → x ≡ (step call s).0 →
      take (i + 1) (set es i (record { call = call; answer = x })) ++ answered_all step t left ≡ take i es ++ answered_all step s (calls_of (drop i was))
  answered_more x told =
      let first : answered_all step s (calls_of (drop i was)) ≡ record { call = call; answer = (step call s).0 } ∷ answered_all step (step call s).1 left =
      ap (answered_all step s) (calls_next es was i e same h is) in
      ap (λ (l : List (Exchange C A)). l ++ answered_all step t left) (take_more_set es i (record { call = call; answer = x }) h) ∙
      append_assoc (take i es) (record { call = call; answer = x } ∷ []) (answered_all step t left) ∙
      ap (λ (l : List (Exchange C A)). take i es ++ l)
      (ap₂ (λ (y : A) (u : S). record { call = call; answer = y } ∷ answered_all step u left) told now ∙ sym first)

  pub after_more_exchanges : after_all step t left ≡ after_all step s (calls_of (drop i was))
  after_more_exchanges = ap (λ (u : S). after_all step u left) now ∙ sym (ap (after_all step s) (calls_next es was i e same h is))

-- after one more call, the answers that are left are those to what is left
pub answers_more : (s t : DeviceState) (cs : List DeviceCall) (i : ℕ) (c : DeviceCall) (x : Answer) → i < length cs → c ≡ get_or cs i c →
    x ≡ (device_step c s).0 → t ≡ (device_step c s).1 → answers_to s (drop i cs) ≡ x ∷ answers_to t (drop (i + 1) cs)
answers_more s t cs i c x h e r a =
    ap (answers_to s) (next_left cs i c h e) ∙
    ap₂ (λ (y : Answer) (u : DeviceState). y ∷ answers_to u (drop (i + 1) cs)) (sym r) (sym a)

pub after_more : (s t : DeviceState) (cs : List DeviceCall) (i : ℕ) (c : DeviceCall) → i < length cs → c ≡ get_or cs i c → t ≡ (device_step c s).1 →
    after_calls t (drop (i + 1) cs) ≡ after_calls s (drop i cs)
after_more s t cs i c h e a = ap (λ (u : DeviceState). after_calls u (drop (i + 1) cs)) a ∙ sym (ap (after_calls s) (next_left cs i c h e))

-- the verdict on two lists of answers, after one answer more
pub alike_more : {P : Type 0} (was same : Bool) (x y : Answer) (xs ys l m : List Answer) →
    l ≡ x ∷ xs → m ≡ y ∷ ys → Decides same (x ≡ y) →
    (P → (was ≡ true) × (l ≡ m)) → (was ≡ true → l ≡ m → P) → (P → ((was && same) ≡ true) × (xs ≡ ys)) × ((was && same) ≡ true → xs ≡ ys → P)
alike_more {P} was same x y xs ys l m el em d there back = (
  λ p.
      let lm = (there p).1 in
      let heads : x ≡ y = cc in
      let tails : xs ≡ ys = cc in
      (and_from was same (there p).0 (d.1 heads), tails),
  λ t e.
      let k = and_parts was same t in
      let heads = d.0 k.1 in
      let lm : l ≡ m = cc in
      back k.0 lm,
)
