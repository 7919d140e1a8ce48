-- A list that is handed over to the caller's memory.
use Rattle.std.proofs.Common.{◌≡◌, ℕ, Bool, true, false, cond, List, ◌++◌, length, drop, Ok, Err, sym, ap, ◌∙◌, subst}
use Rattle.std.specs.Prelude.{Result, IfOk, nat_le}
use Rattle.rows.specs.declared.refusal.Refusal.{Refusal}
use Rattle.rows.specs.declared.refusal.Refusal.TheVariants.{MemoryTooShort}

module _ {X : Type 0} (given memory new items : List X) (result : Result ℕ Refusal)
    (answer : result ≡ cond (nat_le (length given) (length memory)) (Ok (length given)) (Err MemoryTooShort))
    (copied : IfOk result (λ k. new ≡ given ++ drop k memory)) (is : given ≡ items) where
  pub handed_answer : result ≡ cond (nat_le (length items) (length memory)) (Ok (length items)) (Err MemoryTooShort)
  handed_answer = answer ∙ ap (λ l. cond (nat_le (length l) (length memory)) (Ok (length l)) (Err MemoryTooShort)) is

  -- where it is granted, memory begins with the list
  pub handed : (P : ℕ → Type 0) → (new ≡ items ++ drop (length items) memory → P (length items)) → IfOk result P
  handed P f = go (nat_le (length items) (length memory)) handed_answer
    where
      go : (fits : Bool) → result ≡ cond fits (Ok (length items)) (Err MemoryTooShort) → IfOk result P
      go true e = subst (λ r. IfOk r P) (sym e) (f (subst (λ r. IfOk r (λ k. new ≡ given ++ drop k memory)) e copied ∙ ap (λ l. l ++ drop (length items) memory) is))
      go false e = subst (λ r. IfOk r P) (sym e) tt
