-- What stays of a device over a list of calls.
use Rattle.std.proofs.Common.{◌≡◌, ℕ, List, [], ◌∷◌, ◌++◌, refl, ap, ◌∙◌, append_assoc, append-nil}
use Rattle.device.specs.declared.device.RowDevice.{Ghosts}
use Rattle.device.specs.KeptBeside.{KeptBeside}
use Rattle.device.specs.KeptBesideLaws.{kept_at_rest, kept_on}
use Rattle.device.specs.Exchanges.{written_all}

-- so far a device was kept, and what is written from here on makes up all that is written
pub record KeptSoFar {D S C A : Type 0} (d : Ghosts D) (writes : S → C → List ℕ) (step : C → S → A × S) (first : D) (all : List ℕ) (now : D) (s : S) (left : List C) : Type 0 where
  pub written : List ℕ
  pub kept : KeptBeside d first written now
  pub rest : written ++ written_all writes step s left ≡ all

module _ {D S C A : Type 0} (d : Ghosts D) (writes : S → C → List ℕ) (step : C → S → A × S) where
  pub kept_from_start : (a : D) (s : S) (calls : List C) → KeptSoFar d writes step a (written_all writes step s calls) a s calls
  kept_from_start a s calls = record { written = []; kept = kept_at_rest d a; rest = refl }

  -- one call more
  pub kept_more : (a b c : D) (all : List ℕ) (s t : S) (call : C) (left : List C) → KeptSoFar d writes step a all b s (call ∷ left) →
      t ≡ (step call s).1 → KeptBeside d b (writes s call) c → KeptSoFar d writes step a all c t left
  kept_more a b c all s t call left h e k =
      record {
        written = h.written ++ writes s call;
        kept = kept_on d a b c h.written (writes s call) h.kept k;
        rest =
            ap (λ (u : S). (h.written ++ writes s call) ++ written_all writes step u left) e ∙
            append_assoc h.written (writes s call) (written_all writes step (step call s).1 left) ∙ h.rest;
      }

  pub kept_to_end : (a b : D) (all : List ℕ) (s : S) → KeptSoFar d writes step a all b s [] → KeptBeside d a all b
  kept_to_end a b all s h = rw (← h.rest, append-nil h.written) h.kept
