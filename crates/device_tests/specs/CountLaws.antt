-- That what a counting device keeps is kept on, as ghost members cite it.
use Rattle.std.specs.Prelude.{ℕ, List, [], ◌++◌, refl}
use Rattle.std.proofs.Common.{◌∙◌}
use Rattle.std.proofs.lemmas.List.Elements.{Contains-append_left, Contains-append_right}
use Rattle.device_tests.specs.Counts.{KeepsCounts}

pub counts_at_rest : (counts : List ℕ) → KeepsCounts counts [] counts
counts_at_rest counts = record { unwritten = λ _ _. refl }

pub counts_kept_on : (a b c : List ℕ) (before after : List ℕ) → KeepsCounts a before b → KeepsCounts b after c → KeepsCounts a (before ++ after) c
counts_kept_on a b c before after h k =
    record {
      unwritten = λ slot none.
          k.unwritten slot (λ w. none (Contains-append_right before after slot w)) ∙ h.unwritten slot (λ w. none (Contains-append_left before after slot w));
    }
