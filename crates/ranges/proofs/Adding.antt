-- Lists to which more is added behind.
use Rattle.std.proofs.Common.{◌≡◌, ◌+◌, List, ◌++◌, length, sym, ap, ◌∙◌, append_assoc, length-append}

module _ {X : Type 0} where
  -- the beginning of what is left is added
  pub moved : (mid done rest : List X) {new left : List X} → new ≡ mid ++ done → left ≡ done ++ rest → new ++ rest ≡ mid ++ left
  moved mid done rest e g = ap (λ l. l ++ rest) e ∙ append_assoc mid done rest ∙ ap (λ l. mid ++ l) (sym g)

  -- it is as much longer
  pub longer : (old done : List X) {new : List X} → new ≡ old ++ done → length new ≡ length old + length done
  longer old done e = ap length e ∙ length-append old done

  -- a list is added, then another
  pub followed : (old done rest : List X) {mid new list : List X} → mid ≡ old ++ done → new ≡ mid ++ rest → list ≡ done ++ rest → new ≡ old ++ list
  followed old done rest e f g = f ∙ moved old done rest e g
