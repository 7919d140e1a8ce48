-- A session, byte by byte.
use Rattle.std.proofs.Common.{◌≡◌, ℕ, Bool, true, false, cond, eqb, List, [], ◌∷◌, ◌++◌, length, sym, refl, ap, ◌∙◌, subst, append_assoc, append-nil}
use Rattle.std.proofs.lemmas.Bool.{eqb-false}
use Rattle.lines.specs.Buffers.{buffered, kept}
use Rattle.device.specs.declared.device.RowDevice.{Ghosts}
use Rattle.console.specs.declared.session.Session.{Session}
use Rattle.console.specs.Sessions.{Stage, closed, left_open, at_end, LineAnswered, LinesAnswered}
use Rattle.console.specs.SessionStands.{SessionStands, LineClosed, BytesTaken}

pub one_answered : (stage : Stage) (line output : List ℕ) (next : Stage) → LineAnswered stage line output next → LinesAnswered stage (line ∷ []) output next
one_answered stage line output next a = (output, next, [], a, (refl, refl), sym (append-nil output))

-- one byte: a newline closes the line, any other byte stands at its end
module _ {D : Type 0} (d : Ghosts D) (after : Session D) (stage : Stage) (line output : List ℕ) (byte : ℕ) where
  abbrev Lines : Bool → List (List ℕ)
  Lines v = cond v (line ∷ []) []

  abbrev Open : Bool → List ℕ
  Open v = cond v [] (line ++ byte ∷ [])

  pub newline_taken : eqb byte 10 ≡ true → LineClosed d stage line output after.stage → buffered after.line ≡ kept [] → BytesTaken d stage line (byte ∷ []) output after
  newline_taken is c e = record {
    next = c.next;
    answered = subst (λ v. LinesAnswered stage (Lines v) output c.next) (sym is) (one_answered stage line output c.next c.answered);
    stands = subst (λ v. SessionStands d after c.next (Open v)) (sym is) (record { at_stage = c.stands; open_line = e });
  }

-- the input's end
pub something_open : (line : List ℕ) → eqb (length line) 0 ≡ false → at_end line ≡ line ∷ []
something_open [] e = absurd (eqb-false 0 0 e refl)
something_open (b ∷ line) e = refl

-- bytes after bytes
pub closed_join : (line xs ys : List ℕ) → closed line (xs ++ ys) ≡ closed line xs ++ closed (left_open line xs) ys
closed_join line [] ys = refl
closed_join line (x ∷ xs) ys = go (eqb x 10) (closed_join [] xs ys) (closed_join (line ++ x ∷ []) xs ys)
  where
    go : (v : Bool) → closed [] (xs ++ ys) ≡ closed [] xs ++ closed (left_open [] xs) ys →
        closed (line ++ x ∷ []) (xs ++ ys) ≡ closed (line ++ x ∷ []) xs ++ closed (left_open (line ++ x ∷ []) xs) ys → cond v (line ∷ closed [] (xs ++ ys)) (closed (line ++ x ∷ []) (xs ++ ys)) ≡
        cond v (line ∷ closed [] xs) (closed (line ++ x ∷ []) xs) ++ closed (cond v (left_open [] xs) (left_open (line ++ x ∷ []) xs)) ys
    go true p q = ap (λ l. line ∷ l) p
    go false p q = q

pub left_join : (line xs ys : List ℕ) → left_open line (xs ++ ys) ≡ left_open (left_open line xs) ys
left_join line [] ys = refl
left_join line (x ∷ xs) ys = go (eqb x 10) (left_join [] xs ys) (left_join (line ++ x ∷ []) xs ys)
  where
    go : (v : Bool) → left_open [] (xs ++ ys) ≡ left_open (left_open [] xs) ys → left_open (line ++ x ∷ []) (xs ++ ys) ≡ left_open (left_open (line ++ x ∷ []) xs) ys →
        cond v (left_open [] (xs ++ ys)) (left_open (line ++ x ∷ []) (xs ++ ys)) ≡ left_open (cond v (left_open [] xs) (left_open (line ++ x ∷ []) xs)) ys
    go true p q = p
    go false p q = q

-- lines after lines
pub answered_join : (lines more : List (List ℕ)) (a b c : Stage) (output rest : List ℕ) → LinesAnswered a lines output b → LinesAnswered b more rest c → LinesAnswered a (lines ++ more) (output ++ rest) c
answered_join [] more a b c output rest p q =
    subst (λ s. LinesAnswered s more (output ++ rest) c) p.1 (subst (λ t. LinesAnswered b more (t ++ rest) c) (sym p.0) q)
answered_join (line ∷ lines) more a b c output rest p q =
    (p.0, p.1, p.2 ++ rest, p.3, answered_join lines more p.1 b c p.2 rest p.4 q, ap (λ t. t ++ rest) p.5 ∙ append_assoc p.0 p.2 rest)

pub answered_parted : (lines more : List (List ℕ)) (a c : Stage) (output : List ℕ) → LinesAnswered a (lines ++ more) output c →
    (b : Stage) × (first : List ℕ) × (rest : List ℕ) × LinesAnswered a lines first b × LinesAnswered b more rest c × (output ≡ first ++ rest)
answered_parted [] more a c output p = (a, [], output, (refl, refl), p, refl)
answered_parted (line ∷ lines) more a c output p =
    let q = answered_parted lines more p.1 c p.2 p.4 in
    (q.0, p.0 ++ q.1, q.2, (p.0, p.1, q.1, p.3, q.3, refl), q.4, p.5 ∙ ap (λ t. p.0 ++ t) q.5 ∙ sym (append_assoc p.0 q.1 q.2))

-- bytes taken after bytes taken
pub taken_join : {D : Type 0} (d : Ghosts D) (between after : Session D) (stage : Stage) (line xs ys output rest : List ℕ) → (p : BytesTaken d stage line xs output between) →
    BytesTaken d p.next (left_open line xs) ys rest after → BytesTaken d stage line (xs ++ ys) (output ++ rest) after
taken_join d between after stage line xs ys output rest p q = record {
  next = q.next;
  answered = subst (λ l. LinesAnswered stage l (output ++ rest) q.next) (sym (closed_join line xs ys))
      (answered_join (closed line xs) (closed (left_open line xs) ys) stage p.next q.next output rest p.answered q.answered);
  stands = subst (SessionStands d after q.next) (sym (left_join line xs ys)) q.stands;
}
