-- Known bytes, read or written one part after the other.
use Rattle.std.proofs.Common.{◌≡◌, ℕ, ◌+◌, ◌≤◌, List, [], ◌++◌, length, take, drop, Some, None, Option, IfSome, sym, refl, ap, ◌∙◌, append_assoc, append-nil}
use Rattle.std.proofs.lemmas.List.{take-append-drop}
use Rattle.std.proofs.Common.{length-take-le}
use Rattle.std.proofs.Math.Seq.{take-append-add}
use Rattle.std.specs.Io.KnownBytes.{Appends, Consumes, Keeps, IsAtEnd}

pub take_two : {X : Type 0} (i n : ℕ) (l : List X) → i ≤ length l → take (i + n) l ≡ take i l ++ take n (drop i l)
take_two i n l h =
    ap (take (i + n)) (sym (take-append-drop i l)) ∙ ap (λ k. take (k + n) (take i l ++ drop i l)) (sym (length-take-le i l h)) ∙ take-append-add (take i l) (drop i l) n

-- written
pub appends_none : (a : Option (List ℕ)) → Appends a a []
appends_none None = tt
appends_none (Some x) = sym (append-nil x)

pub appends_join : (a b c : Option (List ℕ)) (xs ys : List ℕ) → Appends a b xs → Appends b c ys → Appends a c (xs ++ ys)
appends_join None b c xs ys p q = tt
appends_join (Some x) None c xs ys p q = absurd p
appends_join (Some x) (Some y) None xs ys p q = absurd q
appends_join (Some x) (Some y) (Some z) xs ys p q = q ∙ ap (λ t. t ++ ys) p ∙ append_assoc x xs ys

pub appends_kept : (a b c : Option (List ℕ)) (xs : List ℕ) → Appends a b xs → Keeps b c → Appends a c xs
appends_kept None b c xs p q = tt
appends_kept (Some x) None c xs p q = absurd p
appends_kept (Some x) (Some y) None xs p q = absurd q
appends_kept (Some x) (Some y) (Some z) xs p q = q ∙ p

-- read
pub consumes_none : (a : Option (List ℕ)) → Consumes a a []
consumes_none None = tt
consumes_none (Some x) = refl

pub consumes_join : (a b c : Option (List ℕ)) (xs ys : List ℕ) → Consumes a b xs → Consumes b c ys → Consumes a c (xs ++ ys)
consumes_join None b c xs ys p q = tt
consumes_join (Some x) None c xs ys p q = absurd p
consumes_join (Some x) (Some y) None xs ys p q = absurd q
consumes_join (Some x) (Some y) (Some z) xs ys p q = p ∙ ap (λ t. xs ++ t) q ∙ sym (append_assoc xs ys z)

pub consumes_kept : (a b c : Option (List ℕ)) (xs : List ℕ) → Consumes a b xs → Keeps b c → Consumes a c xs
consumes_kept None b c xs p q = tt
consumes_kept (Some x) None c xs p q = absurd p
consumes_kept (Some x) (Some y) None xs p q = absurd q
consumes_kept (Some x) (Some y) (Some z) xs p q = p ∙ ap (λ t. xs ++ t) (sym q)

-- what there was to be read begins with what was read
pub read_first : (a b : Option (List ℕ)) (xs : List ℕ) → Consumes a b xs → IfSome a (λ input. (more : List ℕ) × (input ≡ xs ++ more))
read_first None b xs p = tt
read_first (Some x) None xs p = absurd p
read_first (Some x) (Some y) xs p = (y, p)

-- and at the end it is that
pub read_all : (a b : Option (List ℕ)) (xs : List ℕ) → Consumes a b xs → IsAtEnd b → IfSome a (λ input. input ≡ xs)
read_all None b xs p e = tt
read_all (Some x) None xs p e = absurd p
read_all (Some x) (Some y) xs p e = p ∙ ap (λ t. xs ++ t) e ∙ append-nil xs

pub keeps_same : (a : Option (List ℕ)) → Keeps a a
keeps_same None = tt
keeps_same (Some x) = refl
