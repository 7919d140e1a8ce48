-- Answers as they are compared with those of the ledger.
use Rattle.std.specs.Prelude.{◌≡◌, ℕ, Ok, Err, Result}
use Rattle.rows.specs.declared.refusal.Refusal.{Refusal}
use Rattle.filter.specs.declared.hold_token.HoldToken.{HoldToken}
use Rattle.filter.specs.declared.hold_token.RefusedRelease.{RefusedRelease}

-- the tag of the token that was handed out
abbrev pub tag_of : Result HoldToken Refusal → Result ℕ Refusal
tag_of (Ok token) = Ok token.tag
tag_of (Err e) = Err e

-- why a release was refused
abbrev pub refusal_of : Result (Unit {0}) RefusedRelease → Result (Unit {0}) Refusal
refusal_of (Ok x) = Ok x
refusal_of (Err e) = Err e.refusal

-- an answer by its refusal only
abbrev pub granted_only : {X : Type 0} → Result X Refusal → Result (Unit {0}) Refusal
granted_only (Ok x) = Ok tt
granted_only (Err e) = Err e

-- a refused release hands this token back
abbrev pub HandedBack : HoldToken → Result (Unit {0}) RefusedRelease → Type 0
HandedBack token (Ok x) = Unit {0}
HandedBack token (Err e) = e.token ≡ token
