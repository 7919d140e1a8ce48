-- Releases as they are told.
use Rattle.std.proofs.Common.{◌≡◌, ℕ, Bool, true, false, not, ◌&&◌, eqb, Some, None, Option, MatchOption, Ok, sym, ap, ◌∙◌, subst}
use Rattle.std.proofs.lemmas.Bool.{eqb-false, ne_eqb}
use Rattle.filter.specs.declared.hold_token.HoldToken.{HoldToken}
use Rattle.rows.specs.Refusals.{if_granted}
use Rattle.ledger.specs.Ledger.{Ledger, freed}
use Rattle.ledger.specs.Steps.{release_step}
use Rattle.filter.specs.StandsFor.{AtHand}
use Rattle.filter_calls.specs.Replays.{token_has_tag}

pub after_granted_release : (b : Ledger) (tag : ℕ) → Ok tt ≡ (release_step tag b).0 → (release_step tag b).1 ≡ freed b
after_granted_release b tag e = ap (λ r. if_granted r (freed b) b) (sym e)

-- with no token at hand the filter is free
pub free : (held : Bool) (own : ℕ) (token : Option HoldToken) → token ≡ None → MatchOption token (held ≡ false) (λ t. (held ≡ true) × (t.tag ≡ own)) → held ≡ false
free held own token e h = subst (λ t. MatchOption t (held ≡ false) (λ t. (held ≡ true) × (t.tag ≡ own))) e h

-- the token at hand, as the ledger sees it
pub at_hand : (held : Bool) (own : ℕ) (b : Ledger) (token : Option HoldToken) → held ≡ b.held → own ≡ b.tag → MatchOption token (held ≡ false) (λ t. (held ≡ true) × (t.tag ≡ own)) →
    AtHand b token
at_hand held own b None mark tag h = sym mark ∙ h
at_hand held own b (Some t) mark tag h = (sym mark ∙ h.0, h.1 ∙ tag)

-- a token with another tag than the one at hand does not fit
pub never_fits : (held : Bool) (own tag : ℕ) (token : Option HoldToken) → MatchOption token (held ≡ false) (λ t. (held ≡ true) × (t.tag ≡ own)) → token_has_tag token tag ≡ false →
    not (held && eqb tag own) ≡ true
never_fits held own tag None h n = rw h
never_fits held own tag (Some t) h n = rw (h.0, ne_eqb tag own (λ e. eqb-false t.tag tag n (h.1 ∙ sym e)))
