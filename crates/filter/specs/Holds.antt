-- A filter's hold and its token, whatever the filter holds.
use Rattle.std.specs.Prelude.{◌≡◌, true, Ok, Err, Result}
use Rattle.rows.specs.declared.refusal.Refusal.{Refusal}
use Rattle.filter.specs.declared.filter.Filter.{Filter}
use Rattle.filter.specs.declared.hold_token.HoldToken.{HoldToken}

-- the filter is held, and the token has its tag
abbrev pub TokenOf : {D : Type 0} → Filter D → HoldToken → Type 0
TokenOf f token = (f.held ≡ true) × (token.tag ≡ f.tag)

-- a hold that is granted leaves the filter held, with this token
abbrev pub HoldGiven : {D : Type 0} → Filter D → Result HoldToken Refusal → Type 0
HoldGiven f (Ok token) = TokenOf f token
HoldGiven f (Err e) = Unit {0}

-- hold and tag are the same in both
abbrev pub SameHold : {D : Type 0} → Filter D → Filter D → Type 0
SameHold f g = (g.held ≡ f.held) × (g.tag ≡ f.tag)
