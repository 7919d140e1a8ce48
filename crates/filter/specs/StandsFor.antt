-- What it means that a filter stands for a ledger.
use Rattle.std.specs.Prelude.{◌≡◌, true, false, Some, None, Option}
use Rattle.device.specs.declared.device.RowDevice.{Ghosts}
use Rattle.filter.specs.declared.filter.Filter.{Filter}
use Rattle.filter.specs.declared.hold_token.HoldToken.{HoldToken}
use Rattle.filter.specs.Standing.{Standing}
use Rattle.ledger.specs.Ledger.{Ledger}
use Rattle.ledger.specs.Steps.{Step}

-- the filter stands for the ledger: its device, its table, its hold and its tag do
abbrev pub StandsFor : {D : Type 0} → Ghosts D → Filter D → Ledger → Type 0
StandsFor d f b = Standing (d.state f.device) f.runs f.held f.tag b

-- and for some ledger it does
abbrev pub StandsForOne : {D : Type 0} → Ghosts D → Filter D → Type 0
StandsForOne d f = ∥ ((b : Ledger) × StandsFor d f b) ∥₁

-- the call does what the ledger's does: whichever ledger the filter stood for, it answers as that one, and the filter stands
-- for its next state
abbrev pub Follows : {D : Type 0} → Ghosts D → {A : Type 0} → Filter D → Step A → A → Filter D → Type 0
Follows d old step answer new = (b : Ledger) → StandsFor d old b → (answer ≡ (step b).0) × StandsFor d new (step b).1

-- the token at hand: there is one just while the ledger is marked, and it has the ledger's tag
abbrev pub AtHand : Ledger → Option HoldToken → Type 0
AtHand b None = b.held ≡ false
AtHand b (Some token) = (b.held ≡ true) × (token.tag ≡ b.tag)
