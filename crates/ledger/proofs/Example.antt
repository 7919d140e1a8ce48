-- Steps of a ledger, by computing.
use Rattle.std.proofs.Common.{refl}
use Rattle.circle.specs.Runs.{all_below, climb, last_from, passing, runs, whole}
use Rattle.ledger.specs.Theorems.{LedgerExample}

pub example : LedgerExample
unfolding runs whole all_below passing last_from climb
example = record { not_held = refl; held = refl; held_again = refl; added = refl; no_room = refl; another_token = refl }
