use Rattle.std.proofs.Common.{◌≡◌, ℕ, true, false, not, ◌&&◌, eqb, is_err, MatchOption, sym, ap, ◌∙◌, subst}
use Rattle.filter_calls.proofs.Told.{never_fits}
use Rattle.filter_calls.proofs.player.Player.release_with_another.Given.{Over}
use Rattle.filter_calls.proofs.player.Player.release_with_another.Goals as goal

refused : (g : Over) (c : goal.After-release g) → is_err c.release.result ≡ true
refused g c =
    let own = c.args.self.now.filter in
    c.release.ensures.refused_unless_it_fits ∙ ap (λ (t : ℕ). not (own.held && eqb t own.tag)) c.open-other.ensures.tag ∙
    never_fits own.held own.tag c.args.tag c.args.self.now.token c.args.self.now.at_hand c.requires.not_at_hand

pub invariant_of-self : goal.invariant_of-self
invariant_of-self g c = record {
  at_hand = subst (λ f. MatchOption c.args.self.now.token (f.held ≡ false) (λ t. (f.held ≡ true) × (t.tag ≡ f.tag)))
      (sym (c.release.ensures.untouched_when_refused (refused g c))) c.args.self.now.at_hand;
}
