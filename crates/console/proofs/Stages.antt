-- One line at each stage.
use Rattle.std.proofs.Common.{Bor, ◌∙◌, ◌≡◌, ℕ, min, cond, List, [], Some, None, Ok, Option, Result, sym, refl, ap, subst}
use Rattle.std.specs.Option.{option_map}
use Rattle.std.specs.Result.{result_ok}
use Rattle.lines.specs.Buffers.{kept}
use Rattle.lines.proofs.Kept.{short_kept}
use Rattle.rows.specs.declared.refusal.Refusal.{Refusal}
use Rattle.rows.specs.declared.refusal.Refusal.TheVariants.{WidthOutOfRange}
use Rattle.device.specs.declared.device.RowDevice.{Ghosts}
use Rattle.ledger.specs.Ledger.{opened}
use Rattle.lines.specs.declared.command.Setup.{Setup}
use Rattle.lines.specs.declared.reply.Reply.{Reply}
use Rattle.lines.specs.Printed.{reply_bytes}
use Rattle.console.specs.declared.console.Console.{Console}
use Rattle.console.specs.declared.stage.Stage as code
use Rattle.console.specs.declared.stage.Stage.TheVariants.{Waiting, Running}
use Rattle.console.specs.Sessions.{Stage, waiting, running, stopped, ReadsSetup, refusal_line}
use Rattle.console.specs.SessionStands.{StageStands, LineClosed, Begun}
use Rattle.console.specs.StandsFor.{LineObeyed}

-- a line that was kept is the line
pub kept_line : (line : Option (Bor (List ℕ))) (given : Result (Bor (List ℕ)) Refusal) (kept_as : Bor (List ℕ)) (text : List ℕ) → line ≡ result_ok given → given ≡ Ok kept_as →
    option_map (λ x. x.now) line ≡ kept text → text ≡ kept_as.now
kept_line line given r text from is e = (short_kept text r.now (sym (ap (option_map (λ x. x.now)) (from ∙ ap result_ok is)) ∙ e)).0

module _ {D : Type 0} (d : Ghosts D) (text : List ℕ) where
  begun_ok : (stage : Stage) (c : Console D) → StageStands {D = D} d Waiting stage → (setup : Option Setup) → ReadsSetup text setup → Begun d setup (Ok c) → LineClosed d stage text [] (Running c)
  begun_ok waiting c k (Some s) m b = record {
    next = running (opened s.width (min 120 s.slots) 0);
    answered = (
      Some s,
      m,
      sym (ap (λ v. cond v [] (refusal_line WidthOutOfRange)) b.0),
      sym (ap (λ v. cond v (running (opened s.width (min 120 s.slots) 0)) stopped) b.0),
    );
    stands = b.1;
  }
  begun_ok waiting c k None m b = absurd b
  begun_ok (running x) c k setup m b = absurd k
  begun_ok stopped c k setup m b = absurd k

  -- a first line starts the console
  pub first_line : (at : code.Stage D) (stage : Stage) (c : Console D) → at ≡ Waiting → StageStands d at stage → (setup : Option Setup) × ReadsSetup text setup × Begun d setup (Ok c) →
      LineClosed d stage text [] (Running c)
  first_line at stage c is k b = begun_ok stage c (subst (λ a. StageStands d a stage) is k) b.0 b.1 b.2

  -- a later line is replied to
  taken : (stage : Stage) (c after : Console D) (r : Result Reply Refusal) → StageStands d (Running c) stage → LineObeyed d c text r after →
      LineClosed d stage text (reply_bytes r) (Running after)
  taken waiting c after r k step = absurd k
  taken (running b) c after r k obeyed =
      let t = obeyed.follows b k in record { next = running _; answered = (obeyed.read, obeyed.reads, ap reply_bytes t.0, refl); stands = t.1 }
  taken stopped c after r k step = absurd k

  pub later_line : (at : code.Stage D) (stage : Stage) (c after : Console D) (r : Result Reply Refusal) → at ≡ Running c → StageStands d at stage →
      LineObeyed d c text r after → LineClosed d stage text (reply_bytes r) (Running after)
  later_line at stage c after r is k step = taken stage c after r (subst (λ a. StageStands d a stage) is k) step
