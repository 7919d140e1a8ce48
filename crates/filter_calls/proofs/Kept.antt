-- A filter that stands for a ledger keeps the promise.
use Rattle.std.proofs.Common.{◌≡◌, ℕ, ◌*◌, ◌^◌, ◌<◌, ◌≤◌, length, sym, ap, ◌∙◌, subst, arith}
use Rattle.std.proofs.ByRecursion.{All-weaker}
use Rattle.covers.specs.Rivals.{TakesPrecisely, Shortest, Within}
use Rattle.run_table.proofs.Tables.{table_few}
use Rattle.device.specs.declared.device.RowDevice.{Ghosts}
use Rattle.device.specs.Levels.{Carries, Level, Beneath}
use Rattle.device.specs.States.{DeviceState, some_slot_takes}
use Rattle.device.specs.SymbolLaws.{rows_in}
use Rattle.layers.specs.Piles.{Alike, carried_rows}
use Rattle.layers.proofs.Rivals.{level_alike}
use Rattle.filter.specs.declared.filter.Filter.{Filter}
use Rattle.ledger.specs.Ledger.{Ledger, ledger_runs, ledger_rows}
use Rattle.ledger.proofs.Rows.{ledger_rows_right}
use Rattle.filter_calls.specs.Promises.{PromiseBeneath, PromiseKept}
use Rattle.filter.specs.StandsFor.{StandsFor}
use Rattle.filter.proofs.Laid.{rows_laid, laid_takes}

-- bounds at a level follow from those on top
module _ (s : DeviceState) (l : Level) (a : Alike s l) where
  shortest_there : Shortest s.width (rows_in s.width s.slots) → Shortest s.width (rows_in s.width l.slots)
  shortest_there top other v =
      let k = top (carried_rows s.width l.carrying.row_back other) (a.rival_back other v) in
      let many = a.as_many in
      let long = a.rival_as_many other in
      omega arith

  bounded_there : (k : ℕ) → Within k s.width (rows_in s.width s.slots) → Within k s.width (rows_in s.width l.slots)
  bounded_there k top other v =
      let h = top (carried_rows s.width l.carrying.row_back other) (a.rival_back other v) in
      let long = ap (λ j. 2 * k * j) (a.rival_as_many other) in
      let many = a.as_many in
      omega arith

module _ {D : Type 0} (d : Ghosts D) (f : Filter D) (b : Ledger) (s : StandsFor d f b) where
  rows_there : rows_in b.width (d.state f.device).slots ≡ ledger_rows b
  rows_there = ap (rows_in b.width) s.slots ∙ rows_laid b

  runs_few : length (ledger_runs b) ≤ 16
  runs_few = let e = ap length s.runs in let h = table_few f.runs in omega arith

  taken_top : TakesPrecisely b.width (rows_in b.width (d.state f.device).slots) b.numbers
  taken_top = subst (λ l. TakesPrecisely b.width l b.numbers) (sym rows_there) (ledger_rows_right b).exact

  shortest_top : length (ledger_runs b) ≡ 1 → Shortest b.width (rows_in b.width (d.state f.device).slots)
  shortest_top h = subst (Shortest b.width) (sym rows_there) ((ledger_rows_right b).shortest h)

  bounded_top : Within (length (ledger_runs b)) b.width (rows_in b.width (d.state f.device).slots)
  bounded_top = subst (Within (length (ledger_runs b)) b.width) (sym rows_there) (ledger_rows_right b).bounded

  exact_top : (x : ℕ) → x < 2 ^ b.width → some_slot_takes (d.state f.device).slots x ≡ b.numbers x
  exact_top x h = laid_takes b (d.state f.device) (d.lawful f.device) s.width s.slots x h

  kept_beneath : (l : Level) → Beneath (d.state f.device) l → PromiseBeneath b l
  kept_beneath l below =
      let t = d.state f.device in
      let a = level_alike t l (d.lawful f.device) below in
      let w = s.width in
      record {
        carries = subst (λ n. Carries n l.carrying) w below.carries;
        exact = λ x h. a.taken x (subst (λ n. x < 2 ^ n) (sym w) h) ∙ exact_top x h;
        shortest = λ one.
            subst (λ n. Shortest n (rows_in n l.slots)) w (shortest_there t l a (subst (λ n. Shortest n (rows_in n t.slots)) (sym w) (shortest_top one)));
        bounded =
            subst (λ n. Within (length (ledger_runs b)) n (rows_in n l.slots)) w
            (bounded_there t l a (length (ledger_runs b)) (subst (λ n. Within (length (ledger_runs b)) n (rows_in n t.slots)) (sym w) bounded_top));
      }

  pub promise_kept : PromiseKept (d.state f.device) (d.levels f.device) b
  promise_kept =
      record {
        width = s.width;
        muted = s.muted;
        laid = s.slots;
        runs = (ledger_rows_right b).runs;
        few = runs_few;
        taken = taken_top;
        exact = exact_top;
        shortest = shortest_top;
        bounded = bounded_top;
        beneath = All-weaker (Beneath (d.state f.device)) (PromiseBeneath b) kept_beneath (d.levels f.device) (d.beneath f.device);
      }
