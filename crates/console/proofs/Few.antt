-- How many closing lines there are.
use Rattle.std.proofs.Common.{◌≤◌, length, ap, ◌∙◌, arith}
use Rattle.std.proofs.lemmas.List.{length-map}
use Rattle.device.specs.declared.device.RowDevice.{Ghosts}
use Rattle.ledger.specs.Ledger.{ledger_rows}
use Rattle.filter.proofs.Laid.{length_laid}
use Rattle.lines.specs.Printed.{row_bytes}
use Rattle.console.specs.declared.stage.Stage as code
use Rattle.console.specs.declared.stage.Stage.TheVariants.{Waiting, Running, Stopped}
use Rattle.console.specs.Sessions.{Stage, waiting, running, stopped, closing_lines}
use Rattle.console.specs.SessionStands.{StageStands}

-- a row for each slot at most
pub few_closing : {D : Type 0} (d : Ghosts D) (at : code.Stage D) (stage : Stage) → StageStands d at stage → length (closing_lines stage) ≤ 120
few_closing d Waiting waiting k = omega arith
few_closing d Waiting (running b) k = absurd k
few_closing d Waiting stopped k = absurd k
few_closing d (Running c) waiting k = absurd k
few_closing d (Running c) (running b) k =
    let few = (d.lawful c.filter.device).few_slots in
    let count = ap length k.slots ∙ length_laid b k.fit in
    let same = length-map (ledger_rows b) row_bytes in
    let fit = k.fit in
    omega arith
few_closing d (Running c) stopped k = absurd k
few_closing d Stopped waiting k = absurd k
few_closing d Stopped (running b) k = absurd k
few_closing d Stopped stopped k = omega arith
