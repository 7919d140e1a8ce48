use Rattle.std.proofs.Common.{length}
use Rattle.device.specs.KeptBesideLaws.{kept_unwritten}
use Rattle.filter_calls.specs.Replays.{replay_writes}
use Rattle.filter_calls.proofs.closing.replay_and_close.Goals as goal

pub returns-clause-beside : goal.returns-clause-beside
returns-clause-beside g c =
    let d = g.D.RowDevice in
    kept_unwritten d c.args.device c.play.result.filter.device c.close.result (replay_writes (length (d.state c.args.device).slots) c.play.new.exchanges) c.play.ensures.beside c.close.ensures.beside
