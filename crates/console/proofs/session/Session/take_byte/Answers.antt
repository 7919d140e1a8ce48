use Rattle.std.proofs.Common.{arith}
use Rattle.console.specs.SessionStands.{printed}
use Rattle.console.proofs.Bytes.{newline_taken}
use Rattle.console.proofs.session.Session.take_byte.Goals as goal

pub returns-then-byte-eq10 : goal.returns-then-byte-eq10
returns-then-byte-eq10 g c = record {
  taken = λ stage line k.
      newline_taken g.D.RowDevice c.close_line.new.self stage line (printed c.close_line.result) c.args.byte (grind arith) (c.close_line.ensures.step stage line k) c.close_line.ensures.empty;
}
