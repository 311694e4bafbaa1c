use Rattle.std.proofs.Common.{[], refl}
use Rattle.std.proofs.KnownBytes.{Consumes-nil}
use Rattle.block_reader.proofs.Coming.{come_refused, come_counted}
use Rattle.block_reader.proofs.rounds.Reading.refuse.Goals as goal

pub returns-then-self : goal.returns-then-self
returns-then-self g c began os come refused =
    come_refused g.S.Source began c.args.source.now c.args.source.now c.args.self.now os c.args.fault _ come refused ([], Consumes-nil _)
    (come.at_end c.if-self.true) refl c.fault_from.ensures

pub returns-in-Ok : goal.returns-in-Ok
returns-in-Ok g c began os come refused =
    come_refused g.S.Source began c.args.source.now c.read_out.new.source c.args.self.now os c.args.fault _ come refused c.in-Ok.ensures.given
    c.in-Ok.ensures.end c.in-Ok.ensures.no_failure c.fault_from.ensures

pub returns-in-Err : goal.returns-in-Err
returns-in-Err g c began os come refused =
    come_counted g.S.Source began c.args.source.now c.read_out.new.source c.args.self.now os come _ c.in-Err.ensures.fault
