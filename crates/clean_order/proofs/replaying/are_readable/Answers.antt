use Rattle.std.proofs.Common.{All, rules, subst}
use Rattle.std.proofs.lemmas.List.{take_all}
use Rattle.std.proofs.lemmas.List.Elements.{All-more}
use Rattle.clean_order.specs.Replaying.{IsReadable}
use Rattle.clean_order.proofs.replaying.are_readable.Goals as goal

pub loop-read-preserved : goal.loop-read-preserved
loop-read-preserved c =
    All-more (IsReadable c.args.written.now c.args.followed.now) c.args.reads.now c.loop-read.read-index (record { nil = 0; version = 0 }) c.loop-read-test.true c.loop-read.invariant
    (c.is_readable.ensures (search rules))

pub returns : goal.returns
returns c = λ _.
    subst (All (IsReadable c.args.written.now c.args.followed.now)) (take_all c.loop-read.read-index c.args.reads.now c.loop-read-test.false) c.loop-read.invariant
