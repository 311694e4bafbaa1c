use Rattle.std.proofs.Common.{All, subst, arith}
use Rattle.std.proofs.lemmas.List.{take_all}
use Rattle.std.proofs.lemmas.List.Elements.{All-more}
use Rattle.clean_order.specs.Highest.{IsHigher}
use Rattle.clean_order.proofs.keeping.keeps_to_readers.Goals as goal

pub loop-reader-preserved : goal.loop-reader-preserved
loop-reader-preserved c =
    let readers = c.args.readers.now in
    let index = c.loop-reader.reader-index in
    All-more (IsHigher c.args.starts.now c.args.written.now) readers index 0
    c.loop-reader-test.true c.loop-reader.invariant (λ other number counted apart.
    let lower = c.without.ensures other number counted apart in
    omega (arith, lower, c.if-number_at-without.false, c.number_at.ensures))

pub returns : goal.returns
returns c =
    subst (All (IsHigher c.args.starts.now c.args.written.now))
    (take_all c.loop-reader.reader-index c.args.readers.now c.loop-reader-test.false)
    c.loop-reader.invariant
