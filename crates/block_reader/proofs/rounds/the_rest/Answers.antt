use Rattle.std.proofs.Common.{inl}
use Rattle.block_reader.specs.Blocks.{operations_in}
use Rattle.block_reader.proofs.Coming.{come_all, come_fails, fault_memory, fault_same}
use Rattle.block_reader.proofs.rounds.the_rest.Goals as goal

pub returns-then-not-reading-clause-err : goal.returns-then-not-reading-clause-err
returns-then-not-reading-clause-err g c began os come = inl (c.memory.ensures, (c.in_ok-fill.ensures.ok began os come).no_failure)

pub returns-in_err-blocks-clause-err : goal.returns-in_err-blocks-clause-err
returns-in_err-blocks-clause-err g c began os come =
    let fails = rw (c.as_slice.ensures.bytes) at c.in_err-blocks.ensures.err in
    fault_same g.S.Source began c.fill.new.source _ c.from_residual-in_err-blocks.result c.from_residual-in_err-blocks.ensures.1
    (come_fails g.S.Source began c.fill.new.source c.fill.new.self os _ (c.in_ok-fill.ensures.ok began os come) c.if-not-reading.false fails)

pub returns-in_err-fill-2-clause-err : goal.returns-in_err-fill-2-clause-err
returns-in_err-fill-2-clause-err g c began os come =
    fault_memory g.S.Source began c.fill.new.source c.fill.new.self os c.from_residual-in_err-fill-2.result (c.in_ok-fill.ensures.ok began os come)
    c.from_residual-in_err-fill-2.ensures.1

pub returns-clause-ok : goal.returns-clause-ok
returns-clause-ok g c began before come =
    let gives = rw (c.as_slice.ensures.bytes) at c.in_ok-blocks.ensures.ok in
    let all = come_all g.S.Source began c.fill.new.source c.fill.new.self before (operations_in c.in_ok-blocks.blocks.items) (c.in_ok-fill.ensures.ok began before come) c.if-not-reading.false gives in
    rw (c.in_ok-fill-2.ensures) all
