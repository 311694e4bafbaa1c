use Rattle.std.proofs.Common.{List, ◌++◌}
use Rattle.hist_types.specs.Operations.{Operation}
use Rattle.block_reader.specs.Blocks.{operations_in}
use Rattle.block_reader.specs.Rounds.{HasCome}
use Rattle.block_reader.proofs.Coming.{fault_same}
use Rattle.block_reader.proofs.rounds.read_source.Goals.{else-loop-cell-test, then-loop-cell-test+in_ok-taken+then-not-goes_on}
use Rattle.block_reader.proofs.rounds.read_source.Goals as goal

pub returns-in_err-taken-clause-err : goal.returns-in_err-taken-clause-err
returns-in_err-taken-clause-err g c =
    fault_same g.S.Source c.args.source.now c.one_round.new.source _ c.from_residual.result c.from_residual.ensures.1
    (c.in_err-taken.ensures.err c.args.source.now _ c.loop-cell.invariant.2)

pub loop-cell-preserved : goal.loop-cell-preserved
loop-cell-preserved g c =
    c.in_ok-taken.ensures.ok c.args.source.now c.loop-cell.invariant.0 c.loop-cell.invariant.1 c.loop-cell.invariant.2

pub returns-in_err-rest-clause-err : goal.returns-in_err-rest-clause-err
returns-in_err-rest-clause-err g c =
    let Come =
    (before : List Operation) × g.C.Consumer.has_taken c.loop-cell-test.consumer before
    × HasCome g.S.Source c.args.source.now c.loop-cell-test.source c.loop-cell-test.reading (before ++ operations_in c.loop-cell-test.last.now) in
    let come : Come =
    elim c.loop-cell-test.branch [
      | else-loop-cell-test w ↦ rw (w.source-is, w.reading-is, w.consumer-is, w.last-is) c.loop-cell.invariant
      | then-loop-cell-test+in_ok-taken+then-not-goes_on w ↦
          rw (w.source-is, w.reading-is, w.consumer-is, w.last-is)
          (w.in_ok-taken.ensures.ok c.args.source.now c.loop-cell.invariant.0 c.loop-cell.invariant.1 c.loop-cell.invariant.2)
    ] in
    fault_same g.S.Source c.args.source.now c.the_rest.new.source _ c.from_residual-in_err-rest.result c.from_residual-in_err-rest.ensures.1
    (c.in_err-rest.ensures.err c.args.source.now _ come.2)

pub returns-clause-ok : goal.returns-clause-ok
returns-clause-ok g c =
    let Come =
    (before : List Operation) × g.C.Consumer.has_taken c.loop-cell-test.consumer before
    × HasCome g.S.Source c.args.source.now c.loop-cell-test.source c.loop-cell-test.reading (before ++ operations_in c.loop-cell-test.last.now) in
    let come : Come =
    elim c.loop-cell-test.branch [
      | else-loop-cell-test w ↦ rw (w.source-is, w.reading-is, w.consumer-is, w.last-is) c.loop-cell.invariant
      | then-loop-cell-test+in_ok-taken+then-not-goes_on w ↦
          rw (w.source-is, w.reading-is, w.consumer-is, w.last-is)
          (w.in_ok-taken.ensures.ok c.args.source.now c.loop-cell.invariant.0 c.loop-cell.invariant.1 c.loop-cell.invariant.2)
    ] in
    let os = come.0 ++ operations_in c.loop-cell-test.last.now in (
      os ++ operations_in c.in_ok-rest.rest.now,
      c.in_ok-rest.ensures.ok c.args.source.now os come.2,
      c.take-2.ensures os (c.take.ensures come.0 come.1),
    )
