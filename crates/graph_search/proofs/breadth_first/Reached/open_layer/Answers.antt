use Rattle.std.proofs.Common.{◌+◌, ◌≤◌, length, arith, ◌∙◌}
use Rattle.graph_search.proofs.Searching.{found_none, found_one, further}
use Rattle.graph_search.proofs.breadth_first.Reached.open_layer.Goals as goal

pub returns-then-branch-clause-goes_on : goal.returns-then-branch-clause-goes_on
returns-then-branch-clause-goes_on g c =
    found_one c.requires.reached c.loop-at.invariant.opening (omega arith) (omega (arith, c.loop-at-test.true, c.len-at-end.ensures)) c.in_ok-open.ensures.goes_on c.if-branch.true

pub loop-at-preserved : goal.loop-at-preserved
loop-at-preserved g c =
    let opening = c.loop-at.invariant.opening in
    let below : c.loop-at.at + 1 ≤ length c.args.self.now.queue.items = omega (arith, c.loop-at-test.true, c.len-at-end.ensures) in
    record {
      count = c.in_ok-open.ensures.count ∙ c.loop-at.invariant.count;
      opening = further c.requires.reached opening (omega (arith, below, opening.extends.longer)) (omega arith) below c.in_ok-open.ensures.goes_on c.if-branch.false c.in_ok-open.ensures.opened;
    }

pub returns-clause-goes_on : goal.returns-clause-goes_on
returns-clause-goes_on g c = found_none c.loop-at.invariant.opening
