use Rattle.std.proofs.Common.{◌+◌, ◌≤◌, length, arith, ◌∙◌}
use Rattle.graph_search.proofs.Searching.{found_none, found_one, further}
use Rattle.graph_search.proofs.breadth_first.Reached.open_all.Goals as goal

pub returns-then-branch-clause-goes_on : goal.returns-then-branch-clause-goes_on
returns-then-branch-clause-goes_on g c =
    let on = c.in_ok-open.ensures.goes_on in
    let below : c.loop-at.at + 1 ≤ length c.open.new.self.queue.items = omega (arith, c.loop-at-test.true, c.len.ensures, on.extends.longer) in
    found_one c.requires.reached c.loop-at.invariant.opening on.extends.longer below on c.if-branch.true

pub loop-at-preserved : goal.loop-at-preserved
loop-at-preserved g c =
    let on = c.in_ok-open.ensures.goes_on in
    let below : c.loop-at.at + 1 ≤ length c.open.new.self.queue.items = omega (arith, c.loop-at-test.true, c.len.ensures, on.extends.longer) in
    record {
      count = c.in_ok-open.ensures.count ∙ c.loop-at.invariant.count;
      opening = further c.requires.reached c.loop-at.invariant.opening (omega (arith, c.loop-at-test.true, c.len.ensures)) on.extends.longer below on c.if-branch.false c.in_ok-open.ensures.opened;
    }

pub returns-clause-goes_on : goal.returns-clause-goes_on
returns-clause-goes_on g c = found_none c.loop-at.invariant.opening
