use Rattle.std.proofs.Common.{◌≡◌, arith}
use Rattle.graph_search.specs.Visits.{vertex_at}
use Rattle.graph_search.proofs.Reaching.{vertex_read, vertex_within}
use Rattle.graph_search.proofs.Opening.{IsNext, after_disallowed, after_marked, after_one, all_opened, found_target, next_successor}
use Rattle.graph_search.proofs.breadth_first.Reached.open.Given.{Over}
use Rattle.graph_search.proofs.breadth_first.Reached.open.Goals as goal
use Rattle.graph_search.proofs.breadth_first.Reached.open.Goals.{After-at-next, After-index, then-contains+then-mark+in_ok-push+else-contains-2, else-contains, else-contains-via-then-contains+else-mark, else-contains-via-else-contains}

vertex : (g : Over) (c : After-index g) → c.index.result.now.vertex ≡ vertex_at c.args.self.now.queue.items c.args.at
vertex g c = vertex_read c.args.self.now.queue.items c.args.at c.index.result.now c.requires.at c.index.ensures

next : (g : Over) (c : After-at-next g)
    → IsNext (g.G.Arcs.graph c.args.graph.now) (g.S.Vertices.members c.args.allowed.now) c.args.self.now.queue.items c.index.result.now.vertex c.args.at c.loop-index.index c.loop-index.self.marks c.at-next.result
next g c =
    next_successor c.loop-index.invariant c.requires.graph c.requires.reached c.requires.at (vertex_read c.args.self.now.queue.items c.args.at c.index.result.now c.requires.at c.index.ensures)
    c.successors-successors.ensures (omega (arith, c.loop-index-test.true, c.len-index-end.ensures)) c.at-next.ensures.successor c.at-next.ensures.within

pub successors-successors-requires : goal.successors-successors-requires
successors-successors-requires g c =
    omega (arith, vertex g (goal.at.successors-successors-requires g c).After-index, c.requires.graph, vertex_within c.args.self.now.marks c.args.self.now.queue.items c.args.at c.requires.reached c.requires.at)

pub returns-then-contains-2-clause-goes_on : goal.returns-then-contains-2-clause-goes_on
returns-then-contains-2-clause-goes_on g c =
    rw (c.mark.ensures.marked, c.in_ok-push.ensures.items)
    (found_target c.loop-index.invariant (next g (goal.at.returns-then-contains-2-clause-goes_on g c).After-at-next) c.requires.at c.if-contains.ensures c.if-mark.ensures.unmarked c.if-contains-2.ensures)

pub returns-clause-goes_on : goal.returns-clause-goes_on
returns-clause-goes_on g c = record {
  reached = c.loop-index.invariant.reached;
  extends = c.loop-index.invariant.extends;
  found = tt;
  unfound = c.loop-index.invariant.unfound;
}

pub loop-index-preserved : goal.loop-index-preserved
loop-index-preserved g c =
    let one = next g (goal.at.loop-index-preserved g c).After-at-next in
    elim c.if-contains.branch [
      | then-contains+then-mark+in_ok-push+else-contains-2 w ↦
          rw (w.self-is, w.mark.ensures.marked, w.in_ok-push.ensures.items)
          (after_one c.loop-index.invariant one c.requires.at w.if-contains.ensures w.if-mark.ensures.unmarked w.if-contains-2.ensures)
      | else-contains w ↦
          elim w.else-contains.branch [
            | else-contains-via-then-contains+else-mark w' ↦
                rw (w.self-is, w'.self-is, w'.mark.ensures.marked) (after_marked c.loop-index.invariant one w'.if-mark.ensures.unmarked)
            | else-contains-via-else-contains w' ↦ rw (w.self-is, w'.self-is) (after_disallowed c.loop-index.invariant one w'.if-contains.ensures)
          ]
    ]

pub returns-clause-opened : goal.returns-clause-opened
returns-clause-opened g c =
    all_opened c.loop-index.invariant (vertex g (goal.at.returns-clause-opened g c).After-index) c.successors-successors.ensures (omega (arith, c.loop-index-test.false, c.len-index-end.ensures))
