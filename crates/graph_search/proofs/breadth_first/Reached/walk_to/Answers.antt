use Rattle.std.proofs.Common.{◌≡◌, ◌<◌, ◌∷◌, [], ◌++◌, length, arith, ap, sym, subst, ◌∙◌}
use Rattle.graph_search.specs.Graphs.{IsWalk}
use Rattle.graph_search.specs.Visits.{parent_at, vertex_at, IsStep}
use Rattle.graph_search.proofs.Reaching.{vertex_read, parent_read}
use Rattle.graph_search.proofs.WaysBack.{IsWayBack, back, forth}
use Rattle.graph_search.proofs.breadth_first.Reached.walk_to.Goals as goal

pub loop-at-preserved : goal.loop-at-preserved
loop-at-preserved c =
    let queue = c.args.self.now.queue.items in
    let at = c.loop-at.at in
    let pos : 0 < at = c.loop-at-test.true in
    let in-queue : at < length queue = c.loop-at.invariant.at in
    let parent : c.index-in-loop-at.result.now.parent ≡ parent_at queue at =
    parent_read queue at c.index-in-loop-at.result.now in-queue c.index-in-loop-at.ensures in
    let earlier : parent_at queue at < at = c.requires.earlier at pos in-queue in
    let vertex : c.index-in-loop-at-2.result.now.vertex ≡ vertex_at queue (parent_at queue at) =
    vertex_read queue c.index-in-loop-at.result.now.parent c.index-in-loop-at-2.result.now (omega (arith, parent, earlier, in-queue)) c.index-in-loop-at-2.ensures
    ∙ ap (vertex_at queue) parent in
    let items : c.push.new.self.items ≡ c.loop-at.walk.items ++ vertex_at queue (parent_at queue at) ∷ [] =
    c.in_ok-push.ensures.items ∙ ap (λ v. c.loop-at.walk.items ++ v ∷ []) vertex in
    record {
      at = omega (arith, parent, earlier, in-queue);
      way =
          subst (λ p. IsWayBack queue c.args.place p c.push.new.self.items) (sym parent)
          (subst (λ way. IsWayBack queue c.args.place (parent_at queue at) way) (sym items)
          (back queue c.args.place at c.loop-at.walk.items pos in-queue c.loop-at.invariant.way));
    }

pub returns : goal.returns
returns c =
    let queue = c.args.self.now.queue.items in
    let first : c.loop-at.at ≡ 0 = omega (arith, c.loop-at-test.false) in
    subst (λ walk. IsWalk (IsStep queue) (vertex_at queue 0) (vertex_at queue c.args.place) walk) (sym c.reverse.ensures.items)
    (forth queue c.args.place c.loop-at.walk.items (subst (λ at. IsWayBack queue c.args.place at c.loop-at.walk.items) first c.loop-at.invariant.way))
