use Rattle.std.proofs.Common.{◌≡◌, ◌∙◌, ◌<◌, ◌+◌, [], length, get_or, arith, below_more, sym, subst, ap}
use Rattle.graph_search.specs.Graphs.{Leaving}
use Rattle.edge_graph.specs.Vertices.{IsArc}
use Rattle.edge_graph.proofs.EdgeArcs.{edge_of_direct}
use Rattle.cycle_find.specs.OneDependency.{IsReadyForOne}
use Rattle.cycle_find.specs.Tasks.{Task, needed_kinds}
use Rattle.cycle_find.proofs.Passing.{arc_at}
use Rattle.cycle_find.proofs.Scanning.{NoneBefore, none_from_arcs}
use Rattle.cycle_find.proofs.one_dependency.OneDependency.direct_from.Goals as goal

pub returns-then-comes_before : goal.returns-then-comes_before
returns-then-comes_before c =
    let a = c.self.inside in
    let task : Task = c.args.self.now in
    let kinds = needed_kinds task in
    let all : c.successors-successors.result.to ≡ get_or a.needed c.args.from [] = ap (λ (s : Leaving). s.to) c.successors-successors.ensures in
    let ready : IsReadyForOne task a.needed = subst (λ task. IsReadyForOne task a.needed) c.self.view_is c.self.invariant in
    let there : c.args.from < length task.graph.txns + length task.graph.versions = omega (arith, c.requires) in
    let at : c.loop-index.index < length (get_or a.needed c.args.from []) = omega (arith, c.loop-index-test.true, c.len-index-end.ensures, ap length all) in
    let arc : IsArc task.graph kinds c.args.from c.at-to.result =
    subst (IsArc task.graph kinds c.args.from) (sym (c.at-to.ensures.successor ∙ ap (λ to. get_or to c.loop-index.index 0) all))
    (arc_at task.graph kinds a.needed c.args.from c.loop-index.index ready.needed_arcs there at) in
    let (last, back) = c.if-comes_before.ensures.yes in
    record {
      first = c.requires;
      last = last;
      edge = edge_of_direct task.graph kinds c.args.from c.at-to.result (record { first = c.requires; last = last; arc = arc });
      back = back;
    }

pub loop-index-preserved : goal.loop-index-preserved
loop-index-preserved c =
    below_more (λ k. NoneBefore c.args.self.now c.args.from (get_or c.successors-successors.result.to k 0)) c.loop-index.index c.loop-index.invariant
    (subst (NoneBefore c.args.self.now c.args.from) c.at-to.ensures.successor c.if-comes_before.ensures.no)

pub returns : goal.returns
returns c =
    let a = c.self.inside in
    let task : Task = c.args.self.now in
    let all : c.successors-successors.result.to ≡ get_or a.needed c.args.from [] = ap (λ (s : Leaving). s.to) c.successors-successors.ensures in
    let ready : IsReadyForOne task a.needed = subst (λ task. IsReadyForOne task a.needed) c.self.view_is c.self.invariant in
    none_from_arcs task a.needed c.args.from ready.needed_arcs (λ k h.
    subst (λ to. NoneBefore task c.args.from (get_or to k 0)) all
    (c.loop-index.invariant k (omega (arith, h, c.loop-index-test.false, c.len-index-end.ensures, ap length all))))
