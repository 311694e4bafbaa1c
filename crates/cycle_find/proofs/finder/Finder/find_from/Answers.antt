use Rattle.std.proofs.Common.{◌<◌, ◌+◌, ◌∙◌, [], length, get_or, arith, below_more, sym, subst, ◌≡◌, ap}
use Rattle.graph_search.specs.Graphs.{Leaving}
use Rattle.edge_graph.specs.Vertices.{IsArc}
use Rattle.cycle_find.specs.Prepared.{IsPrepared}
use Rattle.cycle_find.specs.Tasks.{Task, needed_kinds, NoneBy}
use Rattle.cycle_find.proofs.Passing.{arc_at, otherwise, none_from}
use Rattle.cycle_find.proofs.finder.Finder.find_from.Goals as goal

pub find_by-requires-clause-by : goal.find_by-requires-clause-by
find_by-requires-clause-by c =
    let a = c.self.inside in
    let all : c.successors-successors.result.to ≡ get_or a.needed c.args.from [] = ap (λ (s : Leaving). s.to) c.successors-successors.ensures in
    let task : Task = c.args.self.now in
    let kinds = needed_kinds task in
    let prepared : IsPrepared task a.needed a.back a.rankings.coarse.now a.rankings.ranks.now a.rankings.back.now a.rankings.far.now a.rankings.late.now = subst (λ task. IsPrepared task a.needed a.back a.rankings.coarse.now a.rankings.ranks.now a.rankings.back.now a.rankings.far.now a.rankings.late.now) c.self.view_is c.self.invariant in
    let there : c.args.from < length task.graph.txns + length task.graph.versions = omega (arith, c.requires.from) in
    let at : c.loop-index.index < length (get_or a.needed c.args.from []) = omega (arith, c.loop-index-test.true, c.len-index-end.ensures, ap length all) in
    subst (IsArc task.graph kinds c.args.from) (sym (c.at-by.ensures.successor ∙ ap (λ to. get_or to c.loop-index.index 0) all))
    (arc_at task.graph kinds a.needed c.args.from c.loop-index.index prepared.needed_arcs there at)

pub loop-index-preserved : goal.loop-index-preserved
loop-index-preserved c =
    let a = c.self.inside in
    let all : c.successors-successors.result.to ≡ get_or a.needed c.args.from [] = ap (λ (s : Leaving). s.to) c.successors-successors.ensures in
    let task : Task = c.args.self.now in
    let from = c.args.from in
    record {
      search = c.find_by.ensures.search ∙ c.loop-index.invariant.search;
      passed =
          below_more (λ k. NoneBy task from (get_or c.successors-successors.result.to k 0)) c.loop-index.index c.loop-index.invariant.passed
          (subst (NoneBy task from) c.at-by.ensures.successor
          (otherwise task (NoneBy task from c.at-by.result) c.in_ok-found.found (sym c.is_some.ensures ∙ c.if-is_some.false) c.in_ok-found.ensures.found));
    }

pub returns-clause-found : goal.returns-clause-found
returns-clause-found c =
    let a = c.self.inside in
    let all : c.successors-successors.result.to ≡ get_or a.needed c.args.from [] = ap (λ (s : Leaving). s.to) c.successors-successors.ensures in
    let task : Task = c.args.self.now in
    let prepared : IsPrepared task a.needed a.back a.rankings.coarse.now a.rankings.ranks.now a.rankings.back.now a.rankings.far.now a.rankings.late.now = subst (λ task. IsPrepared task a.needed a.back a.rankings.coarse.now a.rankings.ranks.now a.rankings.back.now a.rankings.far.now a.rankings.late.now) c.self.view_is c.self.invariant in
    none_from task a.needed c.args.from prepared.needed_arcs (λ k h.
    subst (λ to. NoneBy task c.args.from (get_or to k 0)) all
    (c.loop-index.invariant.passed k (omega (arith, h, c.loop-index-test.false, c.len-index-end.ensures, ap length all))))
