use Rattle.std.proofs.Common.{◌<◌, ◌+◌, [], length, get_or, arith, sym, subst, ◌≡◌, ◌∙◌, ap}
use Rattle.graph_search.specs.Graphs.{Leaving}
use Rattle.edge_graph.specs.Kinds.{kinds_of}
use Rattle.edge_graph.specs.Vertices.{IsArc}
use Rattle.hist_types.specs.declared.types.Level.TheVariants.{Plain}
use Rattle.cycle_find.specs.Prepared.{AreRanked}
use Rattle.cycle_find.specs.Ranked.{Ranking}
use Rattle.cycle_find.specs.Ways.{RisesBy}
use Rattle.cycle_find.proofs.Passing.{arc_at, rises_from}
use Rattle.cycle_find.proofs.settle.RankedEdges.rise_from.Goals as goal

pub rise_by-requires-clause-by : goal.rise_by-requires-clause-by
rise_by-requires-clause-by c =
    let a = c.self.inside in
    let all : c.successors-successors.result.to ≡ get_or a.arcs c.args.from [] = ap (λ (s : Leaving). s.to) c.successors-successors.ensures in
    let r : Ranking = c.args.self.now in
    let kinds = kinds_of r.dependencies Plain in
    let ranked : AreRanked r a.arcs = subst (λ (r : Ranking). AreRanked r a.arcs) c.self.view_is c.self.invariant in
    let there : c.args.from < length r.graph.txns + length r.graph.versions = omega (arith, c.requires) in
    let at : c.loop-index.index < length (get_or a.arcs c.args.from []) = omega (arith, c.loop-index-test.true, c.len-index-end.ensures, ap length all) in
    subst (IsArc r.graph kinds c.args.from) (sym (c.at.ensures.successor ∙ ap (λ to. get_or to c.loop-index.index 0) all)) (arc_at r.graph kinds a.arcs c.args.from c.loop-index.index ranked.are there at)

pub returns : goal.returns
returns c =
    let a = c.self.inside in
    let all : c.successors-successors.result.to ≡ get_or a.arcs c.args.from [] = ap (λ (s : Leaving). s.to) c.successors-successors.ensures in
    let r : Ranking = c.args.self.now in
    let ranked : AreRanked r a.arcs = subst (λ (r : Ranking). AreRanked r a.arcs) c.self.view_is c.self.invariant in
    rises_from r a.arcs c.args.from ranked (λ k h.
    subst (λ to. RisesBy r c.args.from (get_or to k 0)) all
    (c.loop-index.invariant k (omega (arith, h, c.loop-index-test.false, c.len-index-end.ensures, ap length all))))
