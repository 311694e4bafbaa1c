use Rattle.std.proofs.Common.{◌≡◌, ◌∙◌, [], length, get_or, ap, arith, subst}
use Rattle.graph_search.specs.Graphs.{Leaving}
use Rattle.cycle_find.specs.Prepared.{AreRanked}
use Rattle.cycle_find.specs.Ranked.{Ranking}
use Rattle.cycle_find.specs.Ways.{IsAbove}
use Rattle.cycle_find.proofs.Passing.{rises_by_version}
use Rattle.cycle_find.proofs.settle.RankedEdges.rise_by_version.Goals as goal

pub returns : goal.returns
returns c =
    let a = c.self.inside in
    let all : c.successors-successors.result.to ≡ get_or a.arcs c.args.version [] = ap (λ (s : Leaving). s.to) c.successors-successors.ensures in
    let r : Ranking = c.args.self.now in
    let ranked : AreRanked r a.arcs = subst (λ (r : Ranking). AreRanked r a.arcs) c.self.view_is c.self.invariant in
    rises_by_version r a.arcs c.args.from c.args.version ranked c.requires.version
    (λ k h other.
    subst (λ to. IsAbove r c.args.from (get_or to k 0)) all
    (c.loop-index.invariant k (omega (arith, h, c.loop-index-test.false, c.len-index-end.ensures, ap length all)) (λ same. other (same ∙ ap (λ to. get_or to k 0) all))))
