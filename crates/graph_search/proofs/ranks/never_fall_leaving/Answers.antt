use Rattle.std.proofs.Common.{◌≡◌, ◌∙◌, get_or, subst, sym, arith}
use Rattle.std.proofs.lemmas.List.{get_or_default}
use Rattle.graph_search.specs.Graphs.{NoneBelow}
use Rattle.graph_search.proofs.ranks.never_fall_leaving.Goals as goal

pub returns : goal.returns
returns g c = record {
  one_each = c.requires.ranks;
  rising = λ v w h.
      let vertices = c.args.vertices.now in
      let listed = c.requires.leave v w h in
      let at : get_or vertices listed.0 0 ≡ v = sym (get_or_default vertices listed.0 v 0 listed.1) ∙ listed.2 in
      subst (λ u. NoneBelow (g.G.Arcs.graph c.args.graph.now) c.args.ranks.now u (get_or c.args.ranks.now u 0)) at
      (c.loop-vertex.invariant listed.0 (omega (arith, listed.1, c.loop-vertex-test.false)))
      w h;
}
