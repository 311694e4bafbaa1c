use Rattle.std.proofs.Common.{◌∙◌, ap, sym, subst}
use Rattle.edge_graph.specs.Costs.{IsFreeArc}
use Rattle.edge_graph.specs.Made.{split_at}
use Rattle.edge_graph.specs.Parts.{Parts}
use Rattle.edge_graph.specs.Vertices.{AreArcsThat}
use Rattle.edge_graph.proofs.SplitArcs.{free_arcs}
use Rattle.edge_graph.proofs.graph.Graph.free_arcs.Goals as goal

pub returns : goal.returns
returns c =
    let g : Parts = c.args.self.now in
    let all = c.new.ensures ∙ ap (λ n. split_at n c.arcs.result c.arcs-2.result) c.len.ensures in
    subst (AreArcsThat g (IsFreeArc g c.args.dependencies c.args.level)) (sym all)
    (free_arcs g c.args.dependencies c.args.level c.arcs.result c.arcs-2.result c.arcs.ensures.arcs c.arcs-2.ensures.arcs)
