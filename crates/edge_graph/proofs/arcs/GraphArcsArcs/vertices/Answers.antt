use Rattle.std.proofs.Common.{◌∙◌, sym, ap, length}
use Rattle.edge_graph.proofs.Joined.{length-joined}
use Rattle.edge_graph.proofs.arcs.GraphArcsArcs.vertices.Goals as goal

pub returns : goal.returns
returns c =
    let a = c.self.inside in
    c.len.ensures ∙ sym (length-joined a.followed a.rows.now a.order.now) ∙ ap length c.self.view_is
