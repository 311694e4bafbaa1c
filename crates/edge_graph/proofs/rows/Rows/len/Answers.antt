use Rattle.std.proofs.Common.{◌∙◌, ap, sym, length}
use Rattle.edge_graph.proofs.Parts.{length-rows_in}
use Rattle.edge_graph.proofs.rows.Rows.len.Goals as goal

pub returns : goal.returns
returns c =
    let a = c.self.inside in
    sym (length-rows_in a.txns a.versions a.bounds.items a.items.items) ∙ ap length c.self.view_is
