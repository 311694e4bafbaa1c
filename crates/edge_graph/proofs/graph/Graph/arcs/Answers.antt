use Rattle.std.proofs.Common.{◌∙◌, sym, ap, subst}
use Rattle.edge_graph.specs.Kinds.{kinds_of}
use Rattle.edge_graph.specs.Made.{joined, AreWithin}
use Rattle.edge_graph.specs.Parts.{Parts}
use Rattle.edge_graph.specs.Vertices.{AreArcs, RwByVersions}
use Rattle.edge_graph.proofs.ArcsOut.{arcs_out, arcs_within, rw_by_versions}
use Rattle.edge_graph.proofs.graph.Graph.arcs.Goals as goal

pub new-requires : goal.new-requires
new-requires c =
    let a = c.self.inside in
    let made = c.self.invariant in
    subst (λ lists. AreWithin (joined c.args.dependencies a.rows lists)) (sym c.at.ensures)
    (arcs_within a.deps.now a.history.now a.order.now a.rows a.orders made c.args.dependencies c.args.level)

pub returns-clause-arcs : goal.returns-clause-arcs
returns-clause-arcs c =
    let a = c.self.inside in
    let made = c.self.invariant in
    let kinds = kinds_of c.args.dependencies c.args.level in
    subst (λ (g : Parts). AreArcs g kinds c.new.result) c.self.view_is
    (subst (AreArcs (record { keys = a.history.now.table.keys; txns = a.history.now.txns; order = a.order.now; versions = a.history.now.table.versions }) kinds) (sym (c.new.ensures ∙ ap (joined c.args.dependencies a.rows) c.at.ensures))
    (arcs_out a.deps.now a.history.now a.order.now a.rows a.orders made c.args.dependencies c.args.level))

pub returns-clause-rw : goal.returns-clause-rw
returns-clause-rw c =
    let a = c.self.inside in
    let made = c.self.invariant in
    subst RwByVersions c.self.view_is
    (rw_by_versions a.deps.now a.history.now a.order.now a.rows a.orders made)
