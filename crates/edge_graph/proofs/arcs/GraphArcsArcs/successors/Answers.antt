use Rattle.std.proofs.Common.{◌∙◌, ◌<◌, ◌++◌, All, ap, sym, subst}
use Rattle.edge_graph.proofs.Joined.{leaving, in_rows, first_within, second_within, both}
use Rattle.edge_graph.proofs.arcs.GraphArcsArcs.successors.Goals as goal

pub row-requires : goal.row-requires
row-requires c =
    let a = c.self.inside in in_rows a.followed a.rows.now a.order.now c.args.self.now c.args.vertex c.self.view_is c.requires

pub new-requires-clause-first : goal.new-requires-clause-first
new-requires-clause-first c =
    let a = c.self.inside in
    subst (λ n. All (λ w. w < n) c.row.result.now) (sym c.len.ensures)
    (first_within a.followed a.rows.now a.order.now c.args.self.now c.self.view_is c.args.vertex c.requires c.row.result.now c.get.result.now c.row.ensures c.get.ensures c.self.invariant)

pub new-requires-clause-second : goal.new-requires-clause-second
new-requires-clause-second c =
    let a = c.self.inside in
    subst (λ n. All (λ w. w < n) c.get.result.now) (sym c.len.ensures)
    (second_within a.followed a.rows.now a.order.now c.args.self.now c.self.view_is c.args.vertex c.requires c.row.result.now c.get.result.now c.row.ensures c.get.ensures c.self.invariant)

pub returns : goal.returns
returns c =
    let a = c.self.inside in
    c.new.ensures ∙ ap (λ n. leaving n (c.row.result.now ++ c.get.result.now)) c.len.ensures
    ∙ both a.followed a.rows.now a.order.now c.args.self.now c.self.view_is c.args.vertex c.requires c.row.result.now c.get.result.now c.row.ensures c.get.ensures
