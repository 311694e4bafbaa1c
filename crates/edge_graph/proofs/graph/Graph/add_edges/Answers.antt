use Rattle.std.proofs.Common.{◌≡◌, ◌∙◌, ◌++◌, ◌<◌, List, ℕ, All, length, filter, sym, ap, subst, append_assoc}
use Rattle.std.proofs.lemmas.Result.{on_ok_weaker}
use Rattle.hist_types.specs.Edges.{Edge}
use Rattle.hist_types.specs.Transactions.{Transaction}
use Rattle.hist_types.specs.declared.types.KeyOrder.{KeyOrder}
use Rattle.dep_edges.specs.OutEdges as out_edges
use Rattle.dep_edges.specs.Tables.{IsPlace, txn_at}
use Rattle.dep_edges.proofs.Lists.{all_in}
use Rattle.edge_graph.specs.Kinds.{includes}
use Rattle.edge_graph.specs.Made.{order_edges_over}
use Rattle.edge_graph.specs.Parts.{Parts, AddsEdgesFrom}
use Rattle.edge_graph.specs.Successors.{list_at, lists_at}
use Rattle.edge_graph.proofs.EdgesOut.{edges_out}
use Rattle.edge_graph.proofs.OrderTo.{later_from}
use Rattle.edge_graph.proofs.graph.Graph.add_edges.Goals as goal

pub add_order_edges-requires-clause-places : goal.add_order_edges-requires-clause-places
add_order_edges-requires-clause-places c =
    let a = c.self.inside in
    let made = c.self.invariant in
    let ts : List Transaction = a.history.now.txns in
    let level = c.args.kinds.level in
    let place = c.args.place in
    let within : place < length ts = subst (λ (g : Parts). IsPlace g.txns place) (sym c.self.view_is) c.requires in
    let later_is : c.get-later.result.now ≡ list_at (lists_at level a.orders) place = c.get-later.ensures ∙ ap (λ lists. list_at lists place) c.at.ensures in
    let later = list_at (lists_at level a.orders) place in
    subst (λ (xs : List Transaction). All (IsPlace xs) c.get-later.result.now) (sym c.txns.ensures.value)
    (subst (λ (places : List ℕ). All (IsPlace ts) places) (sym later_is)
    (all_in (IsPlace ts) later (λ next i. (later_from ts a.order.now made.kept made.ordered a.orders made.orders level place next within i).0)))

pub returns-clause-ok : goal.returns-clause-ok
returns-clause-ok c =
    let a = c.self.inside in
    let made = c.self.invariant in
    let ts : List Transaction = a.history.now.txns in
    let kinds = c.args.kinds in
    let place = c.args.place in
    let before = c.args.out.now.items in
    let after = c.add_order_edges.new.out.items in
    let keys : KeyOrder = a.history.now.table.keys in
    let g : Parts = record { keys = keys; txns = ts; order = a.order.now; versions = a.history.now.table.versions } in
    let within : place < length ts = subst (λ (g : Parts). IsPlace g.txns place) (sym c.self.view_is) c.requires in
    let later_is : c.get-later.result.now ≡ list_at (lists_at kinds.level a.orders) place = c.get-later.ensures ∙ ap (λ lists. list_at lists place) c.at.ensures in
    let later = list_at (lists_at kinds.level a.orders) place in
    let (es, added, found) = c.in_ok-add_dependencies.ensures.ok in
    let are : out_edges.AreEdgesFrom keys ts (txn_at ts place) es =
    subst (λ (xs : List Transaction). out_edges.AreEdgesFrom keys xs (txn_at xs place) es) made.txns
    (subst (λ ks. out_edges.AreEdgesFrom ks a.deps.now.txns (txn_at a.deps.now.txns place) es) made.keys found) in
    let some = filter (λ (e : Edge). includes kinds e.label) es in
    let more = order_edges_over ts kinds.level place later in
    on_ok_weaker c.add_order_edges.result
    (λ is.
    let all : after ≡ before ++ (some ++ more) =
    is ∙ ap (λ (xs : List Transaction). c.add_dependencies.new.out.items ++ order_edges_over xs kinds.level place c.get-later.result.now) c.txns.ensures.value
    ∙ ap (λ (places : List ℕ). c.add_dependencies.new.out.items ++ order_edges_over ts kinds.level place places) later_is
    ∙ ap (λ (xs : List Edge). xs ++ more) added ∙ append_assoc before some more in
    subst (λ (g : Parts). AddsEdgesFrom g kinds place before after) c.self.view_is (
      some ++ more,
      all,
      edges_out keys ts a.order.now made.kept made.ordered a.orders made.orders a.history.now.table.versions kinds place es within are,
    ))
    c.add_order_edges.ensures.ok
