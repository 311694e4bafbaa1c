use Rattle.std.proofs.Common.{◌∙◌, List, [], Contains, sym, ap, subst, arith}
use Rattle.hist_types.specs.Edges.{Edge}
use Rattle.hist_types.specs.Transactions.{Transaction}
use Rattle.dep_edges.specs.Histories.{History}
use Rattle.dep_edges.specs.OutEdges.{AddsEdgesFrom}
use Rattle.dep_edges.specs.Tables.{txn_at}
use Rattle.edge_graph.specs.Kinds.{includes}
use Rattle.cycle_find.specs.Single.{IsDependencyBetween}
use Rattle.cycle_find.proofs.ThereAndBack.{leaving}
use Rattle.cycle_find.proofs.single.dependency.Goals as goal

pub returns-then-includes : goal.returns-then-includes
returns-then-includes c =
    let h = c.args.deps.now in
    let from = c.args.from in
    let to = c.args.to in
    let es = c.deref-edge-items.result.now in
    let e : Edge = c.edge-item.result in
    let added : AddsEdgesFrom h.table.keys h.txns (txn_at h.txns from) [] es =
    subst (AddsEdgesFrom h.table.keys h.txns (txn_at h.txns from) []) (sym c.deref-edge-items.ensures.value)
    (subst (λ (before : List Edge). AddsEdgesFrom h.table.keys h.txns (txn_at h.txns from) before c.edges_from.new.out.items) c.new-leaving.ensures.items c.in_ok-edges_from.ensures.ok) in
    let among : Contains es e = (c.loop-edge.edge-index, c.loop-edge-test.true, sym c.edge-item.is) in
    let last = ap (λ (t : Transaction). t.invocation) (c.txn.ensures ∙ ap (λ (h : History). txn_at h.txns to) c.history-history.ensures.history) in
    let ends = sym c.to.ensures ∙ c.if-to-invocation.true ∙ c.invocation-invocation.ensures ∙ last in
    let kind = ap (λ label. includes c.args.kinds label) (sym c.label.ensures) ∙ sym c.includes.ensures ∙ c.if-includes.true in
    subst (IsDependencyBetween h c.args.kinds from to) (sym c.copy.ensures) (leaving h c.args.kinds from to es e added among ends kind)

pub returns : goal.returns
returns c = λ first last e is.
    let h = c.args.deps.now in
    let from = c.args.from in
    let to = c.args.to in
    let es = c.deref-edge-items.result.now in
    let (found, same, are) : AddsEdgesFrom h.table.keys h.txns (txn_at h.txns from) [] es =
    subst (AddsEdgesFrom h.table.keys h.txns (txn_at h.txns from) []) (sym c.deref-edge-items.ensures.value)
    (subst (λ (before : List Edge). AddsEdgesFrom h.table.keys h.txns (txn_at h.txns from) before c.edges_from.new.out.items) c.new-leaving.ensures.items c.in_ok-edges_from.ensures.ok) in
    let (k, at, here) = subst (λ (es : List Edge). Contains es e) (sym same) ((are.exactly e).1 (is.among, is.joins.begins)) in
    let last = ap (λ (t : Transaction). t.invocation) (c.txn.ensures ∙ ap (λ (h : History). txn_at h.txns to) c.history-history.ensures.history) in
    c.loop-edge.invariant k e (omega (arith, at, c.loop-edge-test.false))
    (ap (λ (e : Edge). e.to) here ∙ is.joins.ends ∙ sym (c.invocation-invocation.ensures ∙ last))
    (ap (λ (e : Edge). includes c.args.kinds e.label) here ∙ is.kind)
