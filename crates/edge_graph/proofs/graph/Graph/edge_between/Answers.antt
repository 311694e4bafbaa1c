use Rattle.std.proofs.Common.{◌≡◌, ◌∙◌, ◌++◌, [], List, inl, inr, ap, sym, subst, arith}
use Rattle.std.proofs.lemmas.List.{append-nil, nil_from_length}
use Rattle.std.proofs.lemmas.Bool.{false≢true}
use Rattle.std.specs.Vec.Iter.{into_iter_items}
use Rattle.hist_types.specs.Edges.{Edge}
use Rattle.hist_types.specs.Transactions.{Transaction}
use Rattle.dep_edges.specs.Labels.{label_of}
use Rattle.dep_edges.specs.Tables.{txn_at}
use Rattle.edge_graph.specs.Parts.{Parts, AddsEdgesFrom}
use Rattle.edge_graph.proofs.Between.{given_front, IsBest, best_elsewhere, best_kept, best_new, best_edge, best_order, is_of_order}
use Rattle.edge_graph.proofs.graph.Graph.edge_between.Goals as goal
use Rattle.edge_graph.proofs.graph.Graph.edge_between.Goals.{else-to-invocation-via-then-to-invocation+else-includes, then-is_none, else-is_none, else-to-invocation-via-else-to-invocation}

pub loop-edge-preserved : goal.loop-edge-preserved
loop-edge-preserved c =
    let invocation = c.invocation-invocation.result in
    let es = c.loop-edge.yielded in
    let found = c.loop-edge.found in
    let e : Edge = c.in-Some.edge in
    elim c.else-to-invocation.branch [
      | else-to-invocation-via-then-to-invocation+else-includes w ↦ elim w.if-is_none.branch [
        | then-is_none w' ↦ absurd (false≢true (sym w.if-includes.false ∙ w'.value-is ∙ w'.if-is_none.true))
        | else-is_none w' ↦ (
            let of = is_of_order c.of-order.result c.args.kinds.level (label_of w'.label.result.now) e c.of-order.ensures w'.label.ensures in
            best_kept invocation es found e c.loop-edge.invariant w'.if-is_none.ensures (sym of ∙ sym w'.includes.ensures ∙ sym w'.value-is ∙ w.if-includes.false))
      ]
      | else-to-invocation-via-else-to-invocation w ↦ best_elsewhere invocation es found e c.loop-edge.invariant (λ to. w.if-to-invocation.false (c.to.ensures ∙ to))
    ]

pub loop-edge-preserved-then-includes : goal.loop-edge-preserved-then-includes
loop-edge-preserved-then-includes c =
    let e : Edge = c.in-Some.edge in
    best_new c.invocation-invocation.result c.loop-edge.yielded c.loop-edge.found e c.loop-edge.invariant (sym c.to.ensures ∙ c.if-to-invocation.true) (elim c.if-is_none.branch [
      | then-is_none w ↦ inl w.if-is_none.ensures
      | else-is_none w ↦ (
          let of = is_of_order c.of-order.result c.args.kinds.level (label_of w.label.result.now) e c.of-order.ensures w.label.ensures in
          inr (sym of ∙ sym w.includes.ensures ∙ sym w.value-is ∙ c.if-includes.true))
    ])

pub returns : goal.returns
returns c =
    let g : Parts = c.args.self.now in
    let it = c.into_iter-edge-iterator.result in
    let rest = into_iter_items c.loop-edge.edge-iterator in
    let none : rest ≡ [] = nil_from_length rest (omega (arith, c.in-None.ensures.steps.0, c.loop-edge.edge-iterator.rest.ok.0)) in
    let front : into_iter_items it ≡ c.loop-edge.yielded =
    given_front it c.loop-edge.yielded c.loop-edge.edge-iterator c.loop-edge.yielded_by
    ∙ ap (λ (es : List Edge). c.loop-edge.yielded ++ es) none ∙ append-nil c.loop-edge.yielded in
    let added : AddsEdgesFrom g c.args.kinds c.args.from [] (into_iter_items it) =
    subst (AddsEdgesFrom g c.args.kinds c.args.from []) (sym c.into_iter-edge-iterator.ensures.into_iter_gives.0)
    (subst (λ (before : List Edge). AddsEdgesFrom g c.args.kinds c.args.from before c.edges_from.new.out.items) c.new-leaving.ensures.items c.in_ok-edges_from.ensures.ok) in
    let at = c.invocation-invocation.ensures ∙ ap (λ (x : Transaction). x.invocation) (c.txn.ensures ∙ ap (λ (g : Parts). txn_at g.txns c.args.to) c.self.view_is) in
    let best : IsBest c.invocation-invocation.result (into_iter_items it) c.loop-edge.found =
    subst (λ (es : List Edge). IsBest c.invocation-invocation.result es c.loop-edge.found) (sym front) c.loop-edge.invariant in
    record {
      edge = best_edge g c.args.kinds c.args.from c.args.to c.invocation-invocation.result (into_iter_items it) c.requires.from c.requires.to added at c.loop-edge.found best;
      order = best_order g c.args.kinds c.args.from c.args.to c.invocation-invocation.result (into_iter_items it) c.requires.from c.requires.to added at c.loop-edge.found best;
    }
