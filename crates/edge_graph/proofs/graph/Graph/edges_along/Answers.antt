use Rattle.std.proofs.Common.{◌≡◌, ◌∙◌, ◌+◌, ◌-◌, ◌++◌, ◌∷◌, [], List, length, refl, sym, ap, subst, arith, inl, Vec}
use Rattle.std.specs.Prelude.{slice_index}
use Rattle.hist_types.specs.Edges.{Edge}
use Rattle.dep_edges.specs.Tables.{IsPlace}
use Rattle.edge_graph.specs.Parts.{Parts}
use Rattle.edge_graph.specs.Kinds.{kinds_of}
use Rattle.edge_graph.specs.Vertices.{IsArc}
use Rattle.edge_graph.specs.Walks.{IsTxnWalk, AreEdgesBetween, AreEdgesAlong}
use Rattle.hist_types.specs.Witness.{dependencies_in}
use Rattle.edge_graph.specs.declared.types.Dependencies.TheVariants as dependencies
use Rattle.edge_graph.specs.declared.types.Kinds.{Kinds}
use Rattle.edge_graph.proofs.WalkEdges.{IsReached, IsNext, next_on_walk, reached_end, edge_there, still_reached, no_edges, one_more_edge}
use Rattle.edge_graph.proofs.CheapWalks.{IsCheapTo, cheap_start, still_cheap, cheap_on, one_more_at_most, no_more}
use Rattle.edge_graph.proofs.Known.{known, some_edge, the_edge, the_order_edge}
use Rattle.edge_graph.proofs.graph.Graph.edges_along.Goals as goal
use Rattle.edge_graph.proofs.graph.Graph.edges_along.Goals.{After-txns, then-vertex-txns+then-vertex-from+in_ok-edge+in_ok-push, else-vertex-txns, else-vertex-txns-via-then-vertex-txns+else-vertex-from, else-vertex-txns-via-else-vertex-txns}

pub loop-vertex-init : goal.loop-vertex-init
loop-vertex-init c =
    let g : Parts = c.args.self.now in
    let kinds : Kinds = c.of-kinds.result in
    let walk = c.args.walk.now in
    let d = c.args.dependencies in
    let level = c.args.level in
    let from = slice_index walk 0 in
    let (first, last, is) = subst (λ (k : Kinds). IsTxnWalk g k walk) (sym c.of-kinds.ensures) c.requires in
    let place : IsPlace g.txns from = subst (IsPlace g.txns) (sym is.steps.begins) is.first in
    record {
      place = place;
      so_far = subst (AreEdgesBetween g kinds from from) (sym c.in_ok-edges.ensures.items) (no_edges g kinds from);
      reached = inl refl;
      cheap = subst (λ (es : List Edge). IsCheapTo g d level walk 0 (dependencies_in es)) (sym c.in_ok-edges.ensures.items) (cheap_start g d level walk place);
    }

pub edge_between-requires-clause-from : goal.edge_between-requires-clause-from
edge_between-requires-clause-from c = c.loop-vertex.invariant.place

count : (c : After-txns) → length c.txns.result.now ≡ length c.args.self.now.txns
count c = ap length c.txns.ensures.value ∙ ap (λ (g : Parts). length g.txns) c.self.view_is

next_vertex : (c : After-txns) → IsNext c.args.self.now c.of-kinds.result c.loop-vertex.from (slice_index c.args.walk.now c.loop-vertex.vertex-index)
next_vertex c =
    let a = c.self.inside in
    let g : Parts = c.args.self.now in
    let walk = c.args.walk.now in
    let (first, last, is) = subst (λ (k : Kinds). IsTxnWalk g k walk) (sym c.of-kinds.ensures) c.requires in
    let (kept, by) = known a.deps.now a.history.now a.order.now a.rows a.orders c.self.invariant g c.self.view_is in
    next_on_walk g c.of-kinds.result kept by first last walk c.loop-vertex.from c.loop-vertex.vertex-index is c.loop-vertex.invariant.place c.loop-vertex-test.true c.loop-vertex.invariant.reached

pub unwrap-requires : goal.unwrap-requires
unwrap-requires c =
    let at = (goal.at.unwrap-requires c).After-txns in
    let g : Parts = c.args.self.now in
    let kinds : Kinds = c.of-kinds.result in
    let from = c.loop-vertex.from in
    let vertex = slice_index c.args.walk.now c.loop-vertex.vertex-index in
    let here : IsPlace g.txns vertex = omega (arith, c.if-vertex-txns.true, count at) in
    some_edge g kinds from vertex c.in_ok-edge.edge c.in_ok-edge.ensures.edge (edge_there g kinds from vertex (next_vertex at) here c.if-vertex-from.true)

pub loop-vertex-preserved : goal.loop-vertex-preserved
loop-vertex-preserved c =
    let g : Parts = c.args.self.now in
    let kinds : Kinds = c.of-kinds.result in
    let walk = c.args.walk.now in
    let i = c.loop-vertex.vertex-index in
    let from = c.loop-vertex.from in
    let vertex = slice_index walk i in
    let at = (goal.at.loop-vertex-preserved c).After-txns in
    let n = count at in
    let next = next_vertex at in
    let inv = c.loop-vertex.invariant in
    let d = c.args.dependencies in
    let level = c.args.level in
    let begin = slice_index walk 0 in
    let last_index : i + 1 - 1 ≡ i = omega arith in
    elim c.if-vertex-txns.branch [
      | then-vertex-txns+then-vertex-from+in_ok-edge+in_ok-push w ↦
          let e : Edge = w.unwrap.result in
          let here : IsPlace g.txns vertex = omega (arith, w.if-vertex-txns.true, n) in
          let is_edge = the_edge g kinds from vertex w.in_ok-edge.edge e w.in_ok-edge.ensures.edge w.unwrap.ensures in
          let items : c.if-vertex-txns.edges.items ≡ c.loop-vertex.edges.items ++ e ∷ [] =
          ap (λ (v : Vec _ _). v.items) w.edges-is ∙ w.in_ok-push.ensures.items in
          let level_is : kinds.level ≡ level = ap (λ (k : Kinds). k.level) c.of-kinds.ensures in
          let by_order : (IsPlace g.txns from → IsArc g (kinds_of dependencies.None level) from vertex → dependencies_in (c.loop-vertex.edges.items ++ e ∷ []) ≡ dependencies_in c.loop-vertex.edges.items) =
          λ k arc.
          no_more c.loop-vertex.edges.items e
          (the_order_edge g kinds.level from vertex w.in_ok-edge.edge e w.in_ok-edge.ensures.order w.unwrap.ensures
          (subst (λ l. IsArc g (kinds_of dependencies.None l) from vertex) (sym level_is) arc) k here) in
          let cheap : IsCheapTo g d level walk i (dependencies_in (c.loop-vertex.edges.items ++ e ∷ [])) =
          cheap_on g d level walk i from _ _ c.loop-vertex-test.true here w.if-vertex-from.true
          (subst (λ (k : Kinds). IsReached g k from (slice_index walk (i - 1))) c.of-kinds.ensures inv.reached)
          (one_more_at_most c.loop-vertex.edges.items e) by_order inv.cheap in
          record {
            place = subst (IsPlace g.txns) (sym w.from-is) here;
            so_far =
                subst (λ k. AreEdgesBetween g kinds begin k c.if-vertex-txns.edges.items) (sym w.from-is)
                (subst (AreEdgesBetween g kinds begin vertex) (sym items) (one_more_edge g kinds begin from vertex c.loop-vertex.edges.items e inv.so_far is_edge));
            reached = inl (ap (slice_index walk) last_index ∙ sym w.from-is);
            cheap =
                subst (λ k. IsCheapTo g d level walk k (dependencies_in c.if-vertex-txns.edges.items)) (sym last_index)
                (subst (λ (es : List Edge). IsCheapTo g d level walk i (dependencies_in es)) (sym items) cheap);
          }
      | else-vertex-txns w ↦
          let same : IsPlace g.txns vertex → vertex ≡ from =
          λ k.
          elim w.else-vertex-txns.branch [
            | else-vertex-txns-via-then-vertex-txns+else-vertex-from w' ↦ w'.if-vertex-from.false
            | else-vertex-txns-via-else-vertex-txns w' ↦ absurd (omega (arith, k, w'.if-vertex-txns.false, n))
          ] in
          record {
            place = subst (IsPlace g.txns) (sym w.from-is) inv.place;
            so_far =
                subst (λ k. AreEdgesBetween g kinds begin k c.if-vertex-txns.edges.items) (sym w.from-is)
                (subst (AreEdgesBetween g kinds begin from) (sym (ap (λ (v : Vec _ _). v.items) w.edges-is)) inv.so_far);
            reached =
                subst (λ m. IsReached g kinds m (slice_index walk (i + 1 - 1))) (sym w.from-is)
                (subst (λ k. IsReached g kinds from (slice_index walk k)) (sym last_index) (still_reached g kinds from vertex next same));
            cheap =
                subst (λ k. IsCheapTo g d level walk k (dependencies_in c.if-vertex-txns.edges.items)) (sym last_index)
                (subst (λ (es : List Edge). IsCheapTo g d level walk i (dependencies_in es)) (sym (ap (λ (v : Vec _ _). v.items) w.edges-is))
                (still_cheap g d level walk i (dependencies_in c.loop-vertex.edges.items) c.loop-vertex-test.true inv.cheap));
          }
    ]

pub returns : goal.returns
returns c =
    let a = c.self.inside in
    let g : Parts = c.args.self.now in
    let kinds : Kinds = c.of-kinds.result in
    let walk = c.args.walk.now in
    let from = c.loop-vertex.from in
    let (first, last, is) = subst (λ (k : Kinds). IsTxnWalk g k walk) (sym c.of-kinds.ensures) c.requires in
    let (kept, by) = known a.deps.now a.history.now a.order.now a.rows a.orders c.self.invariant g c.self.view_is in
    let inv = c.loop-vertex.invariant in
    let whole : c.loop-vertex.vertex-index ≡ length walk = omega (arith, c.loop-vertex-test.false, c.loop-vertex.auto.vertex-index-end) in
    let at_end : IsReached g kinds from (slice_index walk (length walk - 1)) = subst (λ n. IsReached g kinds from (slice_index walk (n - 1))) whole inv.reached in
    let same = reached_end g kinds first last walk from is at_end in
    let cheap = subst (λ n. IsCheapTo g c.args.dependencies c.args.level walk (n - 1) (dependencies_in c.loop-vertex.edges.items)) whole inv.cheap in
    record {
      edges =
          subst (λ (k : Kinds). AreEdgesAlong g k walk c.loop-vertex.edges.items) c.of-kinds.ensures
          (subst (λ n. AreEdgesBetween g kinds (slice_index walk 0) n c.loop-vertex.edges.items) same inv.so_far);
      cheap = λ most (begins, ends, within).
          omega (arith, (cheap most begins ends within.rest within.vertices within.leads).within);
    }
