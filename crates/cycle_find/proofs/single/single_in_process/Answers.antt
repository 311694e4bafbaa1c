use Rattle.std.proofs.Common.{◌≡◌, ◌∙◌, [], ◌∷◌, List, sym, ap, subst}
use Rattle.hist_types.specs.Edges.{Edge, edges_at}
use Rattle.hist_types.specs.declared.types.Level.TheVariants.{Plain, Process}
use Rattle.hist_types.specs.declared.types.Phenomenon.TheVariants.{GSingle}
use Rattle.edge_graph.specs.Kinds.{kinds_of}
use Rattle.edge_graph.specs.declared.types.Dependencies.TheVariants.{Rw}
use Rattle.edge_graph.specs.declared.types.Kinds.{Kinds}
use Rattle.cycle_find.specs.Found.{ShowsByFewest}
use Rattle.cycle_find.specs.Single.{IsDependencyBetween, IsDependencyIfAny, IsProcessEdgeBetween}
use Rattle.cycle_find.proofs.ThereAndBack.{in_process}
use Rattle.cycle_find.proofs.single.single_in_process.Goals as goal

pub returns : goal.returns
returns c =
    let h = c.args.deps.now in
    let from = c.in-Some.ends.from in
    let to = c.in-Some.ends.to in
    let e : Edge = c.in-Some-2.edge in
    let back : Edge = c.in-Some-process_edge.back in
    let found : IsDependencyBetween h c.of-rw.result from to e =
    subst (IsDependencyIfAny h c.of-rw.result from to) c.in-Some-2.is c.in_ok-edge.ensures in
    let is : IsDependencyBetween h (kinds_of Rw Plain) from to e = subst (λ (kinds : Kinds). IsDependencyBetween h kinds from to e) c.of-rw.ensures found in
    let by_process : IsProcessEdgeBetween h.txns to from back = c.in-Some-process_edge.ensures in
    let items : c.in_ok-closing.field-0 ≡ e ∷ back ∷ [] = c.in_ok-closing.ensures ∙ ap (λ (es : List Edge). e ∷ es) c.in_ok-rest.ensures.items in
    subst (ShowsByFewest GSingle (edges_at h.table.keys Process h.txns)) (sym items) (in_process h from to e back is by_process)
