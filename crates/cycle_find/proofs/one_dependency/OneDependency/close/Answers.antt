use Rattle.std.proofs.Common.{◌≡◌, ◌∙◌, ◌∷◌, ℕ, List, option_map, sym, ap, subst}
use Rattle.graph_search.specs.Graphs.{IsWalk, IsWalkIfAny}
use Rattle.hist_types.specs.Edges.{Edge}
use Rattle.hist_types.specs.declared.types.Level.TheVariants.{Plain}
use Rattle.edge_graph.specs.Kinds.{kinds_of}
use Rattle.edge_graph.specs.Parts.{edges_in}
use Rattle.edge_graph.specs.Vertices.{IsArc}
use Rattle.edge_graph.specs.Walks.{IsEdgeBetween, IsEdgeIfAny, AreEdgesAlong}
use Rattle.cycle_find.specs.Dependencies.{needed}
use Rattle.cycle_find.specs.Found.{ShowsByFewest}
use Rattle.cycle_find.specs.OneDependency.{IsReadyForOne, order_kinds}
use Rattle.cycle_find.specs.Tasks.{Task, needed_kinds}
use Rattle.cycle_find.proofs.OrderBack.{shows_by_one_along, path_back}
use Rattle.cycle_find.proofs.one_dependency.OneDependency.close.Goals as goal

pub returns-in_default : goal.returns-in_default
returns-in_default c =
    let a = c.self.inside in
    let g = a.graph.now in
    let task : Task = c.args.self.now in
    let kinds : c.of-kinds.result ≡ kinds_of (needed a.phenomenon) Plain = c.of-kinds.ensures ∙ ap (λ d. kinds_of d Plain) c.needed.ensures in
    let none : (e : Edge) → ¬ IsEdgeBetween g (kinds_of (needed a.phenomenon) Plain) c.args.ends.from c.args.ends.to e =
    subst (λ kinds. (e : Edge) → ¬ IsEdgeBetween g kinds c.args.ends.from c.args.ends.to e) kinds
    (subst (IsEdgeIfAny g c.of-kinds.result c.args.ends.from c.args.ends.to) c.in_default.is c.in_ok-edge.ensures.edge) in
    let there = subst (λ (task : Task). (e : Edge) → ¬ IsEdgeBetween task.graph (needed_kinds task) c.args.ends.from c.args.ends.to e) c.self.view_is none in
    λ thinned walk is. absurd (there c.requires.edge.0 c.requires.edge.1)

pub returns-in_default-2 : goal.returns-in_default-2
returns-in_default-2 c =
    let a = c.self.inside in
    let task : Task = c.args.self.now in
    let ready : IsReadyForOne task a.needed = subst (λ task. IsReadyForOne task a.needed) c.self.view_is c.self.invariant in
    let Arc : ℕ → ℕ → Type 0 = IsArc task.graph (order_kinds task) in
    let none : (walk : List ℕ) → ¬ IsWalk Arc c.args.ends.to c.args.ends.from walk =
    subst (λ found. IsWalkIfAny Arc c.args.ends.to c.args.ends.from (option_map (λ way. way.items) found)) c.in_default-2.is c.in_ok-path.ensures in
    λ thinned walk is.
    let back = path_back task ready.kept ready.by_versions thinned c.args.ends.from c.args.ends.to c.requires.first c.requires.last c.requires.edge c.requires.back in
    absurd (none back.0 back.1.steps)

pub returns : goal.returns
returns c =
    let a = c.self.inside in
    let g = a.graph.now in
    let task : Task = record { graph = g; phenomenon = a.phenomenon; level = a.level } in
    let from = c.args.ends.from in
    let to = c.args.ends.to in
    let path = c.in-Some-2.path.items in
    let edge = c.in-Some.edge in
    let back = c.in_ok-back.back.items in
    let Arc : ℕ → ℕ → Type 0 = IsArc c.args.self.now.graph (order_kinds c.args.self.now) in
    let walk : IsWalk Arc to from path =
    subst (λ found. IsWalkIfAny Arc to from (option_map (λ way. way.items) found)) c.in-Some-2.is c.in_ok-path.ensures in
    let kinds : c.of-kinds.result ≡ kinds_of (needed a.phenomenon) Plain = c.of-kinds.ensures ∙ ap (λ d. kinds_of d Plain) c.needed.ensures in
    let is : IsEdgeBetween g (needed_kinds task) from to edge =
    subst (λ kinds. IsEdgeBetween g kinds from to edge) kinds (subst (IsEdgeIfAny g c.of-kinds.result from to) c.in-Some.is c.in_ok-edge.ensures.edge) in
    let are : AreEdgesAlong g (order_kinds task) path back =
    subst (λ xs. AreEdgesAlong g (order_kinds task) xs back) c.deref.ensures.value c.in_ok-back.ensures.edges in
    let items : c.in_ok-closing.field-0 ≡ edge ∷ back = c.in_ok-closing.ensures in
    subst (λ (task : Task). ShowsByFewest task.phenomenon (edges_in task.graph task.level) c.in_ok-closing.field-0) c.self.view_is
    (subst (ShowsByFewest a.phenomenon (edges_in g a.level)) (sym items) (shows_by_one_along task from to path edge back walk.begins walk.ends is are))
