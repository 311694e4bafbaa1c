use Rattle.std.proofs.Common.{◌≡◌, ◌∙◌, ◌∷◌, ℕ, option_map, sym, ap, subst}
use Rattle.graph_search.specs.Graphs.{IsWalk, IsWalkIfAny}
use Rattle.hist_types.specs.Edges.{Edge}
use Rattle.hist_types.specs.Phenomena.{Shows}
use Rattle.hist_types.specs.declared.types.Level.TheVariants.{Plain}
use Rattle.edge_graph.specs.Kinds.{kinds_of}
use Rattle.edge_graph.specs.Parts.{edges_in}
use Rattle.edge_graph.specs.Vertices.{IsArc}
use Rattle.edge_graph.specs.Walks.{IsEdgeBetween, IsEdgeIfAny, AreEdgesAlong}
use Rattle.cycle_find.specs.Dependencies.{needed}
use Rattle.cycle_find.specs.Tasks.{Task, needed_kinds, back_kinds, HasReturnBetween}
use Rattle.cycle_find.proofs.Closing.{shows_along}
use Rattle.cycle_find.proofs.finder.Finder.close.Goals as goal

pub returns-in_default-2-clause-found : goal.returns-in_default-2-clause-found
returns-in_default-2-clause-found c =
    let a = c.self.inside in
    let g = a.graph.now in
    let kinds : c.of-kinds.result ≡ kinds_of (needed a.phenomenon) Plain = c.of-kinds.ensures ∙ ap (λ d. kinds_of d Plain) c.needed.ensures in
    let none : (e : Edge) → ¬ IsEdgeBetween g c.of-kinds.result c.args.from c.args.to e =
    subst (IsEdgeIfAny g c.of-kinds.result c.args.from c.args.to) c.in_default-2.is c.in_ok-edge.ensures.edge in
    subst (λ (task : Task). ¬ HasReturnBetween task c.args.from c.args.to) c.self.view_is
    (λ back. none back.0.0 (subst (λ kinds. IsEdgeBetween g kinds c.args.from c.args.to back.0.0) (sym kinds) back.0.1))

pub returns-clause-found : goal.returns-clause-found
returns-clause-found c =
    let a = c.self.inside in
    let g = a.graph.now in
    let task : Task = record { graph = g; phenomenon = a.phenomenon; level = a.level } in
    let way = c.in-Some.way.items in
    let edge = c.in-Some-2.edge in
    let rest = c.in_ok-back.back.items in
    let Arc : ℕ → ℕ → Type 0 = IsArc c.args.self.now.graph (back_kinds c.args.self.now) in
    let walk : IsWalk Arc c.args.to c.args.from way =
    subst (λ found. IsWalkIfAny Arc c.args.to c.args.from (option_map (λ way. way.items) found)) c.in-Some.is c.in_ok-way.ensures.way in
    let kinds : c.of-kinds.result ≡ kinds_of (needed a.phenomenon) Plain = c.of-kinds.ensures ∙ ap (λ d. kinds_of d Plain) c.needed.ensures in
    let is : IsEdgeBetween g (needed_kinds task) c.args.from c.args.to edge =
    subst (λ kinds. IsEdgeBetween g kinds c.args.from c.args.to edge) kinds (subst (IsEdgeIfAny g c.of-kinds.result c.args.from c.args.to) c.in-Some-2.is c.in_ok-edge.ensures.edge) in
    let are : AreEdgesAlong g (back_kinds task) way rest =
    subst (λ d. AreEdgesAlong g (kinds_of d a.level) way rest) c.way_back-2.ensures
    (subst (λ xs. AreEdgesAlong g (kinds_of c.way_back-2.result a.level) xs rest) c.deref.ensures.value c.in_ok-back.ensures.edges) in
    let items : c.in_ok-closing.field-0 ≡ edge ∷ rest = c.in_ok-closing.ensures in
    subst (λ (task : Task). Shows task.phenomenon (edges_in task.graph task.level) c.in_ok-closing.field-0) c.self.view_is
    (subst (Shows a.phenomenon (edges_in g a.level)) (sym items) (shows_along task c.args.from c.args.to way edge rest walk.begins walk.ends is are))
