-- What a graph that is made knows, and what an answer of its edges says.
use Rattle.std.proofs.Common.{◌≡◌, ℕ, List, true, Option, Some, None, IsSome, subst, refl}
use Rattle.hist_types.specs.Edges.{Edge}
use Rattle.hist_types.specs.Phenomena.{is_order}
use Rattle.hist_types.specs.declared.types.Level.{Level}
use Rattle.order_frontier.specs.Predecessors.{Before}
use Rattle.dep_edges.specs.Histories.{AreOfHistory, History}
use Rattle.dep_edges.specs.Tables.{IsPlace}
use Rattle.edge_graph.specs.FlatRows.{Row}
use Rattle.edge_graph.specs.Kinds.{kinds_of}
use Rattle.edge_graph.specs.Made.{IsMade}
use Rattle.edge_graph.specs.Parts.{Parts}
use Rattle.edge_graph.specs.Successors.{Turned}
use Rattle.edge_graph.specs.Vertices.{IsArc, RwByVersions}
use Rattle.edge_graph.specs.Walks.{IsEdgeBetween, HasEdgeBetween, IsEdgeIfAny, IsOrderEdgeIfAny}
use Rattle.edge_graph.specs.declared.types.Dependencies.TheVariants as dependencies
use Rattle.edge_graph.specs.declared.types.Kinds.{Kinds}
use Rattle.edge_graph.proofs.ArcsOut.{rw_by_versions}
use Rattle.edge_graph.proofs.EdgeArcs.{edge_of_direct}

pub known :
    (deps history : History) (order : List Before) (rows : List Row) (turned : Turned)
    → IsMade deps history order rows turned
    → (g : Parts)
    → record { keys = history.table.keys; txns = history.txns; order = order; versions = history.table.versions } ≡ g
    → AreOfHistory g.txns × RwByVersions g
known deps history order rows turned made g is =
    subst (λ (g : Parts). AreOfHistory g.txns × RwByVersions g) is (made.kept, rw_by_versions deps history order rows turned made)

pub some_edge : (g : Parts) (kinds : Kinds) (from to : ℕ) (o : Option Edge) → IsEdgeIfAny g kinds from to o → HasEdgeBetween g kinds from to → IsSome o
some_edge g kinds from to None none (e, is) = absurd (none e is)
some_edge g kinds from to (Some e) is has = refl

pub the_edge : (g : Parts) (kinds : Kinds) (from to : ℕ) (o : Option Edge) (e : Edge) → IsEdgeIfAny g kinds from to o → o ≡ Some e → IsEdgeBetween g kinds from to e
the_edge g kinds from to o e is same = subst (IsEdgeIfAny g kinds from to) same is

-- where an arc of the order leads there
pub the_order_edge :
    (g : Parts) (level : Level) (from to : ℕ) (o : Option Edge) (e : Edge) → IsOrderEdgeIfAny g level from to o → o ≡ Some e → IsArc g (kinds_of dependencies.None level) from to
    → IsPlace g.txns from → IsPlace g.txns to → is_order e ≡ true
the_order_edge g level from to o e is same arc h k =
    let has : HasEdgeBetween g (kinds_of dependencies.None level) from to =
    edge_of_direct g (kinds_of dependencies.None level) from to (record { first = h; last = k; arc = arc }) in
    subst (IsOrderEdgeIfAny g level from to) same is has
