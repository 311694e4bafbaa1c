-- An edge between two transactions has an arc, or a way by a version.
use Rattle.std.proofs.Common.{◌≡◌, ◌∙◌, inl, inr, ℕ, ◌⊎◌, sym, subst}
use Rattle.hist_types.specs.Edges.{Edge}
use Rattle.hist_types.specs.declared.types.Level.TheVariants.{Plain}
use Rattle.hist_types.proofs.Members.{In, in_from_Contains, Contains_from_in}
use Rattle.dep_edges.specs.Histories.{AreOfHistory}
use Rattle.edge_graph.specs.Kinds.{kinds_of}
use Rattle.edge_graph.specs.Parts.{Parts, edges_in}
use Rattle.edge_graph.specs.Vertices.{IsArc, RwByVersions}
use Rattle.edge_graph.specs.Walks.{LeadsBetween, HasEdgeBetween, IsWayByVersion, HasDirectArc, HasWayByVersion}
use Rattle.edge_graph.specs.declared.types.Dependencies.{Dependencies}
use Rattle.edge_graph.specs.declared.types.Dependencies.TheVariants.{Rw}
use Rattle.edge_graph.proofs.EdgesIn.{plain}
use Rattle.edge_graph.proofs.Txns.{one_place}
use Rattle.cycle_find.specs.Dependencies.{needed}
use Rattle.cycle_find.specs.Tasks.{Task, needed_kinds}
use Rattle.cycle_find.proofs.Closing.{needed_kind}
use Rattle.cycle_find.proofs.OrderBack.{has_arcs}
use Rattle.cycle_find.proofs.TwoEdges.{no_loop}

module _ (task : Task) (kept : AreOfHistory task.graph.txns) (by_versions : RwByVersions task.graph) where
  abbrev g : Parts
  g = task.graph

  -- no edge leads from a transaction to itself
  pub apart : (e : Edge) → In e (edges_in g Plain) → e.to ≡ e.from → ⊥
  apart e i = no_loop g.keys g.txns e (in_from_Contains e _ ((plain g e).0 (Contains_from_in e (edges_in g Plain) i)))

  same_ends : (from to from' to' : ℕ) (e : Edge) → LeadsBetween g from to e → LeadsBetween g from' to' e → (from' ≡ from) × (to' ≡ to)
  same_ends from to from' to' e one two =
      (one_place g.txns kept from' from two.first one.first (sym two.begins ∙ one.begins), one_place g.txns kept to' to two.last one.last (sym two.ends ∙ one.ends))

  along_arc : (d : Dependencies) (from to : ℕ) (e : Edge) → LeadsBetween g from to e → HasDirectArc g d e → IsArc g (kinds_of d Plain) from to
  along_arc d from to e leads (from', to', leads', direct) =
      let (first, last) = same_ends from to from' to' e leads leads' in
      subst (λ v. IsArc g (kinds_of d Plain) v to) first (subst (λ w. IsArc g (kinds_of d Plain) from' w) last direct.arc)

  along_way : (from to : ℕ) (e : Edge) → LeadsBetween g from to e → HasWayByVersion g Rw e → (version : ℕ) × IsWayByVersion g (kinds_of Rw Plain) from version to
  along_way from to e leads (from', version, to', leads', way) =
      let (first, last) = same_ends from to from' to' e leads leads' in
      (version, subst (λ v. IsWayByVersion g (kinds_of Rw Plain) v version to) first (subst (λ w. IsWayByVersion g (kinds_of Rw Plain) from' version w) last way))

  pub arcs_there :
      (from to : ℕ) → HasEdgeBetween g (needed_kinds task) from to
      → ((needed task.phenomenon ≡ Rw → ⊥) × IsArc g (needed_kinds task) from to) ⊎ ((needed task.phenomenon ≡ Rw) × (version : ℕ) × IsWayByVersion g (needed_kinds task) from version to)
  arcs_there from to (e, is) =
      elim (has_arcs g task.phenomenon Plain by_versions e is.edge.among (needed_kind g task.phenomenon e is.edge)) [
        | inl (other, arc) ↦ inl (other, along_arc (needed task.phenomenon) from to e is.leads arc)
        | inr (same, way) ↦
            let (version, by) = along_way from to e is.leads way in
            inr (same, version, subst (λ d. IsWayByVersion g (kinds_of d Plain) from version to) (sym same) by)
      ]
