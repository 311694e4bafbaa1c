-- What searches in the graph of a history over its thinned order say of the history's phenomena.
use Rattle.std.proofs.Common.{◌≡◌, inl, inr, ◌↔◌, ℕ, List, ◌++◌, Some, sym, subst, Contains}
use Rattle.std.proofs.lemmas.List.Elements.{All-weaker}
use Rattle.hist_types.specs.Edges.{Edge, dependency_edges, order_edges, edges_at}
use Rattle.hist_types.specs.ThinnedOrder.{thinned_edges}
use Rattle.hist_types.specs.Phenomena.{Shows, IsThere, IsShownBy}
use Rattle.hist_types.specs.Transactions.{Transaction, transactions_of}
use Rattle.hist_types.specs.Witness.{HasFewest}
use Rattle.hist_types.specs.declared.types.KeyOrder.{KeyOrder}
use Rattle.hist_types.specs.declared.types.Level.{Level}
use Rattle.hist_types.specs.declared.types.Phenomenon.{Phenomenon}
use Rattle.hist_types.proofs.Members.{in_from_Contains, Contains_from_in, in_front, in_back, in_append}
use Rattle.history_laws.proofs.Fewest.{fewest_of_thinned}
use Rattle.history_laws.proofs.OrderEdges.{thinned_edges-order}
use Rattle.history_laws.proofs.ThinningWalks.{has_thinned}
use Rattle.dep_edges.specs.Histories.{AreOfHistory}
use Rattle.order_frontier.specs.Predecessors.{Before, AreOfEvents, IsThinnedOrder}
use Rattle.cycle_find.specs.Found.{NeedsAtLeast, ShowsByFewest, HasFewestIfAny}
use Rattle.cycle_find.specs.Tasks.{Site, site_of, task_of}
use Rattle.edge_graph.specs.Parts.{Parts, IsMadeOf, edges_in}
use Rattle.edge_graph.proofs.EdgesIn.{of_thinned}
use Rattle.verdict.specs.Graphs.{IsThinned}

-- ---- one search

thinned_is_edge :
    (keys : KeyOrder) (level : Level) (ts : List Transaction) (e : Edge)
    → Contains (dependency_edges keys ts ++ thinned_edges level ts) e
    → Contains (edges_at keys level ts) e
thinned_is_edge keys level ts e c =
    elim (in_append e (dependency_edges keys ts) (thinned_edges level ts) (in_from_Contains e (dependency_edges keys ts ++ thinned_edges level ts) c)) [
      | inl i ↦ Contains_from_in e (edges_at keys level ts) (in_front e (dependency_edges keys ts) (order_edges level ts) i)
      | inr i ↦
          let order : Contains (order_edges level ts) e =
          thinned_edges-order level ts e (Contains_from_in e (thinned_edges level ts) i) in
          Contains_from_in e (edges_at keys level ts) (in_back e (dependency_edges keys ts) (order_edges level ts) (in_from_Contains e (order_edges level ts) order))
    ]

-- a walk that is found shows the phenomenon in the history
pub shown :
    (g : Parts) (phenomenon : Phenomenon) (level : Level) (walk : List Edge)
    → IsThinned g
    → Shows phenomenon (edges_in g level) walk
    → Shows phenomenon (edges_at g.keys level g.txns) walk
shown g phenomenon level walk thinned s = record {
  closed = s.closed;
  within = All-weaker (Contains (edges_in g level)) (Contains (edges_at g.keys level g.txns)) (λ e c. thinned_is_edge g.keys level g.txns e ((thinned.edges level e).0 c)) walk s.within;
  kinds = s.kinds;
}

-- what each walk over all order edges needs, each one over the graph needs
pub needs_over :
    (g : Parts) (site : Site) (phenomenon : Phenomenon) (level : Level) (least : ℕ)
    → IsThinned g
    → site ≡ site_of g level
    → NeedsAtLeast least phenomenon (edges_at g.keys level g.txns)
    → NeedsAtLeast least phenomenon (edges_in site.graph site.level)
needs_over g site phenomenon level least thinned same needs walk shows =
    needs walk (shown g phenomenon level walk thinned (subst (λ (s : Site). Shows phenomenon (edges_in s.graph s.level) walk) same shows))

-- where none is found, the phenomenon isn't there
pub absent :
    (g : Parts) (phenomenon : Phenomenon) (level : Level)
    → IsThinned g
    → ¬ IsShownBy phenomenon (edges_in g level)
    → ¬ IsThere g.keys phenomenon level g.txns
absent g phenomenon level thinned none has =
    let (events, same) = thinned.events in
    let over : IsShownBy phenomenon (dependency_edges g.keys g.txns ++ thinned_edges level g.txns) =
    subst (λ ts. IsShownBy phenomenon (dependency_edges g.keys ts ++ thinned_edges level ts)) (sym same)
    ((has_thinned g.keys phenomenon level events).0 (subst (IsThere g.keys phenomenon level) same has)) in
    none (
      over.0,
      record {
        closed = over.1.closed;
        within = All-weaker (Contains (dependency_edges g.keys g.txns ++ thinned_edges level g.txns)) (Contains (edges_in g level)) (λ e c. (thinned.edges level e).1 c) over.0 over.1.within;
        kinds = over.1.kinds;
      },
    )

-- the fewest of the walks over thinned order are the fewest of all
fewest_at :
    (g : Parts) (phenomenon : Phenomenon) (level : Level) (walk : List Edge)
    → IsThinned g
    → HasFewest phenomenon (edges_in g level) walk
    → HasFewest phenomenon (edges_at g.keys level g.txns) walk
fewest_at g phenomenon level walk thinned fewest other shows =
    let (events, same) = thinned.events in
    let over : HasFewest phenomenon (dependency_edges g.keys g.txns ++ thinned_edges level g.txns) walk = λ another is. fewest another (record {
      closed = is.closed;
      within = All-weaker (Contains (dependency_edges g.keys g.txns ++ thinned_edges level g.txns)) (Contains (edges_in g level)) (λ e c. (thinned.edges level e).1 c) another is.within;
      kinds = is.kinds;
    }) in
    let of_all : HasFewest phenomenon (edges_at g.keys level (transactions_of events)) walk =
    fewest_of_thinned g.keys phenomenon level events walk (subst (λ ts. HasFewest phenomenon (dependency_edges g.keys ts ++ thinned_edges level ts) walk) same over) in
    of_all other (subst (λ ts. Shows phenomenon (edges_at g.keys level ts) other) same shows)

-- a walk over the graph with the fewest has the fewest of all
shown_by_fewest :
    (g : Parts) (phenomenon : Phenomenon) (level : Level) (walk : List Edge)
    → IsThinned g
    → ShowsByFewest phenomenon (edges_in g level) walk
    → ShowsByFewest phenomenon (edges_at g.keys level g.txns) walk
shown_by_fewest g phenomenon level walk thinned is = record {
  shows = shown g phenomenon level walk thinned is.shows;
  fewest = fewest_at g phenomenon level walk thinned is.fewest;
}

-- ---- at a level

-- what a search at the level finds
pub found_at :
    (g : Parts) (site : Site) (phenomenon : Phenomenon) (level : Level) (walk : List Edge)
    → IsThinned g
    → site ≡ site_of g level
    → Shows phenomenon (edges_in site.graph site.level) walk
    → HasFewestIfAny (task_of site.graph phenomenon site.level) (Some walk)
    → ShowsByFewest phenomenon (edges_at g.keys level g.txns) walk
found_at g site phenomenon level walk thinned same shows fewest =
    shown_by_fewest g phenomenon level walk thinned (record {
      shows = subst (λ (s : Site). Shows phenomenon (edges_in s.graph s.level) walk) same shows;
      fewest = subst (λ (s : Site). HasFewestIfAny (task_of s.graph phenomenon s.level) (Some walk)) same fewest (thinned.edges level);
    })

-- where it finds none, the phenomenon isn't there
pub absent_at :
    (g : Parts) (site : Site) (phenomenon : Phenomenon) (level : Level)
    → IsThinned g
    → site ≡ site_of g level
    → ¬ IsShownBy phenomenon (edges_in site.graph site.level)
    → ¬ IsThere g.keys phenomenon level g.txns
absent_at g site phenomenon level thinned same none =
    absent g phenomenon level thinned (subst (λ (s : Site). ¬ IsShownBy phenomenon (edges_in s.graph s.level)) same none)

-- ---- a graph

-- the graph that is made over a thinned order
pub thinned_graph :
    (keys : KeyOrder) (ts : List Transaction) (order : List Before) (g : Parts)
    → AreOfHistory ts
    → IsThinnedOrder ts order
    → IsMadeOf keys ts order g
    → IsThinned g
thinned_graph keys ts order g history is made = record {
  events = subst AreOfEvents (sym made.txns) (history.0, history.2);
  edges =
      λ level e.
      subst (λ ks. Contains (edges_in g level) e ↔ Contains (dependency_edges ks g.txns ++ thinned_edges level g.txns) e) (sym made.keys_are)
      (subst (λ vs. Contains (edges_in g level) e ↔ Contains (dependency_edges keys vs ++ thinned_edges level vs) e) (sym made.txns)
      (of_thinned keys ts history level e order g made is.0));
}
