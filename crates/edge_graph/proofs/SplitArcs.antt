-- The arcs that leave transactions of one graph, and those that leave versions of another.
use Rattle.std.proofs.Common.{◌≡◌, ◌↔◌, ◌∙◌, ◌<◌, ◌≤◌, ◌+◌, ◌-◌, ◌⊎◌, inl, inr, ℕ, List, [], length, take, drop, Contains, sym, ap, subst, arith}
use Rattle.std.proofs.lemmas.Bool.{false≢true, cases_lt}
use Rattle.std.proofs.lemmas.List.{length-append, length-take-le, length-drop, get_or_append_left, get_or-append_right, get_or-take, get_or-drop}
use Rattle.std.proofs.lemmas.Option.{slice_get_within}
use Rattle.graph_search.specs.Graphs.{HasArc}
use Rattle.hist_types.specs.declared.types.Level.{Level}
use Rattle.hist_types.specs.declared.types.Level.TheVariants.{Plain}
use Rattle.dep_edges.specs.Tables.{IsPlace}
use Rattle.edge_graph.specs.Costs.{IsFreeArc, IsPaidArc}
use Rattle.edge_graph.specs.Kinds.{kinds_of}
use Rattle.edge_graph.specs.Made.{split_at}
use Rattle.edge_graph.specs.Parts.{Parts}
use Rattle.edge_graph.specs.Successors.{list_at}
use Rattle.edge_graph.specs.Vertices.{txn, version, IsArc, AreArcs, AreArcsThat, graph_by}
use Rattle.edge_graph.specs.declared.types.Dependencies.{Dependencies}
use Rattle.edge_graph.specs.declared.types.Dependencies.TheVariants.{None}
use Rattle.edge_graph.specs.declared.types.Kinds.{Kinds}

-- ---- lists

module _ (n : ℕ) (first second : List (List ℕ)) (fits : n ≤ length first) where
  pub length-split : length second ≡ length first → length (split_at n first second) ≡ length first
  length-split same =
      omega (arith, length-append (take n first) (drop n second), length-take-le n first fits, length-drop n second, same, fits)

  pub split_low : (v : ℕ) → v < n → list_at (split_at n first second) v ≡ list_at first v
  split_low v h =
      get_or_append_left (take n first) (drop n second) [] v (omega (arith, length-take-le n first fits, h)) ∙ get_or-take n first v [] h

  pub split_high : (v : ℕ) → n ≤ v → list_at (split_at n first second) v ≡ list_at second v
  split_high v h =
      let at : n + (v - n) ≡ v = omega (arith, h) in
      get_or-append_right (take n first) (drop n second) n v [] (length-take-le n first fits) h
      ∙ get_or-drop n second (v - n) [] ∙ ap (list_at second) at

-- ---- arcs

-- an arc of the one kinds leaves a transaction, or of the others a version
abbrev IsSplitArc : Parts → (kinds others : Kinds) → ℕ → ℕ → Type 0
IsSplitArc g kinds others v w =
    (IsPlace g.txns v × IsArc g kinds v w) ⊎ ((¬ IsPlace g.txns v) × IsArc g others v w)

module _ (g : Parts) (kinds others : Kinds) (first second : List (List ℕ)) (are : AreArcs g kinds first) (others_are : AreArcs g others second) where
  abbrev all : List (List ℕ)
  all = split_at (length g.txns) first second

  fits : length g.txns ≤ length first
  fits = omega (arith, are.count)

  same : length second ≡ length first
  same = omega (arith, are.count, others_are.count)

  from_split : (v w : ℕ) → HasArc (graph_by all) v w → IsSplitArc g kinds others v w
  from_split v w (h, c) =
      let long = length-split (length g.txns) first second fits same in
      elim (cases_lt v (length g.txns)) [
        | inl low ↦
            inl (low, (are.arcs v w).0 (omega (arith, h, long), subst (λ (to : List ℕ). Contains to w) (split_low (length g.txns) first second fits v low) c))
        | inr high ↦
            inr ((λ k. omega (arith, k, high)), (others_are.arcs v w).0 (omega (arith, h, long, same), subst (λ (to : List ℕ). Contains to w) (split_high (length g.txns) first second fits v high) c))
      ]

  to_split : (v w : ℕ) → IsSplitArc g kinds others v w → HasArc (graph_by all) v w
  to_split v w (inl (low, arc)) =
      let long = length-split (length g.txns) first second fits same in
      let (h, c) = (are.arcs v w).1 arc in
      (omega (arith, h, long), subst (λ (to : List ℕ). Contains to w) (sym (split_low (length g.txns) first second fits v low)) c)
  to_split v w (inr (none, arc)) =
      let long = length-split (length g.txns) first second fits same in
      let (h, c) = (others_are.arcs v w).1 arc in
      let high : length g.txns ≤ v = elim (cases_lt v (length g.txns)) [ inl low ↦ absurd (none low) | inr up ↦ up ] in
      (omega (arith, h, long, same), subst (λ (to : List ℕ). Contains to w) (sym (split_high (length g.txns) first second fits v high)) c)

  pub split : (Leads : ℕ → ℕ → Type 0) → ((v w : ℕ) → IsSplitArc g kinds others v w ↔ Leads v w) → AreArcsThat g Leads all
  split Leads exactly =
      record {
        count = length-split (length g.txns) first second fits same ∙ are.count;
        arcs = λ v w. (λ has. (exactly v w).0 (from_split v w has), λ leads. to_split v w ((exactly v w).1 leads));
      }

-- ---- what they cost

-- no order edge leaves a version
pub from_txn : (g : Parts) (level : Level) (v w : ℕ) → IsArc g (kinds_of None level) v w → IsPlace g.txns v
from_txn g level v w (txn t, y, at, at', leads) = slice_get_within g.txns v t at
from_txn g level v w (version x, txn u, at, at', (allowed, follows)) = absurd (false≢true allowed)
from_txn g level v w (version x, version y, at, at', leads) = absurd leads

module _ (g : Parts) (d : Dependencies) where
  pub free_arcs : (level : Level) (order dependencies : List (List ℕ)) → AreArcs g (kinds_of None level) order → AreArcs g (kinds_of d Plain) dependencies
      → AreArcsThat g (IsFreeArc g d level) (split_at (length g.txns) order dependencies)
  free_arcs level order dependencies are others =
      split g (kinds_of None level) (kinds_of d Plain) order dependencies are others (IsFreeArc g d level) (λ v w. (from v w, to v w))
    where
      from : (v w : ℕ) → IsSplitArc g (kinds_of None level) (kinds_of d Plain) v w → IsFreeArc g d level v w
      from v w (inl (low, arc)) = inl arc
      from v w (inr high) = inr high

      to : (v w : ℕ) → IsFreeArc g d level v w → IsSplitArc g (kinds_of None level) (kinds_of d Plain) v w
      to v w (inl arc) = inl (from_txn g level v w arc, arc)
      to v w (inr high) = inr high

  pub paid_arcs : (dependencies none : List (List ℕ)) → AreArcs g (kinds_of d Plain) dependencies → AreArcs g (kinds_of None Plain) none
      → AreArcsThat g (IsPaidArc g d) (split_at (length g.txns) dependencies none)
  paid_arcs dependencies none are others =
      split g (kinds_of d Plain) (kinds_of None Plain) dependencies none are others (IsPaidArc g d) (λ v w. (from v w, λ paid. inl paid))
    where
      from : (v w : ℕ) → IsSplitArc g (kinds_of d Plain) (kinds_of None Plain) v w → IsPaidArc g d v w
      from v w (inl paid) = paid
      from v w (inr (out, arc)) = absurd (out (from_txn g Plain v w arc))
