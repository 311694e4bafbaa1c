-- The edges that leave a transaction: dependency edges of the kinds, and order edges to its successors.
use Rattle.std.proofs.Common.{◌≡◌, ◌∙◌, ◌<◌, inl, inr, ℕ, List, [], ◌∷◌, ◌++◌, length, filter, Bool, true, Option, Some, None, refl, sym, ap, subst}
use Rattle.std.specs.Prelude.{⊤}
use Rattle.history_laws.specs.Dependencies.{Depends}
use Rattle.hist_types.specs.declared.types.KeyOrder.{KeyOrder}
use Rattle.hist_types.specs.Edges.{Label, ww, wr, rw, process, realtime, realtime_label, Edge, edge}
use Rattle.hist_types.specs.Transactions.{Transaction, Version}
use Rattle.hist_types.specs.declared.types.Level.{Level}
use Rattle.hist_types.specs.declared.types.Level.TheVariants.{Plain, Process, Realtime}
use Rattle.history_laws.proofs.DependencyEdges.{edges_by_versions}
use Rattle.hist_types.proofs.Members.{In, in_from_Contains, Contains_from_in, in_front, in_back, in_append, in_each, in_some, in_map, in_filter, in_filtered, passes_filter}
use Rattle.history_laws.proofs.WrittenOnce.{AreApart, apart_append, none_twice}
use Rattle.order_frontier.specs.Predecessors.{Before}
use Rattle.dep_edges.specs.Histories.{AreOfHistory}
use Rattle.dep_edges.specs.OutEdges as out_edges
use Rattle.hist_types.specs.Lists.{NoneTwice}
use Rattle.dep_edges.specs.Tables.{txn_at}
use Rattle.dep_edges.proofs.Apart.{apart_each, apart_filter}
use Rattle.edge_graph.specs.Kinds.{includes}
use Rattle.edge_graph.specs.Made.{order_labels_to, order_edges_to, order_edges_over}
use Rattle.edge_graph.specs.Parts.{Parts, IsOrderOf, HasEdge, AreEdgesFrom}
use Rattle.edge_graph.specs.Successors.{Turned, list_at, lists_at, AreTurned}
use Rattle.edge_graph.specs.declared.types.Kinds.{Kinds}
use Rattle.edge_graph.proofs.OrderTo.{order_from, order_to, later_from, later_to, later_apart}
use Rattle.edge_graph.proofs.Txns.{txn_there, txn_of, one_place}

-- ---- labels of order edges

abbrev pub IsOrderLabel : Label → Type 0
IsOrderLabel (ww earlier later) = ⊥
IsOrderLabel (wr version) = ⊥
IsOrderLabel (rw earlier later) = ⊥
IsOrderLabel (process number) = ⊤
IsOrderLabel (realtime completion invocation) = ⊤

by_realtime : (o : Option ℕ) (i : ℕ) (label : Label) → In label (realtime_label o i) → IsOrderLabel label
by_realtime None i label among = absurd among
by_realtime (Some c) i label (inl e) = subst IsOrderLabel e tt
by_realtime (Some c) i label (inr among) = absurd among

pub order_label : (level : Level) (t : Transaction) (i : ℕ) (label : Label) → In label (order_labels_to level t i) → IsOrderLabel label
order_label Plain t i label among = absurd among
order_label Process t i label (inl e) = subst IsOrderLabel e tt
order_label Process t i label (inr among) = absurd among
order_label Realtime t i label among = by_realtime t.completion i label among

pub order_included : (kinds : Kinds) (label : Label) → IsOrderLabel label → includes kinds label ≡ true
order_included kinds (ww earlier later) is = absurd is
order_included kinds (wr version) is = absurd is
order_included kinds (rw earlier later) is = absurd is
order_included kinds (process number) is = refl
order_included kinds (realtime completion invocation) is = refl

pub no_dependency : (keys : KeyOrder) (ts : List Transaction) (t u : Transaction) (label : Label) → IsOrderLabel label → Depends keys ts t u label → ⊥
no_dependency keys ts t u (ww earlier later) is d = is
no_dependency keys ts t u (wr version) is d = is
no_dependency keys ts t u (rw earlier later) is d = is
no_dependency keys ts t u (process number) is d = d
no_dependency keys ts t u (realtime completion invocation) is d = d

-- a list in which nothing is twice, either way said
apart_from_none_twice : (es : List Edge) → NoneTwice es → AreApart es
apart_from_none_twice [] once = tt
apart_from_none_twice (e ∷ es) once = ((λ i. once.0 (Contains_from_in e es i)), apart_from_none_twice es once.1)

module _ (keys : KeyOrder) (ts : List Transaction) (order : List Before) (kept : AreOfHistory ts) (is : IsOrderOf ts order) (turned : Turned) (turned_are : AreTurned ts order turned) (versions : List Version) where
  abbrev parts : Parts
  parts = record { keys = keys; txns = ts; order = order; versions = versions }

  abbrev over : Kinds → ℕ → List Edge
  over kinds place = order_edges_over ts kinds.level place (list_at (lists_at kinds.level turned) place)

  abbrev included : Kinds → Edge → Bool
  included kinds e = includes kinds e.label

  -- an order edge to one of the places
  over_from : (kinds : Kinds) (place : ℕ) (e : Edge) → place < length ts → In e (over kinds place)
      → (next : ℕ) × (next < length ts) × In e (order_edges_to kinds.level (txn_at ts place) (txn_at ts next)) × (label : Label) × IsOrderLabel label × (e ≡ edge (txn_at ts place) (txn_at ts next) label) × HasEdge parts kinds.level e
  over_from kinds place e h i =
      let level = kinds.level in
      let t = txn_at ts place in
      let later = list_at (lists_at level turned) place in
      let (next, among, j) = in_some (λ n. order_edges_to level t (txn_at ts n)) e later i in
      let (k, successor) = later_from ts order kept is turned turned_are level place next h among in
      let u = txn_at ts next in
      let (label, known, c, one, whole) = order_from ts order kept is level place next h k successor in
      let same : edge t u label ≡ e = only (edge t u label) e (subst (In e) whole j) in
      (next, k, j, label, order_label level t u.invocation label known, sym same, subst (HasEdge parts level) same (inr (c, one)))
    where
      only : (d e : Edge) → In e (d ∷ []) → d ≡ e
      only d e (inl same) = same
      only d e (inr i) = absurd i

  over_apart : (kinds : Kinds) (place : ℕ) → place < length ts → AreApart (over kinds place)
  over_apart kinds place h =
      let level = kinds.level in
      let t = txn_at ts place in
      let later = list_at (lists_at level turned) place in
      let f = λ (n : ℕ). order_edges_to level t (txn_at ts n) in
      let to = λ (n : ℕ) (i : In n later). later_from ts order kept is turned turned_are level place n h i in
      apart_each f later (later_apart ts order kept is turned turned_are level place h)
      (λ n i.
      let (k, successor) = to n i in
      let (label, known, c, one, whole) = order_from ts order kept is level place n h k successor in
      subst AreApart (sym whole) ((λ j. j), tt))
      (λ m n e i j x y.
      let (first, among, same) = in_map (edge t (txn_at ts m)) e (order_labels_to level t (txn_at ts m).invocation) x in
      let (second, among', same') = in_map (edge t (txn_at ts n)) e (order_labels_to level t (txn_at ts n).invocation) y in
      one_place ts kept m n (to m i).0 (to n j).0 (ap (λ (d : Edge). d.to) (same ∙ sym same')))

  pub edges_out :
      (kinds : Kinds) (place : ℕ) (es : List Edge) → place < length ts → out_edges.AreEdgesFrom keys ts (txn_at ts place) es
      → AreEdgesFrom parts kinds place (filter (included kinds) es ++ over kinds place)
  edges_out kinds place es h are =
      let t = txn_at ts place in
      let level = kinds.level in
      let later = list_at (lists_at level turned) place in
      let first = filter (included kinds) es in
      let second = over kinds place in
      record {
        exactly =
            λ e. (
              λ c.
                  elim (in_append e first second (in_from_Contains e (first ++ second) c)) [
                    | inl i ↦ (
                        let (dependency, from) = (are.exactly e).0 (Contains_from_in e es (in_filter (included kinds) e es i)) in
                        (inl dependency, passes_filter (included kinds) e es i, (t, txn_there ts place h, from)))
                    | inr i ↦ (
                        let (next, k, j, label, ordered, same, has) = over_from kinds place e h i in
                        (has, ap (included kinds) same ∙ order_included kinds label ordered, (t, txn_there ts place h, ap (λ (d : Edge). d.from) same)))
                  ],
              λ (has, of_kind, (v, at, from)).
                  let leaves : e.from ≡ t.invocation = from ∙ ap (λ (x : Transaction). x.invocation) (sym (txn_of ts place v at)) in
                  Contains_from_in e (first ++ second) (elim has [
                    | inl dependency ↦
                        in_front e first second
                        (in_filtered (included kinds) e es (in_from_Contains e es ((are.exactly e).1 (dependency, leaves))) of_kind)
                    | inr ordered ↦ (
                        let (next, k, to, successor, i) = order_to ts order kept is level place e h ordered.0 ordered.1 leaves in
                        in_back e first second
                        (in_each (λ n. order_edges_to level t (txn_at ts n)) e next later
                        (later_to ts order kept is turned turned_are level place next h k successor) i))
                  ]),
            );
        once =
            none_twice (first ++ second)
            (apart_append first second (apart_filter (included kinds) es (apart_from_none_twice es are.once)) (over_apart kinds place h)
            (λ e i j.
            let (next, k, l, label, ordered, same, has) = over_from kinds place e h j in
            let dependency = ((are.exactly e).0 (Contains_from_in e es (in_filter (included kinds) e es i))).0 in
            let (v, w, x, y, other, at, depends) = (edges_by_versions keys ts e).0 dependency in
            no_dependency keys ts v w e.label (subst IsOrderLabel (sym (ap (λ (d : Edge). d.label) same)) ordered) depends));
      }
