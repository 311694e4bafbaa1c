-- The edges of a walk over arcs, vertex by vertex.
use Rattle.std.proofs.Common.{◌≡◌, ◌∙◌, ◌<◌, ◌+◌, ◌-◌, ◌⊎◌, inl, inr, ℕ, zero, suc, List, [], ◌∷◌, ◌++◌, length, true, Contains, refl, sym, subst, arith}
use Rattle.std.specs.Prelude.{slice_index}
use Rattle.std.proofs.lemmas.Bool.{cases_lt, cases_eq}
use Rattle.std.proofs.lemmas.List.Elements.{All-from_recursion, All-append}
use Rattle.std.proofs.lemmas.Option.{slice_get_within}
use Rattle.hist_types.specs.Edges.{Edge}
use Rattle.hist_types.specs.Phenomena.{Leads}
use Rattle.hist_types.specs.Transactions.{Version, is_known_to_read}
use Rattle.dep_edges.specs.Histories.{AreOfHistory}
use Rattle.dep_edges.specs.Tables.{IsPlace, txn_at}
use Rattle.edge_graph.specs.Kinds.{includes}
use Rattle.edge_graph.specs.Parts.{Parts, edges_in}
use Rattle.edge_graph.specs.Vertices.{Vertex, txn, version, IsVertex, LeadsTo, IsArc, RwByVersions}
use Rattle.edge_graph.specs.Walks.{IsEdgeBetween, HasEdgeBetween, IsWalkBetween, AreEdgesBetween}
use Rattle.edge_graph.specs.declared.types.Kinds.{Kinds}
use Rattle.edge_graph.proofs.EdgeArcs.{no_place, edge_of_arc, read_at, follows_at, by_rw, contained}

-- the transaction reads the version at the vertex
abbrev pub ReadsAt : Parts → Kinds → (from vertex : ℕ) → Type 0
ReadsAt g kinds from vertex =
    (v : Version) × IsVertex g vertex (version v) × (kinds.rw ≡ true) × (is_known_to_read (txn_at g.txns from) v ≡ true)

-- the walk's vertex is the transaction, or a version that it reads
abbrev pub IsReached : Parts → Kinds → (from vertex : ℕ) → Type 0
IsReached g kinds from vertex = (vertex ≡ from) ⊎ ReadsAt g kinds from vertex

-- the next vertex is a version that is read, or a transaction to which there is an edge
abbrev pub IsNext : Parts → Kinds → (from vertex : ℕ) → Type 0
IsNext g kinds from vertex =
    ((¬ IsPlace g.txns vertex) × IsReached g kinds from vertex) ⊎ (IsPlace g.txns vertex × ((vertex ≡ from) ⊎ HasEdgeBetween g kinds from vertex))

module _ (g : Parts) (kinds : Kinds) where
  -- ---- one step

  to_version :
      (from vertex next : ℕ) → IsPlace g.txns from → IsReached g kinds from vertex → (x y : Vertex) → ¬ IsPlace g.txns next
      → IsVertex g vertex x → IsVertex g next y → LeadsTo g kinds x y
      → ReadsAt g kinds from next
  to_version from vertex next h (inl same) x y none at at' leads =
      read_at g kinds from next x y h none (subst (λ n. IsVertex g n x) same at) at' leads
  to_version from vertex next h (inr (v, here, allowed, read)) (txn t) y none at at' leads =
      absurd (no_place g vertex v here (slice_get_within g.txns vertex t at))
  to_version from vertex next h (inr (v, here, allowed, read)) (version w) (version z) none at at' leads = absurd leads
  to_version from vertex next h (inr (v, here, allowed, read)) (version w) (txn u) none at at' leads =
      absurd (none (slice_get_within g.txns next u at'))

  next_of : AreOfHistory g.txns → RwByVersions g → (from vertex next : ℕ) → IsPlace g.txns from → IsReached g kinds from vertex → IsArc g kinds vertex next → IsNext g kinds from next
  next_of kept by_versions from vertex next h reached (x, y, at, at', leads) =
      elim (cases_lt next (length g.txns)) [
        | inr high ↦ (
            let none : ¬ IsPlace g.txns next = λ k. omega (arith, k, high) in
            inl (none, inr (to_version from vertex next h reached x y none at at' leads)))
        | inl k ↦ inr (k, to_txn k)
      ]
    where
      to_txn : IsPlace g.txns next → (next ≡ from) ⊎ HasEdgeBetween g kinds from next
      to_txn k = elim reached [
        | inl same ↦ inr (edge_of_arc g kinds from next x y h k (subst (λ n. IsVertex g n x) same at) at' leads)
        | inr by ↦ elim (cases_eq next from) [
          | inl same ↦ inl same
          | inr other ↦ (
              let (v, here, allowed, read) = by in
              let follows = follows_at g kinds vertex next x y v k here at at' leads in
              inr (by_rw g kept by_versions kinds from next v h k (λ same. other (sym same)) (contained g kept by_versions kinds vertex v here) allowed read follows))
        ]
      ]

  pub next_on_walk :
      AreOfHistory g.txns → RwByVersions g → (first last : ℕ) (walk : List ℕ) (from i : ℕ) → IsWalkBetween g kinds first last walk → IsPlace g.txns from
      → i < length walk → IsReached g kinds from (slice_index walk (i - 1)) → IsNext g kinds from (slice_index walk i)
  next_on_walk kept by_versions first last walk from zero is h k reached =
      let here : IsPlace g.txns (slice_index walk 0) = subst (IsPlace g.txns) (sym is.steps.begins) is.first in
      elim reached [ inl same ↦ inr (here, inl same) | inr (v, at, allowed, read) ↦ absurd (no_place g (slice_index walk 0) v at here) ]
  next_on_walk kept by_versions first last walk from (suc i) is h k reached =
      let at : i + 1 ≡ suc i = omega arith in
      let last_one : suc i - 1 ≡ i = omega arith in
      next_of kept by_versions from (slice_index walk i) (slice_index walk (suc i)) h (subst (λ n. IsReached g kinds from (slice_index walk n)) last_one reached)
      (subst (λ n. IsArc g kinds (slice_index walk i) (slice_index walk n)) at (is.steps.joined i (omega (arith, k))))

  pub reached_end : (first last : ℕ) (walk : List ℕ) (from : ℕ) → IsWalkBetween g kinds first last walk → IsReached g kinds from (slice_index walk (length walk - 1)) → from ≡ slice_index walk (length walk - 1)
  reached_end first last walk from is reached =
      let n = slice_index walk (length walk - 1) in
      let here : IsPlace g.txns n = subst (IsPlace g.txns) (sym is.steps.ends) is.last in
      elim reached [ inl same ↦ sym same | inr (v, at, allowed, read) ↦ absurd (no_place g n v at here) ]

  pub edge_there : (from vertex : ℕ) → IsNext g kinds from vertex → IsPlace g.txns vertex → ¬ (vertex ≡ from) → HasEdgeBetween g kinds from vertex
  edge_there from vertex (inl (none, reached)) k other = absurd (none k)
  edge_there from vertex (inr (k, inl same)) l other = absurd (other same)
  edge_there from vertex (inr (k, inr has)) l other = has

  pub still_reached : (from vertex : ℕ) → IsNext g kinds from vertex → (IsPlace g.txns vertex → vertex ≡ from) → IsReached g kinds from vertex
  still_reached from vertex (inl (none, reached)) same = reached
  still_reached from vertex (inr (k, rest)) same = inl (same k)

  -- ---- the edges so far

  leads_on : (a b : ℕ) (es : List Edge) (e : Edge) → Leads a es b → e.from ≡ b → Leads a (es ++ e ∷ []) e.to
  leads_on a b [] e leads same = (same ∙ sym leads, refl)
  leads_on a b (d ∷ es) e (first, leads) same = (first, leads_on d.to b es e leads same)

  pub no_edges : (from : ℕ) → AreEdgesBetween g kinds from from []
  no_edges from = record { leads = refl; among = λ k d h. absurd (omega (arith, h)); of_kinds = λ k d h. absurd (omega (arith, h)) }

  pub one_more_edge : (first from to : ℕ) (es : List Edge) (e : Edge) → AreEdgesBetween g kinds first from es → IsEdgeBetween g kinds from to e → AreEdgesBetween g kinds first to (es ++ e ∷ [])
  one_more_edge first from to es e are is =
      let Among = λ (e : Edge). Contains (edges_in g kinds.level) e in
      let OfKind = λ (e : Edge). includes kinds e.label ≡ true in
      let begin = (txn_at g.txns first).invocation in
      let middle = (txn_at g.txns from).invocation in
      record {
        leads = subst (Leads begin (es ++ e ∷ [])) is.leads.ends (leads_on begin middle es e are.leads is.leads.begins);
        among = All-append Among es (e ∷ []) are.among (All-from_recursion Among (e ∷ []) (is.edge.among, tt));
        of_kinds = All-append OfKind es (e ∷ []) are.of_kinds (All-from_recursion OfKind (e ∷ []) (is.edge.kind, tt));
      }
