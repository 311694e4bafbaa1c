-- Edges as arcs, one by one and along a walk, which costs no more than they have dependencies.
use Rattle.std.proofs.Common.{◌≡◌, ◌∙◌, ◌<◌, ◌≤◌, ◌+◌, ◌-◌, ◌⊎◌, inl, inr, ℕ, zero, suc, List, [], ◌∷◌, length, Bool, true, false, not, Some, Contains, refl, sym, ap, subst, arith}
use Rattle.std.specs.Prelude.{slice_get, slice_index}
use Rattle.std.specs.List.{AllByRecursion}
use Rattle.std.proofs.lemmas.Bool.{false≢true, and_parts, and_from}
use Rattle.std.proofs.lemmas.List.Elements.{recursion_from_All}
use Rattle.std.proofs.lemmas.Option.{same_Some, slice_get_within, slice_get-get_or, get_or_from_slice_get}
use Rattle.graph_search.specs.Costs.{LeadsWithin}
use Rattle.graph_search.specs.Graphs.{IsWalk}
use Rattle.hist_types.specs.Edges.{Label, ww, wr, rw, process, realtime, Edge, edge, dependency_edges}
use Rattle.hist_types.specs.Phenomena.{Leads, is_ww_label, is_wr_label, is_rw_label, is_ww, is_wr, is_rw, is_order}
use Rattle.hist_types.specs.Transactions.{Transaction, Version, is_node, nodes, is_known_to_read}
use Rattle.hist_types.specs.declared.types.Level.{Level}
use Rattle.hist_types.specs.declared.types.Level.TheVariants.{Plain}
use Rattle.history_laws.proofs.DependencyEdges.{edges_by_versions}
use Rattle.history_laws.proofs.ThinningWalks.{one_if, count-cons}
use Rattle.hist_types.proofs.Members.{in_from_Contains, Contains_from_in, in_filter}
use Rattle.dep_edges.specs.Histories.{AreOfHistory}
use Rattle.dep_edges.specs.Tables.{IsPlace, txn_at}
use Rattle.edge_graph.specs.Kinds.{includes, includes_directly, kinds_of, AreAmong}
use Rattle.edge_graph.specs.Parts.{Parts, HasEdge, edges_in}
use Rattle.edge_graph.specs.Vertices.{Vertex, txn, version, IsVertex, Follows, LeadsTo, IsArc, RwByVersions}
use Rattle.edge_graph.specs.Walks.{LeadsBetween, IsEdgeOf, HasEdgeBetween, IsDirectArc, IsWayByVersion, HasDirectArc, HasWayByVersion, HasWalkBetween, AreEdgesBetween}
use Rattle.hist_types.specs.Witness.{dependencies_in}
use Rattle.edge_graph.specs.declared.types.Dependencies.{Dependencies}
use Rattle.edge_graph.specs.declared.types.Dependencies.TheVariants.{None, Ww, Wr, Rw}
use Rattle.edge_graph.specs.declared.types.Kinds.{Kinds}
use Rattle.edge_graph.proofs.EdgesIn.{listed, plain, dependency_of, is_order_label}
use Rattle.edge_graph.proofs.Txns.{txn_there, txn_of, txn_in, place_by, one_place}

-- ---- fewer kinds

module _ (g : Parts) (few more : Kinds) (ww_too : few.ww ≡ true → more.ww ≡ true) (wr_too : few.wr ≡ true → more.wr ≡ true) (rw_too : few.rw ≡ true → more.rw ≡ true) (edges : (e : Edge) → HasEdge g few.level e → HasEdge g more.level e) where
  more_direct : (label : Label) → includes_directly few label ≡ true → includes_directly more label ≡ true
  more_direct (ww earlier later) h = and_from more.ww true (ww_too (and_parts few.ww true h).0) refl
  more_direct (wr v) h = and_from more.wr true (wr_too (and_parts few.wr true h).0) refl
  more_direct (rw earlier later) h = absurd (false≢true (and_parts few.rw false h).1)
  more_direct (process number) h = refl
  more_direct (realtime completion invocation) h = refl

  more_leads : (x y : Vertex) → LeadsTo g few x y → LeadsTo g more x y
  more_leads (txn t) (txn u) (label, has, is) = (label, edges (edge t u label) has, more_direct label is)
  more_leads (txn t) (version v) (allowed, read) = (rw_too allowed, read)
  more_leads (version v) (txn u) (allowed, follows) = (rw_too allowed, follows)
  more_leads (version v) (version w) leads = leads

  more_arc : (v w : ℕ) → IsArc g few v w → IsArc g more v w
  more_arc v w (x, y, at, at', leads) = (x, y, at, at', more_leads x y leads)

-- plain's edges are edges of each level
plain_edge : (g : Parts) (level : Level) (e : Edge) → HasEdge g Plain e → HasEdge g level e
plain_edge g level e has = inl ((plain g e).0 ((listed g Plain e).1 has))

module _ (g : Parts) (few more : Dependencies) (among : AreAmong few more) where
  pub more_at_level : (level : Level) (v w : ℕ) → IsArc g (kinds_of few level) v w → IsArc g (kinds_of more level) v w
  more_at_level level = more_arc g (kinds_of few level) (kinds_of more level) among.ww among.wr among.rw (λ e has. has)

  pub more_than_plain : (level : Level) (v w : ℕ) → IsArc g (kinds_of few Plain) v w → IsArc g (kinds_of more level) v w
  more_than_plain level = more_arc g (kinds_of few Plain) (kinds_of more level) among.ww among.wr among.rw (plain_edge g level)

-- ---- walks

module _ (Arc : ℕ → ℕ → Type 0) where
  alone : (v : ℕ) → IsWalk Arc v v (v ∷ [])
  alone v = record { some = omega arith; begins = refl; ends = refl; joined = λ k h. absurd (omega (arith, h)) }

  before : (from next to : ℕ) (walk : List ℕ) → Arc from next → IsWalk Arc next to walk → IsWalk Arc from to (from ∷ walk)
  before from next to [] arc is = absurd (omega (arith, is.some))
  before from next to (v ∷ vs) arc is =
      record {
        some = omega arith;
        begins = refl;
        ends =
            let n : suc (suc (length vs)) - 1 ≡ suc (length vs) = omega arith in
            let m : suc (length vs) - 1 ≡ length vs = omega arith in
            ap (λ k. slice_index (from ∷ v ∷ vs) k) n ∙ ap (λ k. slice_index (v ∷ vs) k) (sym m) ∙ is.ends;
        joined = joined';
      }
    where
      joined' : (k : ℕ) → k + 1 < length (from ∷ v ∷ vs) → Arc (slice_index (from ∷ v ∷ vs) k) (slice_index (from ∷ v ∷ vs) (k + 1))
      joined' zero h = subst (Arc from) (sym is.begins) arc
      joined' (suc k) h =
          let e : suc (k + 1) ≡ suc k + 1 = omega arith in
          subst (λ n. Arc (slice_index (from ∷ v ∷ vs) (suc k)) (slice_index (from ∷ v ∷ vs) n)) e (is.joined k (omega (arith, h)))

-- ---- arcs by what they cost

-- the dependencies of the kinds
abbrev at_plain : Kinds → Kinds
at_plain kinds = record { ww = kinds.ww; wr = kinds.wr; rw = kinds.rw; level = Plain }

abbrev IsFree : Parts → Kinds → ℕ → ℕ → Type 0
IsFree g kinds v w = IsArc g (kinds_of None kinds.level) v w ⊎ ((IsPlace g.txns v → ⊥) × IsArc g (at_plain kinds) v w)

abbrev IsPaid : Parts → Kinds → ℕ → ℕ → Type 0
IsPaid g kinds v w = IsPlace g.txns v × IsArc g (at_plain kinds) v w

module _ (g : Parts) (kinds : Kinds) where
  plain_arc : (v w : ℕ) → IsArc g (at_plain kinds) v w → IsArc g kinds v w
  plain_arc = more_arc g (at_plain kinds) kinds (λ h. h) (λ h. h) (λ h. h) (plain_edge g kinds.level)

  free_arc : (v w : ℕ) → IsFree g kinds v w → IsArc g kinds v w
  free_arc v w (inl arc) =
      more_arc g (kinds_of None kinds.level) kinds (λ h. absurd (false≢true h)) (λ h. absurd (false≢true h)) (λ h. absurd (false≢true h)) (λ e has. has) v w arc
  free_arc v w (inr (out, arc)) = plain_arc v w arc

  pub walk_of : (most from : ℕ) (rest : List ℕ) (to : ℕ) → LeadsWithin (IsFree g kinds) (IsPaid g kinds) most from rest to → IsWalk (IsArc g kinds) from to (from ∷ rest)
  walk_of most from [] to same = subst (λ n. IsWalk (IsArc g kinds) from n (from ∷ [])) same (alone (IsArc g kinds) from)
  walk_of most from (v ∷ rest) to (inl (free, leads)) =
      before (IsArc g kinds) from v to (v ∷ rest) (free_arc from v free) (walk_of most v rest to leads)
  walk_of most from (v ∷ rest) to (inr (fewer, is, paid, leads)) =
      before (IsArc g kinds) from v to (v ∷ rest) (plain_arc from v paid.1) (walk_of fewer v rest to leads)

-- ---- vertices

module _ (g : Parts) where
  txn_vertex : (place : ℕ) → IsPlace g.txns place → IsVertex g place (txn (txn_at g.txns place))
  txn_vertex place h = txn_there g.txns place h

  -- what is at a place is the transaction
  at_place : (place : ℕ) (x : Vertex) → IsPlace g.txns place → IsVertex g place x → x ≡ txn (txn_at g.txns place)
  at_place place (txn t) h at = ap txn (sym (txn_of g.txns place t at))
  at_place place (version v) h (number, is, at) = absurd (omega (arith, h, is))

  no_txn : (vertex : ℕ) (x : Vertex) → (IsPlace g.txns vertex → ⊥) → IsVertex g vertex x → (v : Version) × (x ≡ version v)
  no_txn vertex (txn t) none at = absurd (none (slice_get_within g.txns vertex t at))
  no_txn vertex (version v) none at = (v, refl)

  one_version : (vertex : ℕ) (v w : Version) → IsVertex g vertex (version v) → IsVertex g vertex (version w) → v ≡ w
  one_version vertex v w (number, is, at) (other, is', at') =
      let same : number ≡ other = omega (arith, is, is') in
      same_Some v w (sym at ∙ ap (slice_get g.versions) same ∙ at')

  pub no_place : (vertex : ℕ) (v : Version) → IsVertex g vertex (version v) → IsPlace g.txns vertex → ⊥
  no_place vertex v (number, is, at) h = omega (arith, h, is)

  version_vertex : (v : Version) → Contains g.versions v → (vertex : ℕ) × IsVertex g vertex (version v)
  version_vertex v c =
      let (number, h, at) = Contains_from_in v g.versions (in_from_Contains v g.versions c) in
      (length g.txns + number, (number, refl, slice_get-get_or g.versions number v h ∙ ap Some at))

-- ---- from edges to arcs

direct_ww : (label : Label) → is_ww_label label ≡ true → includes_directly (kinds_of Ww Plain) label ≡ true
direct_ww (ww earlier later) e = refl
direct_ww (wr v) e = absurd (false≢true e)
direct_ww (rw earlier later) e = absurd (false≢true e)
direct_ww (process number) e = absurd (false≢true e)
direct_ww (realtime completion invocation) e = absurd (false≢true e)

direct_wr : (label : Label) → is_wr_label label ≡ true → includes_directly (kinds_of Wr Plain) label ≡ true
direct_wr (ww earlier later) e = absurd (false≢true e)
direct_wr (wr v) e = refl
direct_wr (rw earlier later) e = absurd (false≢true e)
direct_wr (process number) e = absurd (false≢true e)
direct_wr (realtime completion invocation) e = absurd (false≢true e)

rw_label : (label : Label) → is_rw_label label ≡ true → (earlier later : Version) × (label ≡ rw earlier later)
rw_label (ww earlier later) e = absurd (false≢true e)
rw_label (wr v) e = absurd (false≢true e)
rw_label (rw earlier later) e = (earlier, later, refl)
rw_label (process number) e = absurd (false≢true e)
rw_label (realtime completion invocation) e = absurd (false≢true e)

ww_is_no_order : (label : Label) → is_ww_label label ≡ true → is_order_label label ≡ false
ww_is_no_order (ww earlier later) e = refl
ww_is_no_order (wr v) e = absurd (false≢true e)
ww_is_no_order (rw earlier later) e = absurd (false≢true e)
ww_is_no_order (process number) e = absurd (false≢true e)
ww_is_no_order (realtime completion invocation) e = absurd (false≢true e)

wr_is_no_order : (label : Label) → is_wr_label label ≡ true → is_order_label label ≡ false
wr_is_no_order (ww earlier later) e = absurd (false≢true e)
wr_is_no_order (wr v) e = refl
wr_is_no_order (rw earlier later) e = absurd (false≢true e)
wr_is_no_order (process number) e = absurd (false≢true e)
wr_is_no_order (realtime completion invocation) e = absurd (false≢true e)

rw_is_no_order : (label : Label) → is_rw_label label ≡ true → is_order_label label ≡ false
rw_is_no_order (ww earlier later) e = absurd (false≢true e)
rw_is_no_order (wr v) e = absurd (false≢true e)
rw_is_no_order (rw earlier later) e = refl
rw_is_no_order (process number) e = absurd (false≢true e)
rw_is_no_order (realtime completion invocation) e = absurd (false≢true e)

directly_of_order : (level : Level) (label : Label) → is_order_label label ≡ true → includes_directly (kinds_of None level) label ≡ true
directly_of_order level (ww earlier later) e = absurd (false≢true e)
directly_of_order level (wr v) e = absurd (false≢true e)
directly_of_order level (rw earlier later) e = absurd (false≢true e)
directly_of_order level (process number) e = refl
directly_of_order level (realtime completion invocation) e = refl

-- an order edge, an rw edge, or a dependency edge with an arc of its own
abbrev IsOneOf : Label → Type 0
IsOneOf label =
    (is_order_label label ≡ true) ⊎ ((is_rw_label label ≡ true) ⊎ ((is_order_label label ≡ false) × (not (is_rw_label label) ≡ true)))

one_of : (label : Label) → IsOneOf label
one_of (ww earlier later) = inr (inr (refl, refl))
one_of (wr v) = inr (inr (refl, refl))
one_of (rw earlier later) = inr (inl refl)
one_of (process number) = inl refl
one_of (realtime completion invocation) = inl refl

included_at_plain : (kinds : Kinds) (label : Label) → includes kinds label ≡ true → includes (at_plain kinds) label ≡ true
included_at_plain kinds (ww earlier later) h = h
included_at_plain kinds (wr v) h = h
included_at_plain kinds (rw earlier later) h = h
included_at_plain kinds (process number) h = refl
included_at_plain kinds (realtime completion invocation) h = refl

abbrev pub is_dependency : Edge → Bool
is_dependency e = not (is_order e)

abbrev edge_by : ℕ → ℕ → Label → Edge
edge_by from to label = record { from = from; to = to; label = label }

abbrev inv : Parts → ℕ → ℕ
inv g place = (txn_at g.txns place).invocation

module _ (g : Parts) where
  abbrev edge_at : (from to : ℕ) → Label → Edge
  edge_at from to label = edge (txn_at g.txns from) (txn_at g.txns to) label

  at_places : (from to : ℕ) (e : Edge) → e.from ≡ inv g from → e.to ≡ inv g to → e ≡ edge_at from to e.label
  at_places from to e begins ends = ap (λ n. edge_by n e.to e.label) begins ∙ ap (λ n. edge_by (inv g from) n e.label) ends

  -- the places of a dependency edge's ends
  ends_of : (e : Edge) → Contains (dependency_edges g.keys g.txns) e → (from to : ℕ) × LeadsBetween g from to e
  ends_of e c =
      let (t, u, first, second, other, is, depends) = (edges_by_versions g.keys g.txns e).0 c in
      let (from, h, at) = place_by g.txns t (in_filter (is_node g.txns) t g.txns (in_from_Contains t (nodes g.txns) first)) in
      let (to, k, at') = place_by g.txns u (in_filter (is_node g.txns) u g.txns (in_from_Contains u (nodes g.txns) second)) in
      let invocation = λ (x : Transaction). x.invocation in (
        from,
        to,
        record {
          first = h;
          last = k;
          begins = ap (λ (d : Edge). d.from) is ∙ ap invocation (sym at);
          ends = ap (λ (d : Edge). d.to) is ∙ ap invocation (sym at');
        },
      )

  direct : (kinds : Kinds) (from to : ℕ) (e : Edge) → LeadsBetween g from to e → HasEdge g kinds.level e → includes_directly kinds e.label ≡ true → IsDirectArc g kinds from to
  direct kinds from to e leads has included =
      record {
        first = leads.first;
        last = leads.last;
        arc = (
          txn (txn_at g.txns from),
          txn (txn_at g.txns to),
          txn_vertex g from leads.first,
          txn_vertex g to leads.last,
          (e.label, subst (HasEdge g kinds.level) (at_places from to e leads.begins leads.ends) has, included),
        );
      }

  pub arc_of_ww : (level : Level) (e : Edge) → Contains (edges_in g level) e → is_ww e ≡ true → HasDirectArc g Ww e
  arc_of_ww level e c is =
      let d = dependency_of g level e c (ww_is_no_order e.label is) in
      let (from, to, leads) = ends_of e d in
      (from, to, leads, direct (kinds_of Ww Plain) from to e leads (inl d) (direct_ww e.label is))

  pub arc_of_wr : (level : Level) (e : Edge) → Contains (edges_in g level) e → is_wr e ≡ true → HasDirectArc g Wr e
  arc_of_wr level e c is =
      let d = dependency_of g level e c (wr_is_no_order e.label is) in
      let (from, to, leads) = ends_of e d in
      (from, to, leads, direct (kinds_of Wr Plain) from to e leads (inl d) (direct_wr e.label is))

  module _ (by_versions : RwByVersions g) where
    txn_contained : (place : ℕ) → IsPlace g.txns place → Contains g.txns (txn_at g.txns place)
    txn_contained place h = Contains_from_in (txn_at g.txns place) g.txns (txn_in g.txns place h)

    way : (kinds : Kinds) (from to : ℕ) (e : Edge) → kinds.rw ≡ true → LeadsBetween g from to e → Contains (dependency_edges g.keys g.txns) e → is_rw e ≡ true → (version : ℕ) × IsWayByVersion g kinds from version to
    way kinds from to e allowed leads c is =
        let ts = g.txns in
        let t = txn_at ts from in
        let u = txn_at ts to in
        let (x, y, label) = rw_label e.label is in
        let there : Contains (dependency_edges g.keys ts) (edge t u (rw x y)) =
        subst (Contains (dependency_edges g.keys ts)) (at_places from to e leads.begins leads.ends ∙ ap (edge_at from to) label) c in
        let (other, v, among, read, follows) = (by_versions t u (txn_contained from leads.first) (txn_contained to leads.last)).0 (x, y, there) in
        let (vertex, at) = version_vertex g v among in (
          vertex,
          record {
            first = leads.first;
            between = no_place g vertex v at;
            last = leads.last;
            other = λ same. other (ap (inv g) same);
            reads = (txn t, version v, txn_vertex g from leads.first, at, (allowed, read));
            follows = (version v, txn u, at, txn_vertex g to leads.last, (allowed, follows));
          },
        )

    pub way_of_rw : (level : Level) (e : Edge) → Contains (edges_in g level) e → is_rw e ≡ true → HasWayByVersion g Rw e
    way_of_rw level e c is =
        let d = dependency_of g level e c (rw_is_no_order e.label is) in
        let (from, to, leads) = ends_of e d in
        let (vertex, by) = way (kinds_of Rw Plain) from to e refl leads d is in
        (from, vertex, to, leads, by)

  -- ---- from arcs to edges

  pub edge_of_arc : (kinds : Kinds) (from to : ℕ) (x y : Vertex) → IsPlace g.txns from → IsPlace g.txns to → IsVertex g from x → IsVertex g to y → LeadsTo g kinds x y → HasEdgeBetween g kinds from to
  edge_of_arc kinds from to (txn t) (txn u) h k at at' (label, has, inc) =
      let e = edge t u label in (
        e,
        record {
          edge = record { among = (listed g kinds.level e).1 has; kind = (and_parts (includes kinds label) (not (is_rw_label label)) inc).0 };
          leads = record {
            first = h;
            last = k;
            begins = ap (λ (x : Transaction). x.invocation) (sym (txn_of g.txns from t at));
            ends = ap (λ (x : Transaction). x.invocation) (sym (txn_of g.txns to u at'));
          };
        },
      )
  edge_of_arc kinds from to (version v) y h k at at' leads = absurd (no_place g from v at h)
  edge_of_arc kinds from to (txn t) (version w) h k at at' leads = absurd (no_place g to w at' k)

  pub edge_of_direct : (kinds : Kinds) (from to : ℕ) → IsDirectArc g kinds from to → HasEdgeBetween g kinds from to
  edge_of_direct kinds from to is =
      let (x, y, at, at', leads) = is.arc in
      edge_of_arc kinds from to x y is.first is.last at at' leads

  -- what is read, and what follows it
  pub read_at : (kinds : Kinds) (from version' : ℕ) (x y : Vertex) → IsPlace g.txns from → (IsPlace g.txns version' → ⊥) → IsVertex g from x → IsVertex g version' y → LeadsTo g kinds x y
      → (v : Version) × IsVertex g version' (version v) × (kinds.rw ≡ true) × (is_known_to_read (txn_at g.txns from) v ≡ true)
  read_at kinds from vertex (txn t) (version v) h none at at' (allowed, read) =
      (v, at', allowed, subst (λ x. is_known_to_read x v ≡ true) (sym (txn_of g.txns from t at)) read)
  read_at kinds from vertex (txn t) (txn u) h none at at' leads = absurd (none (slice_get_within g.txns vertex u at'))
  read_at kinds from vertex (version v) y h none at at' leads = absurd (no_place g from v at h)

  pub follows_at : (kinds : Kinds) (vertex to : ℕ) (x y : Vertex) (v : Version) → IsPlace g.txns to → IsVertex g vertex (version v) → IsVertex g vertex x → IsVertex g to y → LeadsTo g kinds x y
      → Follows g.keys g.txns v (txn_at g.txns to)
  follows_at kinds vertex to (version w) (txn u) v k here at at' (allowed, follows) =
      subst (λ z. Follows g.keys g.txns v z) (sym (txn_of g.txns to u at')) (subst (λ z. Follows g.keys g.txns z u) (sym (one_version g vertex v w here at)) follows)
  follows_at kinds vertex to (version w) (version z) v k here at at' leads = absurd leads
  follows_at kinds vertex to (txn t) y v k here at at' leads = absurd (no_place g vertex v here (slice_get_within g.txns vertex t at))

  module _ (kept : AreOfHistory g.txns) (by_versions : RwByVersions g) (kinds : Kinds) where
    pub by_rw :
        (from to : ℕ) (v : Version) → IsPlace g.txns from → IsPlace g.txns to → (from ≡ to → ⊥) → Contains g.versions v → kinds.rw ≡ true
        → is_known_to_read (txn_at g.txns from) v ≡ true → Follows g.keys g.txns v (txn_at g.txns to) → HasEdgeBetween g kinds from to
    by_rw from to v h k other among allowed read follows =
        let t = txn_at g.txns from in
        let u = txn_at g.txns to in
        let apart : t.invocation ≡ u.invocation → ⊥ = λ same. other (one_place g.txns kept from to h k same) in
        let (x, y, c) = (by_versions t u (txn_contained by_versions from h) (txn_contained by_versions to k)).1 (apart, v, among, read, follows) in
        let e = edge t u (rw x y) in (
          e,
          record {
            edge = record { among = (listed g kinds.level e).1 (inl c); kind = allowed };
            leads = record { first = h; last = k; begins = refl; ends = refl };
          },
        )

    pub contained : (vertex : ℕ) (v : Version) → IsVertex g vertex (version v) → Contains g.versions v
    contained vertex v (number, is, at) = (number, slice_get_within g.versions number v at, get_or_from_slice_get g.versions number v v at)

    pub edge_of_way : (from vertex to : ℕ) → IsWayByVersion g kinds from vertex to → HasEdgeBetween g kinds from to
    edge_of_way from vertex to is =
        let (x, y, at, at', leads) = is.reads in
        let (v, here, allowed, read) = read_at kinds from vertex x y is.first is.between at at' leads in
        let (x', y', at'', at''', leads') = is.follows in
        let follows = follows_at kinds vertex to x' y' v is.last here at'' at''' leads' in
        by_rw from to v is.first is.last is.other (contained vertex v here) allowed read follows

    -- ---- walks over the arcs of edges

    second_place : (e : Edge) → HasEdge g kinds.level e → (to : ℕ) × IsPlace g.txns to × (e.to ≡ inv g to)
    second_place e (inl c) = let (from, to, leads) = ends_of e c in (to, leads.last, leads.ends)
    second_place e (inr (c, (u, node, to))) =
        let (place, h, at) = place_by g.txns u (in_filter (is_node g.txns) u g.txns (in_from_Contains u (nodes g.txns) node)) in
        (place, h, to ∙ ap (λ (x : Transaction). x.invocation) (sym at))

    rw_allowed : (label : Label) → is_rw_label label ≡ true → includes kinds label ≡ true → kinds.rw ≡ true
    rw_allowed (ww earlier later) e h = absurd (false≢true e)
    rw_allowed (wr v) e h = absurd (false≢true e)
    rw_allowed (rw earlier later) e h = h
    rw_allowed (process number) e h = absurd (false≢true e)
    rw_allowed (realtime completion invocation) e h = absurd (false≢true e)

    abbrev Free : ℕ → ℕ → Type 0
    Free = IsFree g kinds

    abbrev Paid : ℕ → ℕ → Type 0
    Paid = IsPaid g kinds

    -- with one more to pay where the edge is a dependency
    abbrev GoesOn : (from to : ℕ) → Edge → Type 0
    GoesOn from to e =
        (most last : ℕ) (rest : List ℕ)
        → LeadsWithin Free Paid most to rest last
        → (rest' : List ℕ) × LeadsWithin Free Paid (one_if (is_dependency e) + most) from rest' last

    one_step : (from : ℕ) (e : Edge) → IsPlace g.txns from → e.from ≡ inv g from → IsEdgeOf g kinds e → (to : ℕ) × IsPlace g.txns to × (e.to ≡ inv g to) × GoesOn from to e
    one_step from e h begins of =
        let has = (listed g kinds.level e).0 of.among in
        let (to, k, ends) = second_place e has in
        let leads : LeadsBetween g from to e = record { first = h; last = k; begins = begins; ends = ends } in
        elim (one_of e.label) [
          | inl is ↦ (
              let arc = direct (kinds_of None kinds.level) from to e leads has (directly_of_order kinds.level e.label is) in
              let none : (most : ℕ) → one_if (is_dependency e) + most ≡ most = λ most. ap (λ b. one_if (not b) + most) is ∙ omega arith in
              (to, k, ends, (λ most last rest on. (to ∷ rest, inl (inl arc.arc, subst (λ n. LeadsWithin Free Paid n to rest last) (sym (none most)) on)))))
          | inr others ↦ elim others [
            | inl is ↦ (
                let other = rw_is_no_order e.label is in
                let c = dependency_of g kinds.level e of.among other in
                let (vertex, by) = way by_versions (at_plain kinds) from to e (rw_allowed e.label is of.kind) leads c is in
                let one : (most : ℕ) → one_if (is_dependency e) + most ≡ suc most = λ most. ap (λ b. one_if (not b) + most) other ∙ omega arith in
                (to, k, ends, (λ most last rest on. (vertex ∷ to ∷ rest, inr (most, one most, (h, by.reads), inl (inr (by.between, by.follows), on))))))
            | inr (other, no_rw) ↦ (
                let c = dependency_of g kinds.level e of.among other in
                let arc = direct (at_plain kinds) from to e leads (inl c) (and_from (includes (at_plain kinds) e.label) (not (is_rw_label e.label)) (included_at_plain kinds e.label of.kind) no_rw) in
                let one : (most : ℕ) → one_if (is_dependency e) + most ≡ suc most = λ most. ap (λ b. one_if (not b) + most) other ∙ omega arith in
                (to, k, ends, (λ most last rest on. (to ∷ rest, inr (most, one most, (h, arc.arc), on)))))
          ]
        ]

    cheap_from :
        (es : List Edge) (from to : ℕ) → IsPlace g.txns from → IsPlace g.txns to → Leads (inv g from) es (inv g to)
        → AllByRecursion (λ e. Contains (edges_in g kinds.level) e) es → AllByRecursion (λ (e : Edge). includes kinds e.label ≡ true) es
        → (most : ℕ) → dependencies_in es ≤ most → (rest : List ℕ) × LeadsWithin Free Paid most from rest to
    cheap_from [] from to h k leads among of most few = ([], one_place g.txns kept from to h k leads)
    cheap_from (e ∷ es) from to h k (begins, leads) (a, among) (o, of) most few =
        let (next, l, ends, go) = one_step from e h begins (record { among = a; kind = o }) in
        let cost = one_if (is_dependency e) in
        let count = count-cons is_dependency e es in
        let fewer : dependencies_in es ≤ most - cost = omega (arith, count, few) in
        let whole : cost + (most - cost) ≡ most = omega (arith, count, few) in
        let (rest, on) = cheap_from es next to l k (subst (λ n. Leads n es (inv g to)) ends leads) among of (most - cost) fewer in
        let (rest', leads') = go (most - cost) to rest on in
        (rest', subst (λ n. LeadsWithin Free Paid n from rest' to) whole leads')

    pub cheap_over :
        (from to : ℕ) → IsPlace g.txns from → IsPlace g.txns to → (es : List Edge) → AreEdgesBetween g kinds from to es
        → (most : ℕ) → dependencies_in es ≤ most → (rest : List ℕ) × LeadsWithin Free Paid most from rest to
    cheap_over from to h k es are =
        cheap_from es from to h k are.leads (recursion_from_All (λ e. Contains (edges_in g kinds.level) e) es are.among)
        (recursion_from_All (λ (e : Edge). includes kinds e.label ≡ true) es are.of_kinds)

    pub walk_over : (from to : ℕ) → IsPlace g.txns from → IsPlace g.txns to → (es : List Edge) → AreEdgesBetween g kinds from to es → HasWalkBetween g kinds from to
    walk_over from to h k es are =
        let count = dependencies_in es in
        let (rest, leads) = cheap_over from to h k es are count (omega arith) in
        (from ∷ rest, record { first = h; last = k; steps = walk_of g kinds count from rest to leads })
