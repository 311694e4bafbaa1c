-- The arcs that are laid out are those of the graph.
use Rattle.std.proofs.Common.{◌≡◌, ◌↔◌, ◌∙◌, ◌<◌, ◌+◌, ◌-◌, ◌⊎◌, inl, inr, ℕ, List, [], ◌++◌, length, get_or, true, not, Some, Contains, refl, sym, ap, subst, arith}
use Rattle.std.proofs.lemmas.Bool.{false≢true, and_parts, and_from, cases_lt}
use Rattle.std.proofs.lemmas.List.{get_or_default}
use Rattle.std.proofs.lemmas.Option.{slice_get_within, get_or_from_slice_get}
use Rattle.hist_types.specs.declared.types.KeyOrder.{KeyOrder}
use Rattle.hist_types.specs.Edges.{Label, ww, wr, rw, process, realtime, edge, dependency_edges}
use Rattle.hist_types.specs.Phenomena.{is_rw_label}
use Rattle.hist_types.specs.Transactions.{Transaction, Version, is_known_to_read, installs, is_node, nodes}
use Rattle.hist_types.specs.declared.types.Level.{Level}
use Rattle.hist_types.proofs.Members.{In, in_from_Contains, Contains_from_in, in_front, in_back, in_append, in_filtered, passes_filter}
use Rattle.key_versions.specs.Tables.{Table, IsTableOf}
use Rattle.order_frontier.specs.Predecessors.{Before}
use Rattle.dep_edges.specs.Histories.{AreOfHistory, History}
use Rattle.dep_edges.specs.Tables.{IsNumber, txn_at, version_at}
use Rattle.edge_graph.specs.FlatRows.{Row, row_at, led_to}
use Rattle.edge_graph.specs.Kinds.{includes, has_ww, has_wr, has_rw, kinds_of}
use Rattle.edge_graph.specs.LaidOut.{nodes_behind, IsTxnRow, AreRows}
use Rattle.edge_graph.specs.Made.{joined, AreWithin, IsMade}
use Rattle.edge_graph.specs.Parts.{Parts, IsOrderOf, HasEdge}
use Rattle.edge_graph.specs.Successors.{Turned, list_at, lists_at}
use Rattle.edge_graph.specs.Vertices.{Vertex, txn, version, IsVertex, LeadsDirectly, LeadsTo, IsArc, AreArcs, HasRw, LeadsByVersion}
use Rattle.edge_graph.specs.declared.types.Dependencies.{Dependencies}
use Rattle.edge_graph.specs.declared.types.Dependencies.TheVariants.{None, Ww, Wr, Rw, WrAndWw, All as AllOfThem}
use Rattle.edge_graph.specs.declared.types.Kinds.{Kinds}
use Rattle.edge_graph.proofs.EdgesOut.{IsOrderLabel, order_label, order_included}
use Rattle.edge_graph.proofs.Joined.{length-joined, joined_at}
use Rattle.edge_graph.proofs.Leading.{dependency_from, dependency_to, wr_from, wr_to, ww_from, ww_to, follower_from, follower_to, read_vertex, vertex_read, read_number}
use Rattle.edge_graph.proofs.OrderTo.{order_from, order_to, later_from, later_to, none_past}
use Rattle.edge_graph.proofs.Ordered.{in_at}
use Rattle.edge_graph.proofs.Txns.{txn_there, txn_of, txn_in, place_by, one_place, version_there, version_of_number, reader_is_node}

-- ---- by kind

led_from : (d : Dependencies) (row : Row) (w : ℕ) → In w (led_to d row) → ((has_rw d ≡ true) × In w row.rw) ⊎ (((has_wr d ≡ true) × In w row.wr) ⊎ ((has_ww d ≡ true) × In w row.ww))
led_from None row w i = absurd i
led_from Ww row w i = inr (inr (refl, i))
led_from Wr row w i = inr (inl (refl, i))
led_from Rw row w i = inl (refl, i)
led_from WrAndWw row w i = elim (in_append w row.wr row.ww i) [ inl j ↦ inr (inl (refl, j)) | inr j ↦ inr (inr (refl, j)) ]
led_from AllOfThem row w i =
    elim (in_append w row.rw (row.wr ++ row.ww) i) [
      | inl j ↦ inl (refl, j)
      | inr j ↦ elim (in_append w row.wr row.ww j) [ inl k ↦ inr (inl (refl, k)) | inr k ↦ inr (inr (refl, k)) ]
    ]

led_by_rw : (d : Dependencies) (row : Row) (w : ℕ) → has_rw d ≡ true → In w row.rw → In w (led_to d row)
led_by_rw None row w e i = absurd (false≢true e)
led_by_rw Ww row w e i = absurd (false≢true e)
led_by_rw Wr row w e i = absurd (false≢true e)
led_by_rw Rw row w e i = i
led_by_rw WrAndWw row w e i = absurd (false≢true e)
led_by_rw AllOfThem row w e i = in_front w row.rw (row.wr ++ row.ww) i

led_by_wr : (d : Dependencies) (row : Row) (w : ℕ) → has_wr d ≡ true → In w row.wr → In w (led_to d row)
led_by_wr None row w e i = absurd (false≢true e)
led_by_wr Ww row w e i = absurd (false≢true e)
led_by_wr Wr row w e i = i
led_by_wr Rw row w e i = absurd (false≢true e)
led_by_wr WrAndWw row w e i = in_front w row.wr row.ww i
led_by_wr AllOfThem row w e i = in_back w row.rw (row.wr ++ row.ww) (in_front w row.wr row.ww i)

led_by_ww : (d : Dependencies) (row : Row) (w : ℕ) → has_ww d ≡ true → In w row.ww → In w (led_to d row)
led_by_ww None row w e i = absurd (false≢true e)
led_by_ww Ww row w e i = i
led_by_ww Wr row w e i = absurd (false≢true e)
led_by_ww Rw row w e i = absurd (false≢true e)
led_by_ww WrAndWw row w e i = in_back w row.wr row.ww i
led_by_ww AllOfThem row w e i = in_back w row.rw (row.wr ++ row.ww) (in_back w row.wr row.ww i)

no_rw : (label : Label) → IsOrderLabel label → not (is_rw_label label) ≡ true
no_rw (ww earlier later) is = absurd is
no_rw (wr v) is = absurd is
no_rw (rw earlier later) is = absurd is
no_rw (process number) is = refl
no_rw (realtime completion invocation) is = refl

module _ (deps history : History) (order : List Before) (rows : List Row) (turned : Turned) (made : IsMade deps history order rows turned) where
  abbrev ts : List Transaction
  ts = history.txns

  abbrev table : Table
  table = history.table

  abbrev keys : KeyOrder
  keys = table.keys

  abbrev kept : AreOfHistory ts
  kept = made.kept

  abbrev told : IsTableOf keys ts table
  told = made.versions

  abbrev ordered : IsOrderOf ts order
  ordered = made.ordered

  abbrev are : AreRows ts table rows
  are = made.rows

  abbrev parts : Parts
  parts = record { keys = keys; txns = ts; order = order; versions = table.versions }

  -- ---- the vertex of a transaction

  txn_vertex : (place : ℕ) → place < length ts → IsVertex parts place (txn (txn_at ts place))
  txn_vertex place h = txn_there ts place h

  version_vertex : (number : ℕ) → IsNumber table number → IsVertex parts (length ts + number) (version (version_at table number))
  version_vertex number h = (number, refl, version_there table number h)

  module _ (d : Dependencies) (level : Level) where
    abbrev kinds : Kinds
    kinds = kinds_of d level

    abbrev later : ℕ → List ℕ
    later place = list_at (lists_at level turned) place

    directly : (t u : Transaction) (label : Label) → HasEdge parts level (edge t u label) → includes kinds label ≡ true → not (is_rw_label label) ≡ true → LeadsDirectly parts kinds t u
    directly t u label has included other = (label, has, and_from (includes kinds label) (not (is_rw_label label)) included other)

    -- ---- each arc is one of the graph

    dependency_arc : (v w : ℕ) → v < length ts → In w (led_to d (row_at rows v)) → IsArc parts kinds v w
    dependency_arc v w h i =
        let t = txn_at ts v in
        let row : IsTxnRow ts table v (row_at rows v) = are.txns v h in
        elim (led_from d (row_at rows v) w i) [
          | inl by_rw ↦ (
              let (number, is, within, read) = read_vertex keys ts kept table told t (row_at rows v).rw row.rw w by_rw.1 in
              (txn t, version (version_at table number), txn_vertex v h, (number, is, version_there table number within), (by_rw.0, read)))
          | inr others ↦ elim others [
            | inl by_wr ↦ (
                let (k, x, c) = wr_from keys ts kept v w h (subst (In w) row.wr by_wr.1) in
                (txn t, txn (txn_at ts w), txn_vertex v h, txn_vertex w k, directly t (txn_at ts w) (wr x) (inl c) by_wr.0 refl))
            | inr by_ww ↦ (
                let (k, x, y, c) = ww_from keys ts kept v w h (subst (In w) row.ww by_ww.1) in
                (txn t, txn (txn_at ts w), txn_vertex v h, txn_vertex w k, directly t (txn_at ts w) (ww x y) (inl c) by_ww.0 refl))
          ]
        ]

    order_arc : (v w : ℕ) → v < length ts → In w (later v) → IsArc parts kinds v w
    order_arc v w h i =
        let t = txn_at ts v in
        let u = txn_at ts w in
        let (k, successor) = later_from ts order kept ordered turned made.orders level v w h i in
        let (label, known, c, one, whole) = order_from ts order kept ordered level v w h k successor in
        let is = order_label level t u.invocation label known in
        (txn t, txn u, txn_vertex v h, txn_vertex w k, directly t u label (inr (c, one)) (order_included kinds label is) (no_rw label is))

    version_arc : (number w : ℕ) → IsNumber table number → In w (led_to d (row_at rows (length ts + number))) → IsArc parts kinds (length ts + number) w
    version_arc number w h i =
        let x = version_at table number in
        elim (led_from d (row_at rows (length ts + number)) w i) [
          | inl by_rw ↦ (
              let (k, node, y, paired, installed) = follower_from keys ts kept x w (subst (λ (row : Row). In w row.rw) (are.versions number h) by_rw.1) in
              (version x, txn (txn_at ts w), version_vertex number h, txn_vertex w k, (by_rw.0, (node, y, paired, installed))))
          | inr others ↦ elim others [
            | inl by_wr ↦ absurd (subst (λ (row : Row). In w row.wr) (are.versions number h) by_wr.1)
            | inr by_ww ↦ absurd (subst (λ (row : Row). In w row.ww) (are.versions number h) by_ww.1)
          ]
        ]

    arc_from : (v w : ℕ) → v < length rows → In w (led_to d (row_at rows v) ++ later v) → IsArc parts kinds v w
    arc_from v w h i =
        elim (cases_lt v (length ts)) [
          | inl low ↦
              elim (in_append w (led_to d (row_at rows v)) (later v) i) [ inl j ↦ dependency_arc v w low j | inr j ↦ order_arc v w low j ]
          | inr high ↦ (
              let at : length ts + (v - length ts) ≡ v = omega (arith, high) in
              let within : IsNumber table (v - length ts) = omega (arith, h, are.count, high) in
              elim (in_append w (led_to d (row_at rows v)) (later v) i) [
                | inl j ↦
                    subst (λ n. IsArc parts kinds n w) at
                    (version_arc (v - length ts) w within (subst (λ n. In w (led_to d (row_at rows n))) (sym at) j))
                | inr j ↦
                    absurd (subst (In w) (none_past ts order kept ordered turned made.orders level v (omega (arith, high))) j)
              ])
        ]

    -- ---- each arc of the graph is there

    direct_dependency :
        (v w : ℕ) (label : Label) → v < length ts → w < length ts → Contains (dependency_edges keys ts) (edge (txn_at ts v) (txn_at ts w) label)
        → includes kinds label ≡ true → not (is_rw_label label) ≡ true → In w (led_to d (row_at rows v))
    direct_dependency v w (ww x y) h k c included other =
        led_by_ww d (row_at rows v) w included (subst (In w) (sym (are.txns v h).ww) (ww_to keys ts kept v w x y h k c))
    direct_dependency v w (wr x) h k c included other =
        led_by_wr d (row_at rows v) w included (subst (In w) (sym (are.txns v h).wr) (wr_to keys ts kept v w x h k c))
    direct_dependency v w (rw x y) h k c included other = absurd (false≢true other)
    direct_dependency v w (process number) h k c included other =
        absurd (dependency_from keys ts kept (txn_at ts v) (txn_at ts w) (process number) (txn_in ts v h) (txn_in ts w k) c).depends
    direct_dependency v w (realtime completion invocation) h k c included other =
        absurd (dependency_from keys ts kept (txn_at ts v) (txn_at ts w) (realtime completion invocation) (txn_in ts v h) (txn_in ts w k) c).depends

    direct_arc : (v w : ℕ) → v < length ts → w < length ts → LeadsDirectly parts kinds (txn_at ts v) (txn_at ts w) → In w (led_to d (row_at rows v) ++ later v)
    direct_arc v w h k (label, has, inc) =
        let t = txn_at ts v in
        let u = txn_at ts w in
        let (included, other) = and_parts (includes kinds label) (not (is_rw_label label)) inc in
        elim has [
          | inl c ↦ in_front w (led_to d (row_at rows v)) (later v) (direct_dependency v w label h k c included other)
          | inr c ↦ (
              let (next, l, to, successor, i) = order_to ts order kept ordered level v (edge t u label) h c.0 c.1 refl in
              let one : next ≡ w = one_place ts kept next w l k (sym to) in
              in_back w (led_to d (row_at rows v)) (later v)
              (subst (λ n. In n (later v)) one (later_to ts order kept ordered turned made.orders level v next h l successor)))
        ]

    abbrev Arrives : ℕ → ℕ → Type 0
    Arrives v w = (v < length rows) × In w (led_to d (row_at rows v) ++ later v)

    arc_to : (v w : ℕ) (x y : Vertex) → IsVertex parts v x → IsVertex parts w y → LeadsTo parts kinds x y → Arrives v w
    arc_to v w (txn t) (txn u) at at' leads =
        let h = slice_get_within ts v t at in
        let k = slice_get_within ts w u at' in (
          omega (arith, h, are.count),
          direct_arc v w h k
              (subst (λ x. LeadsDirectly parts kinds x (txn_at ts w)) (sym (txn_of ts v t at)) (subst (λ x. LeadsDirectly parts kinds t x) (sym (txn_of ts w u at')) leads)),
        )
    arc_to v w (txn t) (version x) at (number, is, at') (allowed, read) =
        let h = slice_get_within ts v t at in
        let k = slice_get_within table.versions number x at' in
        let there =
        vertex_read keys ts kept table told (txn_at ts v) (row_at rows v).rw (are.txns v h).rw number k
        (subst (λ u. is_known_to_read u (version_at table number) ≡ true) (sym (txn_of ts v t at)) (subst (λ y. is_known_to_read t y ≡ true) (sym (version_of_number table number x at')) read)) in (
          omega (arith, h, are.count),
          subst (λ n. In n (led_to d (row_at rows v) ++ later v)) (sym is)
              (in_front (length ts + number) (led_to d (row_at rows v)) (later v) (led_by_rw d (row_at rows v) (length ts + number) allowed there)),
        )
    arc_to v w (version x) (txn u) (number, is, at) at' (allowed, (node, y, paired, installed)) =
        let k = slice_get_within ts w u at' in
        let h = slice_get_within table.versions number x at in
        let one : txn_at ts w ≡ u = txn_of ts w u at' in
        let same : version_at table number ≡ x = version_of_number table number x at in
        let there : In w (nodes_behind keys ts (version_at table number)) =
        subst (λ z. In w (nodes_behind keys ts z)) (sym same)
        (follower_to keys ts kept x y w k (subst (Contains (nodes ts)) (sym one) node) paired (subst (λ z. installs z y ≡ true) (sym one) installed)) in
        let row : In w (row_at rows (length ts + number)).rw = subst (λ (row : Row). In w row.rw) (sym (are.versions number h)) there in
        subst (λ n. Arrives n w) (sym is) (
          omega (arith, h, are.count),
          in_front w (led_to d (row_at rows (length ts + number))) (later (length ts + number)) (led_by_rw d (row_at rows (length ts + number)) w allowed row),
        )
    arc_to v w (version x) (version y) at at' leads = absurd leads

    -- ---- the whole

    abbrev all : List (List ℕ)
    all = joined d rows (lists_at level turned)

    pub arcs_out : AreArcs parts kinds all
    arcs_out =
        let long = length-joined d rows (lists_at level turned) in
        record {
          count = long ∙ are.count;
          arcs =
              λ v w. (
                λ (h, c).
                    let k : v < length rows = omega (arith, h, long) in
                    arc_from v w k (subst (In w) (joined_at d rows (lists_at level turned) v k) (in_from_Contains w (list_at all v) c)),
                λ (x, y, at, at', leads).
                    let there = arc_to v w x y at at' leads in (
                      omega (arith, there.0, long),
                      Contains_from_in w (list_at all v)
                          (subst (In w) (sym (joined_at d rows (lists_at level turned) v there.0)) there.1),
                    ),
              );
        }

    vertex_within : (w : ℕ) (y : Vertex) → IsVertex parts w y → w < length all
    vertex_within w (txn u) at = omega (arith, slice_get_within ts w u at, arcs_out.count)
    vertex_within w (version x) (number, is, at) = omega (arith, is, slice_get_within table.versions number x at, arcs_out.count)

    pub arcs_within : AreWithin all
    arcs_within v e h i f k =
        let same : list_at all v ≡ get_or all v e = get_or_default all v [] e h in
        let among : In (get_or (get_or all v e) i f) (list_at all v) = subst (In (get_or (get_or all v e) i f)) (sym same) (in_at (get_or all v e) i f k) in
        let w = get_or (get_or all v e) i f in
        let (x, y, at, at', leads) = (arcs_out.arcs v w).0 (h, Contains_from_in w (list_at all v) among) in
        vertex_within w y at'

  -- ---- rw edges, by way of versions

  pub rw_by_versions : (t u : Transaction) → Contains ts t → Contains ts u → HasRw keys ts t u ↔ LeadsByVersion parts t u
  rw_by_versions t u i j = (
    λ (x, y, c).
        let is = dependency_from keys ts kept t u (rw x y) (in_from_Contains t ts i) (in_from_Contains u ts j) c in
        let (paired, read, installed) = is.depends in
        let (place, h, at) = place_by ts t (in_from_Contains t ts i) in
        let (number, same, below) = named place h x (subst (λ v. is_known_to_read v x ≡ true) (sym at) read) in (
          is.other,
          x,
          (number, below, get_or_from_slice_get table.versions number x x (version_there table number below ∙ ap Some same)),
          read,
          (Contains_from_in u (nodes ts) (in_filtered (is_node ts) u ts (in_from_Contains u ts j) is.second), y, paired, installed),
        ),
    λ (other, x, there, read, (node, y, paired, installed)). (
      x,
      y,
      dependency_to keys ts kept t u (rw x y) (in_from_Contains t ts i) (in_from_Contains u ts j) (record {
        first = reader_is_node ts t x read;
        second = passes_filter (is_node ts) u ts (in_from_Contains u (nodes ts) node);
        other = other;
        depends = (paired, read, installed);
      }),
    ),
  )
    where
      -- a version that is read has a number
      named : (place : ℕ) → place < length ts → (x : Version) → is_known_to_read (txn_at ts place) x ≡ true → (number : ℕ) × (version_at table number ≡ x) × IsNumber table number
      named place h x read = read_number ts table (txn_at ts place) (row_at rows place).rw (are.txns place h).rw x read
