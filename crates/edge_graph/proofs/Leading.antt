-- Where a transaction leads: by wr and ww edges, by the order, and by way of versions.
use Rattle.std.proofs.Common.{◌≡◌, ◌∙◌, ◌<◌, ◌+◌, ℕ, List, [], length, filter, Bool, true, false, not, ◌==◌, if◌then◌else◌, Contains, refl, sym, ap, subst}
use Rattle.std.proofs.lemmas.Bool.{false≢true, and_parts, not-true, eqb-true, eqb-false}
use Rattle.hist_types.specs.Atoms.{atom_eq, value_eq}
use Rattle.history_laws.specs.Dependencies.{Depends}
use Rattle.hist_types.specs.Edges.{Label, ww, wr, Edge, edge, dependency_edges}
use Rattle.hist_types.specs.Transactions.{Transaction, Version, installed_by, is_known_to_read, installs, is_node, nodes}
use Rattle.hist_types.specs.Versions.{VersionPair, process_pairs, pair, is_change, version_pairs}
use Rattle.hist_types.specs.declared.types.KeyOrder.{KeyOrder}
use Rattle.history_laws.proofs.DependencyEdges.{edges_by_versions}
use Rattle.hist_types.proofs.Equality.{value_eq-itself}
use Rattle.hist_types.proofs.Members.{In, in_from_Contains, Contains_from_in, in_each, in_some, in_mapped, in_map, in_filter, in_filtered, passes_filter}
use Rattle.history_laws.proofs.PrintedEdges.{one_installed}
use Rattle.history_laws.proofs.VersionMembers.{in_from_has, has_from_in}
use Rattle.key_versions.specs.Histories.{read_by, is_followed, installs_behind, readers_of}
use Rattle.key_versions.specs.Tables.{Table, IsTableOf}
use Rattle.dep_edges.specs.Histories.{AreOfHistory}
use Rattle.dep_edges.specs.Tables.{IsNumber, txn_at, version_at}
use Rattle.dep_edges.proofs.Out.{behind_makes_pair, pair_is_behind, one_by_invocation}
use Rattle.dep_edges.proofs.Places.{named_once, behind_key}
use Rattle.edge_graph.specs.LaidOut.{nodes_behind, readers_behind, writers_behind, if_node, AreVersionVertices}
use Rattle.edge_graph.proofs.Txns.{txn_in, one_place, reader_at, at_reader, node_behind, behind_node, read_from, read_to, reader_is_node}

-- a dependency edge from one transaction to another
pub record IsDependencyTo (keys : KeyOrder) (ts : List Transaction) (t u : Transaction) (label : Label) : Type 0 where
  pub first : is_node ts t ≡ true
  pub second : is_node ts u ≡ true
  pub other : ¬ (t.invocation ≡ u.invocation)
  pub depends : Depends keys ts t u label

if_node_parts : (node : Bool) (place : ℕ) (places : List ℕ) → In place (if node then places else []) → (node ≡ true) × In place places
if_node_parts true place places i = (refl, i)
if_node_parts false place places i = absurd i

if_node_from : (node : Bool) (place : ℕ) (places : List ℕ) → node ≡ true → In place places → In place (if node then places else [])
if_node_from node place places e i = subst (λ b. In place (if b then places else [])) (sym e) i

-- a version isn't behind itself
behind_is_other : (steps : List VersionPair) (u : Transaction) (v w : Version) → In w (installs_behind steps u v) → ¬ (v ≡ w)
behind_is_other steps u v w i same =
    let followed = passes_filter (is_followed steps u v) w (installed_by u) i in
    let change = (and_parts _ (is_change (pair v w)) followed).1 in
    let apart = (and_parts (atom_eq v.key w.key) (not (value_eq v.value w.value)) change).1 in
    false≢true (sym (not-true (value_eq v.value w.value) apart) ∙ subst (λ (x : Version). value_eq v.value x.value ≡ true) same (value_eq-itself v.value))

behind_is_installed : (steps : List VersionPair) (u : Transaction) (v w : Version) → In w (installs_behind steps u v) → installs u w ≡ true
behind_is_installed steps u v w i = has_from_in w (installed_by u) (in_filter (is_followed steps u v) w (installed_by u) i)

module _ (keys : KeyOrder) (ts : List Transaction) (kept : AreOfHistory ts) where
  pub dependency_from :
      (t u : Transaction) (label : Label) → In t ts → In u ts → Contains (dependency_edges keys ts) (edge t u label) → IsDependencyTo keys ts t u label
  dependency_from t u label i j c =
      let (t', u', first, second, other, is, depends) = (edges_by_versions keys ts (edge t u label)).0 c in
      let i' = in_from_Contains t' (nodes ts) first in
      let j' = in_from_Contains u' (nodes ts) second in
      let one : t' ≡ t = one_by_invocation ts kept t' t (in_filter (is_node ts) t' ts i') i (sym (ap (λ (e : Edge). e.from) is)) in
      let two : u' ≡ u = one_by_invocation ts kept u' u (in_filter (is_node ts) u' ts j') j (sym (ap (λ (e : Edge). e.to) is)) in
      record {
        first = ap (is_node ts) (sym one) ∙ passes_filter (is_node ts) t' ts i';
        second = ap (is_node ts) (sym two) ∙ passes_filter (is_node ts) u' ts j';
        other = λ same. other (ap (λ (x : Transaction). x.invocation) one ∙ same ∙ ap (λ (x : Transaction). x.invocation) (sym two));
        depends = subst (λ (x : Transaction). Depends keys ts x u label) one (subst (λ (x : Transaction). Depends keys ts t' x label) two depends);
      }

  pub dependency_to :
      (t u : Transaction) (label : Label) → In t ts → In u ts → IsDependencyTo keys ts t u label → Contains (dependency_edges keys ts) (edge t u label)
  dependency_to t u label i j is =
      (edges_by_versions keys ts (edge t u label)).1 (
        t,
        u,
        Contains_from_in t (nodes ts) (in_filtered (is_node ts) t ts i is.first),
        Contains_from_in u (nodes ts) (in_filtered (is_node ts) u ts j is.second),
        is.other,
        refl,
        is.depends,
      )

  -- ---- wr

  pub wr_from :
      (p q : ℕ) → p < length ts → In q (if_node ts p (readers_behind ts p))
      → (q < length ts) × (v : Version) × Contains (dependency_edges keys ts) (edge (txn_at ts p) (txn_at ts q) (wr v))
  wr_from p q h i =
      let t = txn_at ts p in
      let u = txn_at ts q in
      let (node, among) = if_node_parts (is_node ts t) q (readers_behind ts p) i in
      let (v, installed, j) = in_some (λ v. filter (λ n. not (n == p)) (readers_of ts v)) q (installed_by t) among in
      let (k, read) = reader_at ts v q (in_filter (λ n. not (n == p)) q (readers_of ts v) j) in
      let apart : (q == p) ≡ false = not-true (q == p) (passes_filter (λ n. not (n == p)) q (readers_of ts v) j) in (
        k,
        v,
        dependency_to t u (wr v) (txn_in ts p h) (txn_in ts q k) (record {
          first = node;
          second = reader_is_node ts u v read;
          other = λ same. eqb-false q p apart (sym (one_place ts kept p q h k same));
          depends = (has_from_in v (installed_by t) installed, read);
        }),
      )

  pub wr_to :
      (p q : ℕ) (v : Version) → p < length ts → q < length ts → Contains (dependency_edges keys ts) (edge (txn_at ts p) (txn_at ts q) (wr v))
      → In q (if_node ts p (readers_behind ts p))
  wr_to p q v h k c =
      let t = txn_at ts p in
      let u = txn_at ts q in
      let is = dependency_from t u (wr v) (txn_in ts p h) (txn_in ts q k) c in
      let apart : not (q == p) ≡ true =
      differ (q == p) (λ e. is.other (ap (λ n. (txn_at ts n).invocation) (sym (eqb-true q p e)))) in
      if_node_from (is_node ts t) q (readers_behind ts p) is.first
      (in_each (λ v. filter (λ n. not (n == p)) (readers_of ts v)) q v (installed_by t) (in_from_has v (installed_by t) is.depends.0)
      (in_filtered (λ n. not (n == p)) q (readers_of ts v) (at_reader ts v q k is.depends.1) apart))
    where
      differ : (b : Bool) → (b ≡ true → ⊥) → not b ≡ true
      differ true none = absurd (none refl)
      differ false none = refl

  -- ---- ww

  pub ww_from :
      (p q : ℕ) → p < length ts → In q (if_node ts p (writers_behind keys ts p))
      → (q < length ts) × (v w : Version) × Contains (dependency_edges keys ts) (edge (txn_at ts p) (txn_at ts q) (ww v w))
  ww_from p q h i =
      let t = txn_at ts p in
      let u = txn_at ts q in
      let (node, among) = if_node_parts (is_node ts t) q (writers_behind keys ts p) i in
      let (v, installed, j) = in_some (nodes_behind keys ts) q (installed_by t) among in
      let (w, k, node', behind) = node_behind keys ts v q j in
      let first : installs t v ≡ true = has_from_in v (installed_by t) installed in
      let second : installs u w ≡ true = behind_is_installed (process_pairs keys ts) u v w behind in (
        k,
        v,
        w,
        dependency_to t u (ww v w) (txn_in ts p h) (txn_in ts q k) (record {
          first = node;
          second = node';
          other =
              λ same.
              let one : t ≡ u = one_by_invocation ts kept t u (txn_in ts p h) (txn_in ts q k) same in
              behind_is_other (process_pairs keys ts) u v w behind (one_installed u v w (subst (λ x. installs x v ≡ true) one first) second (sym (behind_key (process_pairs keys ts) u v w behind)));
          depends = (behind_makes_pair keys ts u v w (txn_in ts q k) node' behind, first, second);
        }),
      )

  pub ww_to :
      (p q : ℕ) (v w : Version) → p < length ts → q < length ts → Contains (dependency_edges keys ts) (edge (txn_at ts p) (txn_at ts q) (ww v w))
      → In q (if_node ts p (writers_behind keys ts p))
  ww_to p q v w h k c =
      let t = txn_at ts p in
      let u = txn_at ts q in
      let is = dependency_from t u (ww v w) (txn_in ts p h) (txn_in ts q k) c in
      let (paired, first, second) = is.depends in
      if_node_from (is_node ts t) q (writers_behind keys ts p) is.first
      (in_each (nodes_behind keys ts) q v (installed_by t) (in_from_has v (installed_by t) first)
      (behind_node keys ts v w q k is.second (pair_is_behind keys ts kept u v w (txn_in ts q k) second paired)))

  -- ---- versions

  pub follower_from :
      (v : Version) (q : ℕ) → In q (nodes_behind keys ts v)
      → (q < length ts) × Contains (nodes ts) (txn_at ts q) × (w : Version) × Contains (version_pairs keys ts) (pair v w) × (installs (txn_at ts q) w ≡ true)
  follower_from v q i =
      let u = txn_at ts q in
      let (w, k, node, behind) = node_behind keys ts v q i in (
        k,
        Contains_from_in u (nodes ts) (in_filtered (is_node ts) u ts (txn_in ts q k) node),
        w,
        behind_makes_pair keys ts u v w (txn_in ts q k) node behind,
        behind_is_installed (process_pairs keys ts) u v w behind,
      )

  pub follower_to :
      (v w : Version) (q : ℕ) → q < length ts → Contains (nodes ts) (txn_at ts q) → Contains (version_pairs keys ts) (pair v w) → installs (txn_at ts q) w ≡ true
      → In q (nodes_behind keys ts v)
  follower_to v w q k node paired installed =
      let u = txn_at ts q in
      behind_node keys ts v w q k (passes_filter (is_node ts) u ts (in_from_Contains u (nodes ts) node)) (pair_is_behind keys ts kept u v w (txn_in ts q k) installed paired)

  module _ (table : Table) (told : IsTableOf keys ts table) (t : Transaction) (vertices : List ℕ) (are : AreVersionVertices ts table (read_by t) vertices) where
    pub read_vertex : (w : ℕ) → In w vertices → (number : ℕ) × (w ≡ length ts + number) × IsNumber table number × (is_known_to_read t (version_at table number) ≡ true)
    read_vertex w i =
        let (numbers, is, versions, within) = are in
        let (k, among, same) = in_map (λ k. length ts + k) w numbers (subst (In w) is i) in
        let (j, h, at) = Contains_from_in k numbers among in (
          k,
          sym same,
          subst (IsNumber table) at (within j k h),
          read_from t (version_at table k) (subst (In (version_at table k)) versions (in_mapped (version_at table) k numbers among)),
        )

    pub vertex_read : (number : ℕ) → IsNumber table number → is_known_to_read t (version_at table number) ≡ true → In (length ts + number) vertices
    vertex_read number h read =
        let (numbers, is, versions, within) = are in
        let there = subst (In (version_at table number)) (sym versions) (read_to t (version_at table number) read) in
        let (k, among, same) = in_map (version_at table) (version_at table number) numbers there in
        let (j, below, at) = Contains_from_in k numbers among in
        let one : k ≡ number = named_once keys ts table told k number (subst (IsNumber table) at (within j k below)) h same in
        subst (In (length ts + number)) (sym is) (in_mapped (λ k. length ts + k) number numbers (subst (λ n. In n numbers) one among))

-- a version that is read has a number
pub read_number :
    (ts : List Transaction) (table : Table) (t : Transaction) (vertices : List ℕ) → AreVersionVertices ts table (read_by t) vertices
    → (x : Version) → is_known_to_read t x ≡ true
    → (number : ℕ) × (version_at table number ≡ x) × IsNumber table number
read_number ts table t vertices (numbers, is, versions, within) x read =
    let (k, among, same) = in_map (version_at table) x numbers (subst (In x) (sym versions) (read_to t x read)) in
    let (j, below, at) = Contains_from_in k numbers among in
    (k, same, subst (IsNumber table) at (within j k below))
