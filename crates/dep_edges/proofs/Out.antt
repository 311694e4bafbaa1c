-- The edges that are found out of a transaction are the dependency edges that leave it, each once.
use Rattle.std.proofs.Common.{◌≡◌, ℕ, List, [], ◌∷◌, ◌++◌, Bool, true, false, not, ◌||◌, ◌==◌, if◌then◌else◌, Some, None, map, flat_map, Contains, Result, Ok, Err, OnOk, refl, sym, ◌∙◌, ap, subst, inl, inr}
use Rattle.std.specs.Option.{is_none, is_some}
use Rattle.std.proofs.lemmas.Bool.{false≢true, and_parts, and_from, or_cases, or_left, or_right, eqb-false, false_from_ne_true, not-true}
use Rattle.hist_types.specs.Atoms.{Value, atom_eq, value_eq}
use Rattle.history_laws.specs.Dependencies.{Depends}
use Rattle.hist_types.specs.Edges.{Label, ww, wr, rw, process, realtime, Edge, edge, dependency_edges}
use Rattle.hist_types.specs.Journal.{Write, writes_of}
use Rattle.hist_types.specs.Phenomena.{is_rw_label, is_wr_label}
use Rattle.hist_types.specs.Transactions.{Transaction, Version, version_of, has_version, has_key, last_writes, external_reads, installed_by, is_known_to_read, installs, writes, is_ok, is_node, nodes, transactions_of}
use Rattle.hist_types.specs.Versions.{pair, nil_of, is_change, process_pairs, version_pairs}
use Rattle.hist_types.specs.declared.types.KeyOrder.{KeyOrder}
use Rattle.history_laws.proofs.DependencyEdges.{edges_by_versions}
use Rattle.hist_types.proofs.Equality.{atom_eq-same, atom_eq-itself, value_eq-same, value_eq-itself, same_version}
use Rattle.hist_types.proofs.Members.{In, in_from_Contains, Contains_from_in, in_front, in_back, in_append, in_each, in_some, in_map, in_filter, in_filtered, in_if, passes_filter}
use Rattle.history_laws.proofs.Processes.{told_apart}
use Rattle.history_laws.proofs.ThinningTimes.{timed_from}
use Rattle.history_laws.proofs.VersionMembers.{in_from_has, has_from_in, pairs_by_membership}
use Rattle.history_laws.proofs.WrittenOnce.{AreApart, apart_append, none_twice, all_apart, one_writer, nil_unwritten}
use Rattle.history_laws.proofs.ProcessPairs.{is_step_of}
use Rattle.key_versions.specs.Histories.{has_pair, read_by, is_followed, installs_behind}
use Rattle.dep_edges.specs.Histories.{AreOfHistory}
use Rattle.dep_edges.specs.OutEdges.{AreEdgesFrom, AddsEdgesFrom, edge_to, node_edge, reader_edges, later_edges, written_edges, read_edges, each_once, edges_out, leaving}
use Rattle.dep_edges.specs.Tables.{txn_at}
use Rattle.dep_edges.proofs.Apart.{apart_each, apart_filter, apart_if, apart_unless}
use Rattle.dep_edges.proofs.Places.{installed_written}
use Rattle.dep_edges.proofs.Steps.{pair_in, pair_there}

-- ---- one transaction by its invocation, and by what it writes

pub one_by_invocation : (ts : List Transaction) → AreOfHistory ts → (t u : Transaction) → In t ts → In u ts → t.invocation ≡ u.invocation → t ≡ u
one_by_invocation ts (events, kept, of) t u i j same =
    (timed_from 0 events).times.apart t u (subst (In t) of i) (subst (In u) of j) same

one_that_installs : (ts : List Transaction) → AreOfHistory ts → (t u : Transaction) (w : Version) → In t ts → In u ts → In w (installed_by t) → In w (installed_by u) → t ≡ u
one_that_installs ts (events, kept, of) t u w i j first second =
    one_writer events kept t u (Contains_from_in t (transactions_of events) (subst (In t) of i)) (Contains_from_in u (transactions_of events) (subst (In u) of j)) w
    (installed_written t w first) (installed_written u w second)

pub apart_of : (ts : List Transaction) → AreOfHistory ts → AreApart ts
apart_of ts (events, kept, of) = subst AreApart (sym of) (all_apart events)

-- ---- pairs of versions

differ : (v w : Version) → v.key ≡ w.key → ¬ (v ≡ w) → is_change (pair v w) ≡ true
differ v w same other =
    let apart : value_eq v.value w.value ≡ false = false_from_ne_true (value_eq v.value w.value) (λ e. other (same_version v w same (value_eq-same v.value w.value e))) in
    and_from (atom_eq v.key w.key) (not (value_eq v.value w.value)) (subst (λ k. atom_eq v.key k ≡ true) same (atom_eq-itself v.key)) (ap not apart)

is_nil : (value : Value) → is_none value ≡ true → value ≡ None
is_nil None e = refl
is_nil (Some a) e = elim (false≢true e) [ ]

-- what a node installs behind a version makes a pair with it
pub behind_makes_pair :
    (keys : KeyOrder) (ts : List Transaction) (u : Transaction) (v w : Version)
    → In u ts
    → is_node ts u ≡ true
    → In w (installs_behind (process_pairs keys ts) u v)
    → Contains (version_pairs keys ts) (pair v w)
behind_makes_pair keys ts u v w i node behind =
    let steps = process_pairs keys ts in
    let test = is_followed steps u v in
    let both = and_parts (has_pair steps (pair v w) || (is_none v.value || is_known_to_read u v)) (is_change (pair v w)) (passes_filter test w (installed_by u) behind) in
    let change = and_parts (atom_eq v.key w.key) (not (value_eq v.value w.value)) both.1 in
    let key : v.key ≡ w.key = atom_eq-same v.key w.key change.0 in
    let installed = has_from_in w (installed_by u) (in_filter test w (installed_by u) behind) in
    (pairs_by_membership keys ts (pair v w)).1 (elim (or_cases (has_pair steps (pair v w)) (is_none v.value || is_known_to_read u v) both.0) [
      | inl step ↦ inr (inr (Contains_from_in (pair v w) steps (pair_in steps v w step)))
      | inr other ↦ elim (or_cases (is_none v.value) (is_known_to_read u v) other) [
        | inl nil ↦ inl (same_version v (nil_of w.key) key (is_nil v.value nil), u, Contains_from_in u (nodes ts) (in_filtered (is_node ts) u ts i node), installed)
        | inr read ↦ inr (inl (
          key,
          λ same. false≢true (sym (not-true (value_eq v.value w.value) change.1) ∙ subst (λ (x : Version). value_eq v.value x.value ≡ true) same (value_eq-itself v.value)),
          u,
          Contains_from_in u ts i,
          read,
          installed,
        ))
      ]
    ])

pub pair_is_behind :
    (keys : KeyOrder) (ts : List Transaction)
    → AreOfHistory ts
    → (u : Transaction) (v w : Version)
    → In u ts
    → installs u w ≡ true
    → Contains (version_pairs keys ts) (pair v w)
    → In w (installs_behind (process_pairs keys ts) u v)
pair_is_behind keys ts of u v w i installed paired =
    let steps = process_pairs keys ts in
    let has = has_pair steps (pair v w) in
    let known = is_none v.value || is_known_to_read u v in
    let among : In w (installed_by u) = in_from_has w (installed_by u) installed in
    in_filtered (is_followed steps u v) w (installed_by u) among (elim ((pairs_by_membership keys ts (pair v w)).0 paired) [
      | inl first ↦ (
          let nil : v ≡ nil_of w.key = first.0 in
          let other : ¬ (v ≡ w) = λ same. nil_unwritten u w (installed_written u w among) (sym (ap (λ (x : Version). x.value) same) ∙ ap (λ (x : Version). x.value) nil) in
          and_from (has || known) (is_change (pair v w))
          (or_right has known (or_left (is_none v.value) (is_known_to_read u v) (ap (λ (x : Version). is_none x.value) nil)))
          (differ v w (ap (λ (x : Version). x.key) nil) other))
      | inr others ↦ elim others [
        | inl update ↦ (
            let (key, other, t, there, read, writes) = update in
            let one : t ≡ u = one_that_installs ts of t u w (in_from_Contains t ts there) i (in_from_has w (installed_by t) writes) among in
            and_from (has || known) (is_change (pair v w))
            (or_right has known (or_right (is_none v.value) (is_known_to_read u v) (subst (λ x. is_known_to_read x v ≡ true) one read)))
            (differ v w key other))
        | inr step ↦
            and_from (has || known) (is_change (pair v w))
            (or_left has known (pair_there steps (pair v w) (in_from_Contains (pair v w) steps step)))
            (and_parts (is_change (pair v w)) (is_some w.value) (is_step_of keys ts (pair v w) step)).0
      ]
    ])

-- ---- members of what is found

abbrev pub out : ℕ → Transaction → Label → Edge
out from u label = record { from = from; to = u.invocation; label = label }

-- an edge to a node other than the one that it leaves
pub record LeadsTo (ts : List Transaction) (from : ℕ) (u : Transaction) (label : Label) (e : Edge) : Type 0 where
  pub among : In u ts
  pub node : is_node ts u ≡ true
  pub other : (from == u.invocation) ≡ false
  pub is : e ≡ out from u label

one_unless : (node back : Bool) (d e : Edge) → In e (if node then (if back then [] else d ∷ []) else []) → (node ≡ true) × (back ≡ false) × (e ≡ d)
one_unless true true d e i = elim i [ ]
one_unless true false d e (inl same) = (refl, refl, sym same)
one_unless true false d e (inr i) = elim i [ ]
one_unless false back d e i = elim i [ ]

leads_from : (ts : List Transaction) (from : ℕ) (u : Transaction) (label : Label) (e : Edge) → In u ts → In e (node_edge ts from u label) → LeadsTo ts from u label e
leads_from ts from u label e i j =
    let (node, other, is) = one_unless (is_node ts u) (from == u.invocation) (out from u label) e j in
    record { among = i; node = node; other = other; is = is }

leads_to : (ts : List Transaction) (from : ℕ) (u : Transaction) (label : Label) → is_node ts u ≡ true → (from == u.invocation) ≡ false → In (out from u label) (node_edge ts from u label)
leads_to ts from u label node other =
    subst (λ b. In (out from u label) (if b then edge_to from u label else [])) (sym node)
    (subst (λ b. In (out from u label) (if b then [] else out from u label ∷ [])) (sym other) (inl refl))

in_then : {X : Type 0} (x : X) (test : Bool) (xs : List X) → test ≡ true → In x xs → In x (if test then xs else [])
in_then x test xs e i = subst (λ b. In x (if b then xs else [])) (sym e) i

pub reader_from :
    (ts : List Transaction) (from : ℕ) (v : Version) (e : Edge)
    → In e (reader_edges ts from v)
    → (u : Transaction) × (is_known_to_read u v ≡ true) × LeadsTo ts from u (wr v) e
reader_from ts from v e i =
    let (u, there, j) = in_some (λ (u : Transaction). if is_known_to_read u v then node_edge ts from u (wr v) else []) e ts i in
    let (read, k) = in_if e (is_known_to_read u v) (node_edge ts from u (wr v)) j in
    (u, read, leads_from ts from u (wr v) e there k)

pub later_from :
    (keys : KeyOrder) (ts : List Transaction) (from : ℕ) (label : Version → Label) (v : Version) (e : Edge)
    → In e (later_edges keys ts from label v)
    → (u : Transaction) × (w : Version) × In w (installs_behind (process_pairs keys ts) u v) × LeadsTo ts from u (label w) e
later_from keys ts from label v e i =
    let (u, there, j) = in_some (λ (u : Transaction). flat_map (λ w. node_edge ts from u (label w)) (installs_behind (process_pairs keys ts) u v)) e ts i in
    let (w, behind, k) = in_some (λ w. node_edge ts from u (label w)) e (installs_behind (process_pairs keys ts) u v) j in
    (u, w, behind, leads_from ts from u (label w) e there k)

reader_to :
    (ts : List Transaction) (from : ℕ) (v : Version) (u : Transaction)
    → In u ts
    → is_node ts u ≡ true
    → (from == u.invocation) ≡ false
    → is_known_to_read u v ≡ true
    → In (out from u (wr v)) (reader_edges ts from v)
reader_to ts from v u i node other read =
    in_each (λ (u : Transaction). if is_known_to_read u v then node_edge ts from u (wr v) else []) (out from u (wr v)) u ts i
    (in_then (out from u (wr v)) (is_known_to_read u v) (node_edge ts from u (wr v)) read (leads_to ts from u (wr v) node other))

later_to :
    (keys : KeyOrder) (ts : List Transaction) (from : ℕ) (label : Version → Label) (v w : Version) (u : Transaction)
    → In u ts
    → is_node ts u ≡ true
    → (from == u.invocation) ≡ false
    → In w (installs_behind (process_pairs keys ts) u v)
    → In (out from u (label w)) (later_edges keys ts from label v)
later_to keys ts from label v w u i node other behind =
    in_each (λ (u : Transaction). flat_map (λ w. node_edge ts from u (label w)) (installs_behind (process_pairs keys ts) u v)) (out from u (label w)) u ts i
    (in_each (λ w. node_edge ts from u (label w)) (out from u (label w)) w (installs_behind (process_pairs keys ts) u v) behind (leads_to ts from u (label w) node other))

-- ---- each version once

once_by : (again : Bool) (v w : Version) (rest vs : List Version) → (In w rest → In w vs) → In w (if again then rest else v ∷ rest) → In w (v ∷ vs)
once_by true v w rest vs f i = inr (f i)
once_by false v w rest vs f (inl e) = inl e
once_by false v w rest vs f (inr i) = inr (f i)

pub once_among : (vs : List Version) (w : Version) → In w (each_once vs) → In w vs
once_among [] w i = i
once_among (v ∷ vs) w i = once_by (has_version vs v) v w (each_once vs) vs (once_among vs w) i

again_to : (again : Bool) (v w : Version) (vs rest : List Version) → has_version vs v ≡ again → (In v vs → In v rest) → (In w vs → In w rest) → In w (v ∷ vs) → In w (if again then rest else v ∷ rest)
again_to true v w vs rest e first further (inl same) = subst (λ x. In x rest) same (first (in_from_has v vs e))
again_to true v w vs rest e first further (inr j) = further j
again_to false v w vs rest e first further (inl same) = inl same
again_to false v w vs rest e first further (inr j) = inr (further j)

pub among_once : (vs : List Version) (w : Version) → In w vs → In w (each_once vs)
among_once [] w i = i
among_once (v ∷ vs) w i = again_to (has_version vs v) v w vs (each_once vs) refl (among_once vs v) (among_once vs w) i

apart_again : (again : Bool) (v : Version) (vs rest : List Version) → has_version vs v ≡ again → (In v rest → In v vs) → AreApart rest → AreApart (if again then rest else v ∷ rest)
apart_again true v vs rest e among a = a
apart_again false v vs rest e among a = ((λ i. false≢true (sym e ∙ has_from_in v vs (among i))), a)

apart_once : (vs : List Version) → AreApart (each_once vs)
apart_once [] = tt
apart_once (v ∷ vs) = apart_again (has_version vs v) v vs (each_once vs) refl (once_among vs v) (apart_once vs)

-- ---- a transaction installs no version twice

apart_last : (again : Bool) (w : Write) (ws rest : List Write) → has_key w.key ws ≡ again → ((u : Write) → In u rest → In u ws) → AreApart (map version_of rest) → AreApart (map version_of (if again then rest else w ∷ rest))
apart_last true w ws rest e among a = a
apart_last false w ws rest e among a = (
  λ i.
      let found = in_map version_of (version_of w) rest i in
      false≢true (sym e ∙ key_among ws found.0 (among found.0 found.1) (ap (λ (x : Version). x.key) found.2)),
  a,
)
  where
    key_among : (vs : List Write) (u : Write) → In u vs → u.key ≡ w.key → has_key w.key vs ≡ true
    key_among [] u i same = elim i [ ]
    key_among (x ∷ vs) u (inl is) same = or_left (atom_eq w.key x.key) (has_key w.key vs) (subst (λ k. atom_eq w.key k ≡ true) (sym same ∙ ap (λ (y : Write). y.key) (sym is)) (atom_eq-itself w.key))
    key_among (x ∷ vs) u (inr i) same = or_right (atom_eq w.key x.key) (has_key w.key vs) (key_among vs u i same)

last_among_by : (again : Bool) (u w : Write) (ws rest : List Write) → (In w rest → In w ws) → In w (if again then rest else u ∷ rest) → In w (u ∷ ws)
last_among_by true u w ws rest f i = inr (f i)
last_among_by false u w ws rest f (inl e) = inl e
last_among_by false u w ws rest f (inr i) = inr (f i)

last_among : (ws : List Write) (w : Write) → In w (last_writes ws) → In w ws
last_among [] w i = i
last_among (u ∷ ws) w i = last_among_by (has_key u.key ws) u w ws (last_writes ws) (last_among ws w) i

apart_lasts : (ws : List Write) → AreApart (map version_of (last_writes ws))
apart_lasts [] = tt
apart_lasts (w ∷ ws) = apart_last (has_key w.key ws) w ws (last_writes ws) refl (last_among ws) (apart_lasts ws)

pub apart_installed : (t : Transaction) → AreApart (installed_by t)
apart_installed t = apart_lasts (writes_of t.mops)

-- ---- the edges are dependency edges

is_dependency :
    (keys : KeyOrder) (ts : List Transaction) (t u : Transaction) (label : Label) (e : Edge)
    → In t ts
    → is_node ts t ≡ true
    → LeadsTo ts t.invocation u label e
    → Depends keys ts t u label
    → Contains (dependency_edges keys ts) e × (e.from ≡ t.invocation)
is_dependency keys ts t u label e i node to depends = (
  subst (Contains (dependency_edges keys ts)) (sym to.is)
      ((edges_by_versions keys ts (edge t u label)).1 (
        t,
        u,
        Contains_from_in t (nodes ts) (in_filtered (is_node ts) t ts i node),
        Contains_from_in u (nodes ts) (in_filtered (is_node ts) u ts to.among to.node),
        eqb-false t.invocation u.invocation to.other,
        refl,
        depends,
      )),
  ap (λ (d : Edge). d.from) to.is,
)

written_depends :
    (keys : KeyOrder) (ts : List Transaction) (t : Transaction) (v : Version) (e : Edge)
    → In t ts
    → is_node ts t ≡ true
    → In v (installed_by t)
    → In e (written_edges keys ts t.invocation v)
    → Contains (dependency_edges keys ts) e × (e.from ≡ t.invocation)
written_depends keys ts t v e i node installed j =
    elim (in_append e (reader_edges ts t.invocation v) (later_edges keys ts t.invocation (ww v) v) j) [
      | inl k ↦ (
          let (u, read, to) = reader_from ts t.invocation v e k in
          is_dependency keys ts t u (wr v) e i node to (has_from_in v (installed_by t) installed, read))
      | inr k ↦ (
          let (u, w, behind, to) = later_from keys ts t.invocation (ww v) v e k in
          is_dependency keys ts t u (ww v w) e i node to (
            behind_makes_pair keys ts u v w to.among to.node behind,
            has_from_in v (installed_by t) installed,
            has_from_in w (installed_by u) (in_filter (is_followed (process_pairs keys ts) u v) w (installed_by u) behind),
          ))
    ]

read_depends :
    (keys : KeyOrder) (ts : List Transaction) (t : Transaction) (v : Version) (e : Edge)
    → In t ts
    → is_node ts t ≡ true
    → is_known_to_read t v ≡ true
    → In e (read_edges keys ts t.invocation v)
    → Contains (dependency_edges keys ts) e × (e.from ≡ t.invocation)
read_depends keys ts t v e i node read j =
    let (u, w, behind, to) = later_from keys ts t.invocation (rw v) v e j in
    is_dependency keys ts t u (rw v w) e i node to (
      behind_makes_pair keys ts u v w to.among to.node behind,
      read,
      has_from_in w (installed_by u) (in_filter (is_followed (process_pairs keys ts) u v) w (installed_by u) behind),
    )

reads_told : (t : Transaction) (v : Version) → In v (read_by t) → is_known_to_read t v ≡ true
reads_told t v i = let (ok, j) = in_if v (is_ok t) (external_reads t) i in and_from (is_ok t) (has_version (external_reads t) v) ok (has_from_in v (external_reads t) j)

told_reads : (t : Transaction) (v : Version) → is_known_to_read t v ≡ true → In v (read_by t)
told_reads t v read =
    let (ok, among) = and_parts (is_ok t) (has_version (external_reads t) v) read in
    in_then v (is_ok t) (external_reads t) ok (in_from_has v (external_reads t) among)

leaving_depends :
    (keys : KeyOrder) (ts : List Transaction) (t : Transaction) (e : Edge)
    → In t ts
    → In e (leaving keys ts t)
    → Contains (dependency_edges keys ts) e × (e.from ≡ t.invocation)
leaving_depends keys ts t e i j =
    let (node, k) = in_if e (is_node ts t) (edges_out keys ts t) j in
    elim (in_append e (flat_map (written_edges keys ts t.invocation) (installed_by t)) (flat_map (read_edges keys ts t.invocation) (each_once (read_by t))) k) [
      | inl l ↦ (let (v, installed, m) = in_some (written_edges keys ts t.invocation) e (installed_by t) l in written_depends keys ts t v e i node installed m)
      | inr l ↦ (
          let (v, read, m) = in_some (read_edges keys ts t.invocation) e (each_once (read_by t)) l in
          read_depends keys ts t v e i node (reads_told t v (once_among (read_by t) v read)) m)
    ]

-- ---- and all that leave it

out_of :
    (keys : KeyOrder) (ts : List Transaction)
    → AreOfHistory ts
    → (t u : Transaction) (label : Label)
    → In u ts
    → is_node ts u ≡ true
    → (t.invocation == u.invocation) ≡ false
    → Depends keys ts t u label
    → In (out t.invocation u label) (edges_out keys ts t)
out_of keys ts of t u (ww v w) i node other (paired, installed, later) =
    in_front (out t.invocation u (ww v w)) (flat_map (written_edges keys ts t.invocation) (installed_by t)) (flat_map (read_edges keys ts t.invocation) (each_once (read_by t)))
    (in_each (written_edges keys ts t.invocation) (out t.invocation u (ww v w)) v (installed_by t) (in_from_has v (installed_by t) installed)
    (in_back (out t.invocation u (ww v w)) (reader_edges ts t.invocation v) (later_edges keys ts t.invocation (ww v) v)
    (later_to keys ts t.invocation (ww v) v w u i node other (pair_is_behind keys ts of u v w i later paired))))
out_of keys ts of t u (wr v) i node other (installed, read) =
    in_front (out t.invocation u (wr v)) (flat_map (written_edges keys ts t.invocation) (installed_by t)) (flat_map (read_edges keys ts t.invocation) (each_once (read_by t)))
    (in_each (written_edges keys ts t.invocation) (out t.invocation u (wr v)) v (installed_by t) (in_from_has v (installed_by t) installed)
    (in_front (out t.invocation u (wr v)) (reader_edges ts t.invocation v) (later_edges keys ts t.invocation (ww v) v)
    (reader_to ts t.invocation v u i node other read)))
out_of keys ts of t u (rw v w) i node other (paired, read, later) =
    in_back (out t.invocation u (rw v w)) (flat_map (written_edges keys ts t.invocation) (installed_by t)) (flat_map (read_edges keys ts t.invocation) (each_once (read_by t)))
    (in_each (read_edges keys ts t.invocation) (out t.invocation u (rw v w)) v (each_once (read_by t)) (among_once (read_by t) v (told_reads t v read))
    (later_to keys ts t.invocation (rw v) v w u i node other (pair_is_behind keys ts of u v w i later paired)))
out_of keys ts of t u (process p) i node other d = elim d [ ]
out_of keys ts of t u (realtime c n) i node other d = elim d [ ]

all_leaving :
    (keys : KeyOrder) (ts : List Transaction)
    → AreOfHistory ts
    → (t : Transaction) (e : Edge)
    → In t ts
    → Contains (dependency_edges keys ts) e
    → e.from ≡ t.invocation
    → In e (leaving keys ts t)
all_leaving keys ts of t e i c from =
    let (t', u, first, second, apart, is, depends) = (edges_by_versions keys ts e).0 c in
    let there : In t' (nodes ts) = in_from_Contains t' (nodes ts) first in
    let to : In u (nodes ts) = in_from_Contains u (nodes ts) second in
    let one : t' ≡ t = one_by_invocation ts of t' t (in_filter (is_node ts) t' ts there) i (sym (ap (λ (d : Edge). d.from) is) ∙ from) in
    let found = out_of keys ts of t' u e.label (in_filter (is_node ts) u ts to) (passes_filter (is_node ts) u ts to) (told_apart t'.invocation u.invocation apart) depends in
    let here : In e (leaving keys ts t') =
    in_then e (is_node ts t') (edges_out keys ts t') (passes_filter (is_node ts) t' ts there) (subst (λ d. In d (edges_out keys ts t')) (sym is) found) in
    subst (λ x. In e (leaving keys ts x)) one here

-- ---- each of them once

same_to : (ts : List Transaction) → AreOfHistory ts → (from : ℕ) (u x : Transaction) (l m : Label) (e : Edge) → LeadsTo ts from u l e → LeadsTo ts from x m e → u ≡ x
same_to ts of from u x l m e a b = one_by_invocation ts of u x a.among b.among (sym (ap (λ (d : Edge). d.to) a.is) ∙ ap (λ (d : Edge). d.to) b.is)

same_label : (ts : List Transaction) (from : ℕ) (u x : Transaction) (l m : Label) (e : Edge) → LeadsTo ts from u l e → LeadsTo ts from x m e → l ≡ m
same_label ts from u x l m e a b = sym (ap (λ (d : Edge). d.label) a.is) ∙ ap (λ (d : Edge). d.label) b.is

apart_node_edge : (ts : List Transaction) (from : ℕ) (u : Transaction) (label : Label) → AreApart (node_edge ts from u label)
apart_node_edge ts from u label = apart_if (is_node ts u) (edge_to from u label) (apart_unless (from == u.invocation) (out from u label))

apart_readers : (ts : List Transaction) → AreOfHistory ts → (from : ℕ) (v : Version) → AreApart (reader_edges ts from v)
apart_readers ts of from v =
    apart_each (λ (u : Transaction). if is_known_to_read u v then node_edge ts from u (wr v) else []) ts (apart_of ts of)
    (λ u i. apart_if (is_known_to_read u v) (node_edge ts from u (wr v)) (apart_node_edge ts from u (wr v)))
    (λ u x e i j k l.
    same_to ts of from u x (wr v) (wr v) e
    (leads_from ts from u (wr v) e i (in_if e (is_known_to_read u v) (node_edge ts from u (wr v)) k).1)
    (leads_from ts from x (wr v) e j (in_if e (is_known_to_read x v) (node_edge ts from x (wr v)) l).1))

apart_later : (keys : KeyOrder) (ts : List Transaction) → AreOfHistory ts → (from : ℕ) (label : Version → Label) (v : Version) → ((w x : Version) → label w ≡ label x → w ≡ x) → AreApart (later_edges keys ts from label v)
apart_later keys ts of from label v one =
    apart_each (λ (u : Transaction). flat_map (λ w. node_edge ts from u (label w)) (installs_behind (process_pairs keys ts) u v)) ts (apart_of ts of)
    (λ u i.
    apart_each (λ w. node_edge ts from u (label w)) (installs_behind (process_pairs keys ts) u v) (apart_filter (is_followed (process_pairs keys ts) u v) (installed_by u) (apart_installed u))
    (λ w j. apart_node_edge ts from u (label w))
    (λ w x e j k l m. one w x (same_label ts from u u (label w) (label x) e (leads_from ts from u (label w) e i l) (leads_from ts from u (label x) e i m))))
    (λ u x e i j k l.
    let (w, _, a) = in_some (λ w. node_edge ts from u (label w)) e (installs_behind (process_pairs keys ts) u v) k in
    let (y, _, b) = in_some (λ w. node_edge ts from x (label w)) e (installs_behind (process_pairs keys ts) x v) l in
    same_to ts of from u x (label w) (label y) e (leads_from ts from u (label w) e i a) (leads_from ts from x (label y) e j b))

-- the version out of which an edge is found
abbrev origin : Label → Version → Version
origin (ww v w) x = v
origin (wr v) x = v
origin (rw v w) x = v
origin label x = x

written_origin : (keys : KeyOrder) (ts : List Transaction) (from : ℕ) (v x : Version) (e : Edge) → In e (written_edges keys ts from v) → (origin e.label x ≡ v) × (is_rw_label e.label ≡ false)
written_origin keys ts from v x e i = elim (in_append e (reader_edges ts from v) (later_edges keys ts from (ww v) v) i) [
  | inl j ↦ (let (u, read, to) = reader_from ts from v e j in (ap (λ (d : Edge). origin d.label x) to.is, ap (λ (d : Edge). is_rw_label d.label) to.is))
  | inr j ↦ (let (u, w, behind, to) = later_from keys ts from (ww v) v e j in (ap (λ (d : Edge). origin d.label x) to.is, ap (λ (d : Edge). is_rw_label d.label) to.is))
]

read_origin : (keys : KeyOrder) (ts : List Transaction) (from : ℕ) (v x : Version) (e : Edge) → In e (read_edges keys ts from v) → (origin e.label x ≡ v) × (is_rw_label e.label ≡ true)
read_origin keys ts from v x e i =
    let (u, w, behind, to) = later_from keys ts from (rw v) v e i in
    (ap (λ (d : Edge). origin d.label x) to.is, ap (λ (d : Edge). is_rw_label d.label) to.is)

apart_written : (keys : KeyOrder) (ts : List Transaction) → AreOfHistory ts → (from : ℕ) (v : Version) → AreApart (written_edges keys ts from v)
apart_written keys ts of from v =
    apart_append (reader_edges ts from v) (later_edges keys ts from (ww v) v) (apart_readers ts of from v) (apart_later keys ts of from (ww v) v (λ w x e. cc)) (λ e i j.
    let (u, read, a) = reader_from ts from v e i in
    let (x, w, behind, b) = later_from keys ts from (ww v) v e j in
    false≢true (sym (ap (λ (d : Edge). is_wr_label d.label) b.is) ∙ ap (λ (d : Edge). is_wr_label d.label) a.is))

apart_out : (keys : KeyOrder) (ts : List Transaction) → AreOfHistory ts → (t : Transaction) → AreApart (edges_out keys ts t)
apart_out keys ts of t =
    let from = t.invocation in
    apart_append (flat_map (written_edges keys ts from) (installed_by t)) (flat_map (read_edges keys ts from) (each_once (read_by t)))
    (apart_each (written_edges keys ts from) (installed_by t) (apart_installed t) (λ v i. apart_written keys ts of from v)
    (λ v w e i j k l. sym (written_origin keys ts from v v e k).0 ∙ (written_origin keys ts from w v e l).0))
    (apart_each (read_edges keys ts from) (each_once (read_by t)) (apart_once (read_by t)) (λ v i. apart_later keys ts of from (rw v) v (λ w x e. cc))
    (λ v w e i j k l. sym (read_origin keys ts from v v e k).0 ∙ (read_origin keys ts from w v e l).0))
    (λ e i j.
    let (v, _, k) = in_some (written_edges keys ts from) e (installed_by t) i in
    let (w, _, l) = in_some (read_edges keys ts from) e (each_once (read_by t)) j in
    false≢true (sym (written_origin keys ts from v v e k).1 ∙ (read_origin keys ts from w w e l).1))

-- ---- the law

pub leaving_edges : (keys : KeyOrder) (ts : List Transaction) → AreOfHistory ts → (t : Transaction) → In t ts → AreEdgesFrom keys ts t (leaving keys ts t)
leaving_edges keys ts of t i = record {
  exactly = λ e. (
    λ c. leaving_depends keys ts t e i (in_from_Contains e (leaving keys ts t) c),
    λ (d, from). Contains_from_in e (leaving keys ts t) (all_leaving keys ts of t e i d from),
  );
  once = none_twice (leaving keys ts t) (apart_if (is_node ts t) (edges_out keys ts t) (apart_out keys ts of t));
}

-- what is found, behind what was there before
pub adds_edges :
    (keys : KeyOrder) {E : Type 0} (r : Result (Unit {0}) E) (ts : List Transaction) (place : ℕ) (before after : List Edge)
    → AreOfHistory ts
    → In (txn_at ts place) ts
    → OnOk r (after ≡ before ++ leaving keys ts (txn_at ts place))
    → OnOk r (AddsEdgesFrom keys ts (txn_at ts place) before after)
adds_edges keys (Ok x) ts place before after of i e = (leaving keys ts (txn_at ts place), e, leaving_edges keys ts of (txn_at ts place) i)
adds_edges keys (Err x) ts place before after of i e = tt
