-- Pairs of versions go forward in an order that explains a history, and so do all edges.
use Rattle.std.proofs.Common.{◌≡◌, ◌⊎◌, inl, inr, List, true, Contains, sym, ap, subst}
use Rattle.hist_types.specs.Operations.{Operation}
use Rattle.hist_types.specs.Transactions.{Transaction, Version, transactions_of, is_known_to_read, installs, nodes}
use Rattle.hist_types.specs.Versions.{VersionPair, pair, process_pairs, version_pairs}
use Rattle.hist_types.specs.Edges.{Label, ww, wr, rw, process, realtime, Edge, is_ok_before, order_labels, dependency_edges, order_edges}
use Rattle.hist_types.specs.Explanation.{all_nil}
use Rattle.hist_types.specs.declared.types.Level.{Level}
use Rattle.hist_types.specs.declared.types.KeyOrder.{KeyOrder}
use Rattle.hist_types.specs.declared.types.KeyOrder.TheVariants.{Basic, Sequential}
use Rattle.hist_types.proofs.Equality.{atom_eq-same}
use Rattle.hist_types.proofs.Members.{In, in_from_Contains}
use Rattle.history_laws.specs.Dependencies.{IsNilPair, IsUpdatePair, IsProcessPair, Depends}
use Rattle.history_laws.specs.ProcessPairs.{IsStepBetweenTwo}
use Rattle.history_laws.proofs.DependencyEdges.{edges_by_versions}
use Rattle.history_laws.proofs.ProcessPairs.{is_step_of, of_one_key, process_pairs-between}
use Rattle.history_laws.proofs.ThinningPaths.{ends_of, ordered_from_label, ordered_in_time}
use Rattle.history_laws.proofs.VersionMembers.{pairs_by_membership}
use Rattle.history_laws.proofs.WrittenOnce.{one_writer, nil_unwritten}
use Rattle.report_laws.proofs.ExplainedOrders.{Before, first_in, one_before, none_back, IsForward}
use Rattle.report_laws.proofs.ExplainedRegisters.{WritesKey, HeldFrom, IsHeld, writes_key}
use Rattle.report_laws.proofs.ExplainedReads.{IsExplained, installed_is_written, chosen_in, held_in, writer_before, node_in_order}
use Rattle.report_laws.proofs.ExplainedSteps.{writers_of_step}

-- the transaction is ok and reads the version, or installs it
abbrev pub ReadsOrInstalls : Transaction → Version → Type 0
ReadsOrInstalls t v = (is_known_to_read t v ≡ true) ⊎ (installs t v ≡ true)

-- what installs the later version comes after each other one that installs the earlier version, or is ok and reads it
abbrev pub PairGoesForward : List Transaction → VersionPair → Type 0
PairGoesForward order p =
    (t u : Transaction)
    → In t order
    → In u order
    → ¬ (t ≡ u)
    → ReadsOrInstalls t p.earlier
    → installs u p.later ≡ true
    → Before order t u

-- ---- readers and later writers

-- a transaction that reads a version doesn't come after one that writes the key after the version's writer
not_read_after :
    (order : List Transaction) (t u : Transaction) (v : Version)
    → IsHeld all_nil order t v
    → WritesKey v.key u
    → ((w : Transaction) → HeldFrom order t v w → Before order w u)
    → Before order u t
    → ⊥
not_read_after order t u v (inl first) wrote source before = first.1 u before wrote
not_read_after order t u v (inr from) wrote source before = from.1.none u (source from.0 from.1) before wrote

-- t reads a version, and u writes its key, after the version's writer if it has one: so u comes after t too
pub reader_before :
    (events : List Operation) (order : List Transaction)
    → IsExplained events order
    → (t u : Transaction) (v : Version)
    → In t order
    → In u order
    → ¬ (t ≡ u)
    → is_known_to_read t v ≡ true
    → WritesKey v.key u
    → ((w : Transaction) → HeldFrom order t v w → Before order w u)
    → Before order t u
reader_before events order h t u v i j other reads wrote source =
    elim (one_before order t u i j other) [
      | inl before ↦ before
      | inr back ↦ elim (not_read_after order t u v (held_in events order h t v (chosen_in events order h t i).0 reads) wrote source back) [ ]
    ]

pub writes_key_of : (u : Transaction) (p : VersionPair) → p.earlier.key ≡ p.later.key → installs u p.later ≡ true → WritesKey p.earlier.key u
writes_key_of u p same e = subst (λ k. WritesKey k u) (sym same) (writes_key u p.later (installed_is_written u p.later e))

-- ---- nil comes first

nil_forward :
    (events : List Operation) (order : List Transaction)
    → IsExplained events order
    → (p : VersionPair)
    → IsNilPair (transactions_of events) p
    → PairGoesForward order p
nil_forward events order h p (is, by, node, set) t u i j other touches later =
    let none : (w : Transaction) → installs w p.earlier ≡ true → ⊥ =
    λ w e. nil_unwritten w p.earlier (installed_is_written w p.earlier e) (ap (λ (v : Version). v.value) is) in
    elim touches [
      | inl reads ↦ reader_before events order h t u p.earlier i j other reads (writes_key_of u p (ap (λ (v : Version). v.key) is) later)
          (λ w from. elim (none w from.installed) [ ])
      | inr installed ↦ elim (none t installed) [ ]
    ]

-- ---- a write follows a read of its key in one transaction

update_forward :
    (events : List Operation) (order : List Transaction)
    → IsExplained events order
    → (p : VersionPair)
    → IsUpdatePair (transactions_of events) p
    → PairGoesForward order p
update_forward events order h p (same, differ, r, among, read, installed) t u i j other touches later =
    let ts : List Transaction = transactions_of events in
    let there : Contains ts u = (chosen_in events order h u j).0 in
    let one : r ≡ u = one_writer events h.kept r u among there p.later (installed_is_written r p.later installed) (installed_is_written u p.later later) in
    let source : (w : Transaction) → In w order → installs w p.earlier ≡ true → Before order w u =
    λ w k e.
    (writer_before events order h u w p.earlier there (chosen_in events order h w k).0
    (subst (λ x. is_known_to_read x p.earlier ≡ true) one read) (installed_is_written w p.earlier e)).before in
    elim touches [
      | inl reads ↦ reader_before events order h t u p.earlier i j other reads (writes_key_of u p same later)
          (λ w from. source w (first_in order w t from.before) from.installed)
      | inr e ↦ source t i e
    ]

-- ---- a process goes from one version to the next

of_two : (keys : KeyOrder) (ts : List Transaction) (p : VersionPair) → IsProcessPair keys ts p → IsStepBetweenTwo ts p
of_two Basic ts p step = elim (in_from_Contains p (process_pairs Basic ts) step) [ ]
of_two Sequential ts p step = (process_pairs-between ts p).0 step

step_forward :
    (keys : KeyOrder) (events : List Operation) (order : List Transaction)
    → IsExplained events order
    → (p : VersionPair)
    → IsProcessPair keys (transactions_of events) p
    → PairGoesForward order p
step_forward keys events order h p step t u i j other touches later =
    let ts : List Transaction = transactions_of events in
    let same : p.earlier.key ≡ p.later.key =
    atom_eq-same p.earlier.key p.later.key (of_one_key p (is_step_of keys ts p step)) in
    let source : (w : Transaction) → In w order → installs w p.earlier ≡ true → Before order w u =
    λ w k e. writers_of_step events order h p (of_two keys ts p step) w u k j e later in
    elim touches [
      | inl reads ↦ reader_before events order h t u p.earlier i j other reads (writes_key_of u p same later)
          (λ w from. source w (first_in order w t from.before) from.installed)
      | inr e ↦ source t i e
    ]

-- ---- each pair

pub pair_forward :
    (keys : KeyOrder) (events : List Operation) (order : List Transaction)
    → IsExplained events order
    → (p : VersionPair)
    → Contains (version_pairs keys (transactions_of events)) p
    → PairGoesForward order p
pair_forward keys events order h p c =
    elim ((pairs_by_membership keys (transactions_of events) p).0 c) [
      | inl first ↦ nil_forward events order h p first
      | inr others ↦ elim others [
        | inl update ↦ update_forward events order h p update
        | inr step ↦ step_forward keys events order h p step
      ]
    ]

-- ---- edges

depends_forward :
    (keys : KeyOrder) (events : List Operation) (order : List Transaction)
    → IsExplained events order
    → (t u : Transaction) (l : Label)
    → Contains (transactions_of events) t × In t order
    → Contains (transactions_of events) u × In u order
    → ¬ (t ≡ u)
    → Depends keys (transactions_of events) t u l
    → Before order t u
depends_forward keys events order h t u (ww v w) first second other d =
    pair_forward keys events order h (pair v w) d.0 t u first.1 second.1 other (inr d.1) d.2
depends_forward keys events order h t u (rw v w) first second other d =
    pair_forward keys events order h (pair v w) d.0 t u first.1 second.1 other (inl d.1) d.2
depends_forward keys events order h t u (wr v) first second other d =
    (writer_before events order h u t v second.0 first.0 d.1 (installed_is_written t v d.0)).before
depends_forward keys events order h t u (process p) first second other d = elim d [ ]
depends_forward keys events order h t u (realtime c i) first second other d = elim d [ ]

pub dependency_forward :
    (keys : KeyOrder) (events : List Operation) (order : List Transaction)
    → IsExplained events order
    → (e : Edge)
    → Contains (dependency_edges keys (transactions_of events)) e
    → IsForward order e
dependency_forward keys events order h e c =
    let ts : List Transaction = transactions_of events in
    let (t, u, first, second, apart, is, depends) = (edges_by_versions keys ts e).0 c in (
      t,
      u,
      ap (λ (d : Edge). d.from) is,
      ap (λ (d : Edge). d.to) is,
      depends_forward keys events order h t u e.label (node_in_order events order h t (in_from_Contains t (nodes ts) first))
          (node_in_order events order h u (in_from_Contains u (nodes ts) second)) (λ same. apart (ap (λ (x : Transaction). x.invocation) same)) depends,
    )

pub order_forward :
    (events : List Operation) (order : List Transaction)
    → IsExplained events order
    → (level : Level) (e : Edge)
    → Contains (order_edges level (transactions_of events)) e
    → IsForward order e
order_forward events order h level e c =
    let ts : List Transaction = transactions_of events in
    let (t, u, label, ends) = ends_of (nodes ts) (order_labels level) e (in_from_Contains e (order_edges level ts) c) in
    let before : is_ok_before t u ≡ true = ordered_in_time level t u (ordered_from_label level t u label ends.labelled) in (
      t,
      u,
      ap (λ (d : Edge). d.from) ends.is,
      ap (λ (d : Edge). d.to) ends.is,
      elim (one_before order t u (node_in_order events order h t ends.first).1 (node_in_order events order h u ends.second).1
          (λ same. ends.other (ap (λ (x : Transaction). x.invocation) same))) [
            | inl forward ↦ forward
            | inr back ↦ elim (none_back order u t h.explains.realtime back before) [ ]
          ],
    )
