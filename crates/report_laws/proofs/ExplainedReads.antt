-- Explained histories: what is read was installed before it, each node is in the order, and no aborted or intermediate
-- version is read.
use Rattle.std.proofs.Common.{◌≡◌, inl, inr, List, [], ◌∷◌, true, not, ◌&&◌, None, map, Contains, IsFalse, refl, sym, ◌∙◌, subst}
use Rattle.std.specs.List.{list_any}
use Rattle.std.proofs.lemmas.Bool.{false≢true, and_parts, or_cases}
use Rattle.std.proofs.lemmas.List.Elements.{recursion_from_All}
use Rattle.hist_types.specs.Journal.{KeepsRules, writes_of}
use Rattle.hist_types.specs.Operations.{Operation}
use Rattle.hist_types.specs.Transactions.{Transaction, Version, version_of, transactions_of, is_ok, is_failed, has_version, external_reads, is_known_to_read, installs, writes, was_read, is_node, nodes}
use Rattle.hist_types.specs.Explanation.{all_nil, Explains, AreExplained}
use Rattle.hist_types.specs.Phenomena.{BadRead, first_of, aborted_reads, intermediate_reads, g1a, g1b}
use Rattle.hist_types.proofs.Members.{In, in_from_Contains, Contains_from_in, in_mapped, in_filter, passes_filter}
use Rattle.history_laws.proofs.BadReads.{aborted_by_writer, intermediate_by_writer}
use Rattle.history_laws.proofs.ThinningPaths.{some_passes}
use Rattle.history_laws.proofs.VersionMembers.{has_from_in}
use Rattle.history_laws.proofs.WrittenOnce.{one_writer, installed_or_over, not_installed_over, over_is_written, nil_unwritten}
use Rattle.report_laws.proofs.ExplainedOrders.{first_in, all_at, apart_order}
use Rattle.report_laws.proofs.ExplainedRegisters.{HeldFrom, IsHeld, held}

-- events that keep the rules, with an order that explains their transactions
pub record IsExplained (events : List Operation) (order : List Transaction) : Type 0 where
  pub kept : KeepsRules events
  pub explains : Explains (transactions_of events) order

pub installed_is_written : (t : Transaction) (v : Version) → installs t v ≡ true → writes t v ≡ true
installed_is_written t v e = (installed_or_over t v).1 (inl e)

-- ---- who is in the order

pub chosen_in :
    (events : List Operation) (order : List Transaction)
    → IsExplained events order
    → (t : Transaction)
    → In t order
    → Contains (transactions_of events) t × IsFalse (is_failed t)
chosen_in events order h t i =
    all_at (λ t. Contains (transactions_of events) t × IsFalse (is_failed t)) order t
    (recursion_from_All (λ t. Contains (transactions_of events) t × IsFalse (is_failed t)) order h.explains.chosen) i

reader_in :
    (events : List Operation) (order : List Transaction)
    → IsExplained events order
    → (u : Transaction) (v : Version)
    → Contains (transactions_of events) u
    → is_known_to_read u v ≡ true
    → In u order
reader_in events order h u v among reads =
    in_from_Contains u order (h.explains.all_ok u among (and_parts (is_ok u) (has_version (external_reads u) v) reads).0)

-- ---- what is read

pub held_in :
    (events : List Operation) (order : List Transaction)
    → IsExplained events order
    → (u : Transaction) (v : Version)
    → Contains (transactions_of events) u
    → is_known_to_read u v ≡ true
    → IsHeld all_nil order u v
held_in events order h u v among reads =
    held all_nil order u v h.explains.runs (apart_order order h.explains.different) (reader_in events order h u v among reads) reads

-- the one that wrote the version installs it, and comes before the reader
pub writer_before :
    (events : List Operation) (order : List Transaction)
    → IsExplained events order
    → (u w : Transaction) (v : Version)
    → Contains (transactions_of events) u
    → Contains (transactions_of events) w
    → is_known_to_read u v ≡ true
    → writes w v ≡ true
    → HeldFrom order u v w
writer_before events order h u w v among there reads wrote =
    elim (held_in events order h u v among reads) [
      | inl first ↦ elim (nil_unwritten w v wrote (sym first.0)) [ ]
      | inr from ↦ (
          let x : Transaction = from.0 in
          let in_ts = (chosen_in events order h x (first_in order x u from.1.before)).0 in
          let one : x ≡ w = one_writer events h.kept x w in_ts there v (installed_is_written x v from.1.installed) wrote in
          subst (HeldFrom order u v) one from.1)
    ]

-- ---- nodes

read_in_order :
    (events : List Operation) (order : List Transaction)
    → IsExplained events order
    → (t : Transaction)
    → Contains (transactions_of events) t
    → was_read (transactions_of events) t ≡ true
    → In t order
read_in_order events order h t among read =
    let ts : List Transaction = transactions_of events in
    let (w, i, some) = some_passes (λ w. list_any (λ reader. is_known_to_read reader (version_of w)) ts) (writes_of t.mops) read in
    let (reader, j, reads) = some_passes (λ reader. is_known_to_read reader (version_of w)) ts some in
    let wrote : writes t (version_of w) ≡ true =
    has_from_in (version_of w) (map version_of (writes_of t.mops)) (in_mapped version_of w (writes_of t.mops) i) in
    first_in order t reader (writer_before events order h reader t (version_of w) (Contains_from_in reader ts j) among reads wrote).before

pub node_in_order :
    (events : List Operation) (order : List Transaction)
    → IsExplained events order
    → (t : Transaction)
    → In t (nodes (transactions_of events))
    → Contains (transactions_of events) t × In t order
node_in_order events order h t i =
    let ts : List Transaction = transactions_of events in
    let among : Contains ts t = Contains_from_in t ts (in_filter (is_node ts) t ts i) in (
      among,
      elim (or_cases (is_ok t) (not (is_failed t) && was_read ts t) (passes_filter (is_node ts) t ts i)) [
        | inl ok ↦ in_from_Contains t order (h.explains.all_ok t among ok)
        | inr read ↦ read_in_order events order h t among (and_parts (not (is_failed t)) (was_read ts t) read).1
      ],
    )

-- ---- reads that should not have been

none_first : (rs : List BadRead) → ((r : BadRead) → In r rs → ⊥) → first_of rs ≡ None
none_first [] none = refl
none_first (r ∷ rs) none = elim (none r (inl refl)) [ ]

pub no_g1a : (events : List Operation) → KeepsRules events → AreExplained (transactions_of events) → g1a (transactions_of events) ≡ None
no_g1a events kept (order, explains) =
    let ts : List Transaction = transactions_of events in
    let h : IsExplained events order = record { kept = kept; explains = explains } in
    none_first (aborted_reads ts) (λ r i.
    let (reader, writer, among, there, is, reads, failed, wrote) = (aborted_by_writer ts r).0 (Contains_from_in r (aborted_reads ts) i) in
    let from = writer_before events order h reader writer r.version among there reads wrote in
    false≢true (sym (chosen_in events order h writer (first_in order writer reader from.before)).1 ∙ failed))

pub no_g1b : (events : List Operation) → KeepsRules events → AreExplained (transactions_of events) → g1b (transactions_of events) ≡ None
no_g1b events kept (order, explains) =
    let ts : List Transaction = transactions_of events in
    let h : IsExplained events order = record { kept = kept; explains = explains } in
    none_first (intermediate_reads ts) (λ r i.
    let (reader, writer, among, there, is, reads, apart, over) = (intermediate_by_writer ts r).0 (Contains_from_in r (intermediate_reads ts) i) in
    let from = writer_before events order h reader writer r.version among there reads (over_is_written writer r.version over) in
    false≢true (sym (not_installed_over events kept writer r.version there over) ∙ from.installed))
