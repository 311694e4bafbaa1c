-- Where keys are sequential, an explanation keeps the order in which a process sees the versions of a key.
--
-- Let T and U be ok transactions of one process, T before U in the history. T's last micro-operation on a key reads or writes the
-- earlier version of a pair, and U reads the later one, or installs it. In each order that explains the history, whoever reads or
-- installs the earlier version comes before the one that installs the later version:
--
--     The process completed T before it invoked U, so T comes before U.
--
--     After T the register of the key holds the earlier version, since T wrote it there or read it there. U finds the later version
--     in the register, or puts it there itself. It is another version, and no version is written twice, so the one transaction that
--     installs it comes after T: had it come before T, the register would have changed back before U.
--
--     The one that installs the earlier version is T, or comes before T, which reads it.
--
--     One that reads the earlier version finds it in the register. So it doesn't come after the one that installs the later version,
--     which itself comes after the one that installs the earlier version (ExplainedEdges has this step, for all pairs).
use Rattle.std.proofs.Common.{◌≡◌, ◌⊎◌, inl, inr, ℕ, ◌+◌, ◌<◌, List, [], ◌∷◌, ◌++◌, Bool, true, false, not, if◌then◌else◌, nat_lt, Option, Some, None, is_some, IfSome, map, Contains, refl, sym, ◌∙◌, ap, subst, arith}
use Rattle.std.specs.List.{list_any}
use Rattle.std.specs.Option.{option_map_or}
use Rattle.std.proofs.lemmas.Bool.{false≢true, and_parts, and_from, or_parts, or_from, not-true, lt-ltb}
use Rattle.std.proofs.lemmas.List.Elements.{recursion_from_All}
use Rattle.std.proofs.lemmas.Option.{none-some, cond_some}
use Rattle.hist_types.specs.Atoms.{Atom, atom_eq, value_eq}
use Rattle.hist_types.specs.Edges.{is_ok_before}
use Rattle.hist_types.specs.Explanation.{Registers, all_nil, after_mop, after_mops, AreRead, Runs}
use Rattle.hist_types.specs.Journal.{is_invoke, writes_of}
use Rattle.hist_types.specs.Operations.{Mop, read, write, Operation}
use Rattle.hist_types.specs.Transactions.{Transaction, Indexed, Version, completion_in, transaction_by, transactions_from, transactions_of, has_version, has_key, is_ok, reads_after, external_reads, installed_by, is_known_to_read, installs}
use Rattle.hist_types.specs.Versions.{VersionPair, version_in, last_of, is_change, is_step}
use Rattle.hist_types.proofs.Equality.{atom_eq-same, atom_eq-itself, value_eq-itself}
use Rattle.hist_types.proofs.Members.{In, in_from_Contains, Contains_from_in, in_front, in_back}
use Rattle.history_laws.specs.ProcessPairs.{EndsWith, IsStepBetweenTwo}
use Rattle.history_laws.specs.Times.{AreInvokedInOrder}
use Rattle.history_laws.proofs.PrintedEdges.{one_installed}
use Rattle.history_laws.proofs.ProcessPairs.{here, met_by-read_or_installed, of_one_key, or_none, or_some}
use Rattle.history_laws.proofs.ThinningTimes.{invoked_in_order, completed_before}
use Rattle.history_laws.proofs.VersionMembers.{has_from_in}
use Rattle.history_laws.proofs.WrittenOnce.{one_writer}
use Rattle.report_laws.proofs.ExplainedOrders.{Before, one_before, before_both, none_back, first_in, all_at, apart_order}
use Rattle.report_laws.proofs.ExplainedRegisters.{WritesKey, HeldFrom, left_or_set, set_installs, writes_key}
use Rattle.report_laws.proofs.ExplainedReads.{IsExplained, installed_is_written, chosen_in, held_in, writer_before}

-- ---- what a transaction leaves in a register

elsewhere : (test : Bool) (v : Version) → (if test then Some v else None) ≡ None → test ≡ false
elsewhere true v e = elim (none-some v (sym e)) [ ]
elsewhere false v e = refl

-- micro-operations on other keys leave a register as it was
left_alone :
    (registers : Registers) (mops : List Mop) (key : Atom)
    → last_of key (map version_in mops) ≡ None
    → after_mops registers mops key ≡ registers key
left_alone registers [] key none = refl
left_alone registers (read k value ∷ mops) key none =
    left_alone registers mops key (or_none (last_of key (map version_in mops)) (here key (version_in (read k value))) none).0
left_alone registers (write k value ∷ mops) key none =
    let parts = or_none (last_of key (map version_in mops)) (here key (version_in (write k value))) none in
    left_alone (after_mop registers (write k value)) mops key parts.0
    ∙ ap (λ b. if b then Some value else registers key) (elsewhere (atom_eq key k) (version_in (write k value)) parts.1)

-- the last micro-operation on a key reads or writes what its register then holds
holds_last :
    (registers : Registers) (mops : List Mop) (key : Atom) (v : Version)
    → AreRead registers mops
    → last_of key (map version_in mops) ≡ Some v
    → after_mops registers mops key ≡ v.value
holds_last registers [] key v reads last = elim (none-some v last) [ ]
holds_last registers (read k value ∷ mops) key v reads last =
    elim (or_some (last_of key (map version_in mops)) (here key (version_in (read k value))) v last) [
      | inl further ↦ holds_last registers mops key v reads.1 further
      | inr parts ↦ (
          let (same, is) = cond_some (atom_eq key k) (version_in (read k value)) v parts.1 in
          left_alone registers mops key parts.0
          ∙ (ap registers (atom_eq-same key k same) ∙ (reads.0 ∙ ap (λ (w : Version). w.value) is)))
    ]
holds_last registers (write k value ∷ mops) key v reads last =
    elim (or_some (last_of key (map version_in mops)) (here key (version_in (write k value))) v last) [
      | inl further ↦ holds_last (after_mop registers (write k value)) mops key v reads.1 further
      | inr parts ↦ (
          let (same, is) = cond_some (atom_eq key k) (version_in (write k value)) v parts.1 in
          left_alone (after_mop registers (write k value)) mops key parts.0
          ∙ (ap (λ b. if b then Some value else registers key) same ∙ ap (λ (w : Version). w.value) is))
    ]

last_in : (key : Atom) (vs : List Version) (v : Version) → last_of key vs ≡ Some v → In v vs
last_in key [] v e = elim (none-some v e) [ ]
last_in key (w ∷ vs) v e = elim (or_some (last_of key vs) (here key w) v e) [
  | inl further ↦ inr (last_in key vs v further)
  | inr parts ↦ inl (cond_some (atom_eq key w.key) w v parts.1).1
]

still_in : (was : Bool) (w v : Version) (vs : List Version) → In v vs → In v (if was then vs else w ∷ vs)
still_in true w v vs i = i
still_in false w v vs i = inr i

-- where a transaction doesn't write the key, each of its reads of it is external
read_or_written :
    (written : List Atom) (mops : List Mop) (v : Version)
    → In v (map version_in mops)
    → has_key v.key (writes_of mops) ≡ false
    → list_any (atom_eq v.key) written ≡ false
    → In v (reads_after written mops)
read_or_written written [] v i unwritten none = elim i [ ]
read_or_written written (read k value ∷ mops) v (inl is) unwritten none =
    let unread : list_any (atom_eq k) written ≡ false = ap (λ (w : Version). list_any (atom_eq w.key) written) is ∙ none in
    subst (λ b. In v (if b then reads_after written mops else version_in (read k value) ∷ reads_after written mops)) (sym unread) (inl is)
read_or_written written (read k value ∷ mops) v (inr i) unwritten none =
    still_in (list_any (atom_eq k) written) (version_in (read k value)) v (reads_after written mops) (read_or_written written mops v i unwritten none)
read_or_written written (write k value ∷ mops) v (inl is) unwritten none =
    let other : atom_eq v.key k ≡ false = (or_parts (atom_eq v.key k) (has_key v.key (writes_of mops)) unwritten).0 in
    elim (false≢true (sym other ∙ subst (λ (w : Version). atom_eq w.key k ≡ true) is (atom_eq-itself k))) [ ]
read_or_written written (write k value ∷ mops) v (inr i) unwritten none =
    let parts = or_parts (atom_eq v.key k) (has_key v.key (writes_of mops)) unwritten in
    read_or_written (k ∷ written) mops v i parts.1 (or_from (atom_eq v.key k) (list_any (atom_eq v.key) written) parts.0 none)

-- it installs the version, or is ok, reads it, and doesn't write its key
abbrev Leaves : Transaction → Version → Type 0
Leaves t v = (installs t v ≡ true) ⊎ ((is_known_to_read t v ≡ true) × (has_key v.key (writes_of t.mops) ≡ false))

leaves_last :
    (registers : Registers) (t : Transaction) (v : Version)
    → AreRead registers t.mops
    → is_ok t ≡ true
    → EndsWith v.key t v
    → Leaves t v
leaves_last registers t v reads ok ends =
    elim (left_or_set registers t.mops v.key) [
      | inl left ↦ inr (
        and_from (is_ok t) (has_version (external_reads t) v) ok
            (has_from_in v (external_reads t) (read_or_written [] t.mops v (last_in v.key (map version_in t.mops) v ends) left.1 refl)),
        left.1,
      )
      | inr set ↦ inl (set_installs registers t v (holds_last registers t.mops v.key v reads ends) set)
    ]

runs_at : (registers : Registers) (order : List Transaction) (t : Transaction) → Runs registers order → In t order → is_ok t ≡ true → (held : Registers) × AreRead held t.mops
runs_at registers [] t runs i ok = elim i [ ]
runs_at registers (u ∷ us) t runs (inl is) ok = (registers, subst (λ (x : Transaction). AreRead registers x.mops) is (runs.0 (subst (λ x. is_ok x ≡ true) (sym is) ok)))
runs_at registers (u ∷ us) t runs (inr i) ok = runs_at (after_mops registers u.mops) us t runs.1 i ok

-- ---- a process completes one transaction before it invokes the next

ended_by : (index : ℕ) (event : Operation) (found : Option Indexed) → is_ok (transaction_by index event found) ≡ true → is_some (transaction_by index event found).completion ≡ true
ended_by index event None ok = elim (false≢true ok) [ ]
ended_by index event (Some found) ok = refl

first_or_further : (invokes : Bool) (t u : Transaction) (ts : List Transaction) → In t (if invokes then u ∷ ts else ts) → (u ≡ t) ⊎ In t ts
first_or_further true t u ts i = i
first_or_further false t u ts i = inr i

ended : (index : ℕ) (events : List Operation) (t : Transaction) → In t (transactions_from index events) → is_ok t ≡ true → is_some t.completion ≡ true
ended index [] t i ok = elim i [ ]
ended index (event ∷ events) t i ok =
    let found : Option Indexed = completion_in event.process (index + 1) events in
    elim (first_or_further (is_invoke event.kind) t (transaction_by index event found) (transactions_from (index + 1) events) i) [
      | inl is ↦ subst (λ (x : Transaction). is_ok x ≡ true → is_some x.completion ≡ true) is (ended_by index event found) ok
      | inr j ↦ ended (index + 1) events t j ok
    ]

in_time : (o : Option ℕ) (n : ℕ) → is_some o ≡ true → IfSome o (λ c. c < n) → option_map_or (λ c. nat_lt c n) o false ≡ true
in_time None n some before = elim (false≢true some) [ ]
in_time (Some c) n some before = lt-ltb c n before

invoked_before : (ts : List Transaction) (t u : Transaction) (rest : List Transaction) → AreInvokedInOrder (ts ++ u ∷ rest) → In t ts → t.invocation < u.invocation
invoked_before [] t u rest times i = elim i [ ]
invoked_before (s ∷ ts) t u rest times (inl is) =
    let after : s.invocation < u.invocation =
    all_at (λ (later : Transaction). s.invocation < later.invocation) (ts ++ u ∷ rest) u
    (recursion_from_All (λ (later : Transaction). s.invocation < later.invocation) (ts ++ u ∷ rest) times.0) (in_back u ts (u ∷ rest) (inl refl)) in
    subst (λ (x : Transaction). x.invocation < u.invocation) is after
invoked_before (s ∷ ts) t u rest times (inr i) = invoked_before ts t u rest times.1 i

-- ---- a step of a process, in an order

-- t comes before u, t leaves the earlier version, and u reads or installs the later one
record IsStepInOrder (order : List Transaction) (p : VersionPair) (t u : Transaction) : Type 0 where
  first : In t order
  second : In u order
  before : Before order t u
  leaves : Leaves t p.earlier
  meets : (is_known_to_read u p.later ≡ true) ⊎ (installs u p.later ≡ true)
  one_key : p.earlier.key ≡ p.later.key
  differ : ¬ (p.earlier ≡ p.later)

different : (p : VersionPair) → is_step p ≡ true → ¬ (p.earlier ≡ p.later)
different p step same =
    let change = (and_parts (is_change p) (is_some p.later.value) step).0 in
    let apart = (and_parts (atom_eq p.earlier.key p.later.key) (not (value_eq p.earlier.value p.later.value)) change).1 in
    false≢true
    (sym (not-true (value_eq p.earlier.value p.later.value) apart) ∙ subst (λ (v : Version). value_eq p.earlier.value v.value ≡ true) same (value_eq-itself p.earlier.value))

step_in_order :
    (events : List Operation) (order : List Transaction)
    → IsExplained events order
    → (p : VersionPair)
    → IsStepBetweenTwo (transactions_of events) p
    → (t : Transaction) × (u : Transaction) × IsStepInOrder order p t u
step_in_order events order h p (front, t, between, u, rest, is, ok_t, ok_u, own, ends, nothing, met, step) =
    let ts : List Transaction = transactions_of events in
    let in_earlier : In t (front ++ t ∷ between) = in_back t front (t ∷ between) (inl refl) in
    let in_t : Contains ts t =
    Contains_from_in t ts (subst (In t) (sym is) (in_front t (front ++ t ∷ between) (u ∷ rest) in_earlier)) in
    let in_u : Contains ts u =
    Contains_from_in u ts (subst (In u) (sym is) (in_back u (front ++ t ∷ between) (u ∷ rest) (inl refl))) in
    let invoked : t.invocation < u.invocation =
    invoked_before (front ++ t ∷ between) t u rest (subst AreInvokedInOrder is (invoked_in_order events)) in_earlier in
    let ok_before : is_ok_before t u ≡ true =
    and_from (is_ok t) (option_map_or (λ c. nat_lt c u.invocation) t.completion false) ok_t
    (in_time t.completion u.invocation (ended 0 events t (in_from_Contains t ts in_t) ok_t) (completed_before events t u in_t in_u own invoked)) in
    let first : In t order = in_from_Contains t order (h.explains.all_ok t in_t ok_t) in
    let second : In u order = in_from_Contains u order (h.explains.all_ok u in_u ok_u) in
    let other : ¬ (t ≡ u) = λ same. let at : t.invocation ≡ u.invocation = ap (λ (x : Transaction). x.invocation) same in omega (arith, at, invoked) in
    let one_key : p.earlier.key ≡ p.later.key = atom_eq-same p.earlier.key p.later.key (of_one_key p step) in
    let (held, reads) = runs_at all_nil order t h.explains.runs first ok_t in (
      t,
      u,
      record {
        first = first;
        second = second;
        before = elim (one_before order t u first second other) [
          | inl forward ↦ forward
          | inr back ↦ elim (none_back order u t h.explains.realtime back ok_before) [ ]
        ];
        leaves = leaves_last held t p.earlier reads ok_t (subst (λ key. EndsWith key t p.earlier) (sym one_key) ends);
        meets = elim (met_by-read_or_installed u p.later met) [
          | inl i ↦ inl (and_from (is_ok u) (has_version (external_reads u) p.later) ok_u (has_from_in p.later (external_reads u) i))
          | inr i ↦ inr (has_from_in p.later (installed_by u) i)
        ];
        one_key = one_key;
        differ = different p step;
      },
    )

-- ---- who installs the versions

module _ (events : List Operation) (order : List Transaction) (h : IsExplained events order) (p : VersionPair) (t u : Transaction) (s : IsStepInOrder order p t u) where
  installs_earlier : (x : Transaction) → installs x p.earlier ≡ true → WritesKey p.later.key x
  installs_earlier x e = subst (λ key. WritesKey key x) s.one_key (writes_key x p.earlier (installed_is_written x p.earlier e))

  installs_later : (x : Transaction) → installs x p.later ≡ true → WritesKey p.earlier.key x
  installs_later x e = subst (λ key. WritesKey key x) (sym s.one_key) (writes_key x p.later (installed_is_written x p.later e))

  one_of : (x y : Transaction) (v : Version) → In x order → In y order → installs x v ≡ true → installs y v ≡ true → x ≡ y
  one_of x y v i j first second =
      one_writer events h.kept x y (chosen_in events order h x i).0 (chosen_in events order h y j).0 v (installed_is_written x v first) (installed_is_written y v second)

  -- the transaction that leaves the earlier version doesn't install the later one
  not_itself : (y : Transaction) → installs y p.later ≡ true → ¬ (t ≡ y)
  not_itself y later same =
      let own : installs t p.later ≡ true = subst (λ x. installs x p.later ≡ true) (sym same) later in
      elim s.leaves [
        | inl earlier ↦ s.differ (one_installed t p.earlier p.later earlier own s.one_key)
        | inr reads ↦ false≢true (sym reads.1 ∙ installs_later t own)
      ]

  -- where u reads the later version, no one between its writer and u writes the key; so t comes before that writer
  not_after : (y : Transaction) → In y order → installs y p.later ≡ true → HeldFrom order u p.later y → Before order y t → ⊥
  not_after y j later from back = elim s.leaves [
    | inl earlier ↦ from.none t back s.before (installs_earlier t earlier)
    | inr reads ↦ elim (held_in events order h t p.earlier (chosen_in events order h t s.first).0 reads.0) [
      | inl first ↦ first.1 y back (installs_later y later)
      | inr held ↦ (
          let w : Transaction = held.0 in
          let i : In w order = first_in order w t held.1.before in
          let other : ¬ (w ≡ y) =
          λ same. s.differ (one_installed y p.earlier p.later (subst (λ x. installs x p.earlier ≡ true) same held.1.installed) later s.one_key) in
          elim (one_before order w y i j other) [
            | inl before ↦ held.1.none y before back (installs_later y later)
            | inr after ↦
                from.none w after (before_both order w t u (apart_order order h.explains.different) held.1.before s.before) (installs_earlier w held.1.installed)
          ])
    ]
  ]

  before_later : (y : Transaction) → In y order → installs y p.later ≡ true → Before order t y
  before_later y j later = elim s.meets [
    | inl reads ↦ elim (one_before order t y s.first j (not_itself y later)) [
      | inl before ↦ before
      | inr back ↦ (
          let from : HeldFrom order u p.later y =
          writer_before events order h u y p.later (chosen_in events order h u s.second).0 (chosen_in events order h y j).0 reads (installed_is_written y p.later later) in
          elim (not_after y j later from back) [ ])
    ]
    | inr installed ↦ subst (Before order t) (one_of u y p.later s.second j installed later) s.before
  ]

  writers_forward : (w y : Transaction) → In w order → In y order → installs w p.earlier ≡ true → installs y p.later ≡ true → Before order w y
  writers_forward w y i j earlier later = elim s.leaves [
    | inl installed ↦ subst (λ x. Before order x y) (one_of t w p.earlier s.first i installed earlier) (before_later y j later)
    | inr reads ↦ (
        let from : HeldFrom order t p.earlier w =
        writer_before events order h t w p.earlier (chosen_in events order h t s.first).0 (chosen_in events order h w i).0 reads.0 (installed_is_written w p.earlier earlier) in
        before_both order w t y (apart_order order h.explains.different) from.before (before_later y j later))
  ]

-- who installs the earlier version of a step comes before who installs the later one
pub writers_of_step :
    (events : List Operation) (order : List Transaction)
    → IsExplained events order
    → (p : VersionPair)
    → IsStepBetweenTwo (transactions_of events) p
    → (w y : Transaction)
    → In w order
    → In y order
    → installs w p.earlier ≡ true
    → installs y p.later ≡ true
    → Before order w y
writers_of_step events order h p two =
    let (t, u, s) = step_in_order events order h p two in
    writers_forward events order h p t u s
