-- A schedule that lists give keeps dependency edges if it does at each version.
use Rattle.std.proofs.Common.{◌≡◌, ◌∙◌, ◌<◌, ◌+◌, inl, inr, ℕ, zero, suc, List, [], ◌∷◌, map, Bool, true, false, if◌then◌else◌, Option, Some, None, unwrap_or, slice_index, All, Contains, refl, sym, ap, subst, arith}
use Rattle.std.specs.Prelude.{slice_get}
use Rattle.std.specs.Option.{is_some}
use Rattle.std.specs.List.{list_any}
use Rattle.std.proofs.lemmas.Bool.{false≢true, and_parts, eq-eqb, ne_eqb}
use Rattle.std.proofs.lemmas.Option.{none-some, same_Some, slice_get_within}
use Rattle.hist_types.specs.Edges.{Label, ww, wr, rw, process, realtime, Edge, dependency_edges}
use Rattle.hist_types.specs.Phenomena.{is_rw_label, is_rw}
use Rattle.hist_types.specs.Transactions.{Transaction, Version, version_of, Open, is_ok, external_reads, reads_after, has_version, installs, writes, is_known_to_read, is_node, nodes, transactions_of}
use Rattle.hist_types.specs.Atoms.{Atom, atom_eq}
use Rattle.hist_types.specs.Operations.{Mop, read, write}
use Rattle.hist_types.specs.Versions.{pair, process_pairs, version_pairs}
use Rattle.hist_types.specs.Journal.{writes_of}
use Rattle.hist_types.specs.declared.types.KeyOrder.{KeyOrder}
use Rattle.hist_types.proofs.Members.{In, in_back, in_from_Contains, Contains_from_in, in_mapped, in_filter, passes_filter}
use Rattle.history_laws.specs.Dependencies.{Depends}
use Rattle.history_laws.specs.Times.{AreInvokedInOrder}
use Rattle.history_laws.proofs.DependencyEdges.{edges_by_versions}
use Rattle.history_laws.proofs.ThinningPaths.{any_passes}
use Rattle.history_laws.proofs.ThinningTimes.{invoked_in_order}
use Rattle.history_laws.proofs.VersionMembers.{in_from_has, has_from_in}
use Rattle.history_laws.proofs.WrittenOnce.{installed_or_over, one_writer}
use Rattle.key_versions.specs.Histories.{known_in, named_in, named_by, is_named, installs_behind, writer_of, readers_of, followers_of}
use Rattle.key_versions.specs.Tables.{Table, IsTableOf}
use Rattle.key_versions.specs.declared.types.Writer.{Writer}
use Rattle.dep_edges.specs.Histories.{History, AreOfHistory}
use Rattle.dep_edges.specs.Tables.{IsNumber, txn_at, version_at}
use Rattle.dep_edges.proofs.Marks.{place_in, to_some_place, each_of, version_is, in_if}
use Rattle.dep_edges.proofs.Out.{pair_is_behind}
use Rattle.dep_edges.proofs.Writers.{in_at, has_writer, WroteAt, writer_wrote}
use Rattle.schedules.specs.Schedules.{IsKept, is_of}
use Rattle.schedules.specs.declared.types.EdgeKinds.{EdgeKinds}
use Rattle.clean_order.specs.AtVersions.{IsBefore, IsBeforeIfOther, writers, counted, AreBefore, AreBeforeNode, KeepsAt}
use Rattle.clean_order.specs.Listed.{place, listed}

-- ---- members and places

abbrev nobody : Transaction
nobody = record { process = 0; invocation = 0; completion = None; status = Open; mops = [] }

pub txn_of :
    (ts : List Transaction) (place : ℕ) (t : Transaction)
    → slice_get ts place ≡ Some t
    → txn_at ts place ≡ t
txn_of ts place t e = ap (λ o. unwrap_or o nobody) e

pub placed :
    (ts : List Transaction)
    → AreInvokedInOrder ts
    → (k : ℕ) (t : Transaction)
    → slice_get ts k ≡ Some t
    → place t.invocation ts ≡ k
placed [] order k t e = elim (none-some t e) [ ]
placed (u ∷ ts) order zero t e =
    ap (λ b. if b then 0 else suc (place t.invocation ts)) (eq-eqb u.invocation t.invocation (ap (λ (x : Transaction). x.invocation) (same_Some u t e)))
placed (u ∷ ts) order (suc k) t e =
    let later : u.invocation < t.invocation =
    each_of (λ (x : Transaction). u.invocation < x.invocation) ts t order.0 (in_at ts k t e) in
    ap (λ b. if b then 0 else suc (place t.invocation ts)) (ne_eqb u.invocation t.invocation (λ same. absurd (omega (arith, later, same))))
    ∙ ap suc (placed ts order.1 k t e)

pub in_order : (ts : List Transaction) → AreOfHistory ts → AreInvokedInOrder ts
in_order ts (events, kept, of) = subst AreInvokedInOrder (sym of) (invoked_in_order events)

-- the number of a transaction is that at its place
pub number_of :
    (ts : List Transaction) (numbers : List ℕ)
    → AreInvokedInOrder ts
    → (k : ℕ) (t : Transaction)
    → slice_get ts k ≡ Some t
    → slice_index numbers (place t.invocation ts) ≡ slice_index numbers k
number_of ts numbers order k t e = ap (slice_index numbers) (placed ts order k t e)

pub reader_there :
    (ts : List Transaction) (v : Version) (k : ℕ) (t : Transaction)
    → slice_get ts k ≡ Some t
    → is_known_to_read t v ≡ true
    → In k (readers_of ts v)
reader_there ts v k t at known =
    to_some_place (λ place t. if is_known_to_read t v then place ∷ [] else []) 0 ts k t k at
    (subst (λ n. In k (if is_known_to_read t v then n ∷ [] else [])) (omega arith) (in_if (is_known_to_read t v) k known))

follower_there :
    (keys : KeyOrder) (ts : List Transaction) (v w : Version) (k : ℕ) (t : Transaction)
    → slice_get ts k ≡ Some t
    → In w (installs_behind (process_pairs keys ts) t v)
    → In {X = ℕ × Version} (k, w) (followers_of keys ts v)
follower_there keys ts v w k t at behind =
    let here : k ≡ 0 + k = omega arith in
    let p : ℕ × Version = (k, w) in
    let mapped : In p (map (λ (x : Version). (k, x)) (installs_behind (process_pairs keys ts) t v)) =
    in_mapped (λ (x : Version). (k, x)) w (installs_behind (process_pairs keys ts) t v) behind in
    to_some_place (λ place t. map (λ (x : Version). (place, x)) (installs_behind (process_pairs keys ts) t v)) 0 ts k t p at
    (subst (λ n. In p (map (λ (x : Version). (n, x)) (installs_behind (process_pairs keys ts) t v))) here mapped)

has_some : {X : Type 0} (o : Option X) → is_some o ≡ true → (x : X) × (o ≡ Some x)
has_some None e = elim (false≢true e) [ ]
has_some (Some x) e = (x, refl)

-- ---- what is read has a number

named_if :
    (test : Bool) (w v : Version) (rest names : List Version)
    → (In v rest → In v names)
    → In v (if test then rest else w ∷ rest)
    → In v (w ∷ names)
named_if true w v rest names f i = inr (f i)
named_if false w v rest names f (inl e) = inl e
named_if false w v rest names f (inr i) = inr (f i)

named_by_read :
    (v : Version) (written : List Atom) (mops : List Mop)
    → In v (reads_after written mops)
    → In v (named_in true mops)
named_by_read v written [] i = i
named_by_read v written (read key value ∷ mops) i =
    inr (named_if (list_any (atom_eq key) written) (record { key = key; value = value }) v (reads_after written mops) (named_in true mops)
    (named_by_read v written mops) i)
named_by_read v written (write key value ∷ mops) i =
    inr (inr (named_by_read v (key ∷ written) mops i))

is_named_by_read :
    (ts : List Transaction) (v : Version) (t : Transaction)
    → In t ts
    → is_known_to_read t v ≡ true
    → is_named ts v ≡ true
is_named_by_read ts v t i known =
    let (ok, has) = and_parts (is_ok t) (has_version (external_reads t) v) known in
    let among : In v (named_in true t.mops) =
    named_by_read v [] t.mops (in_from_has v (external_reads t) has) in
    any_passes (λ (x : Transaction). has_version (named_by x) v) t ts i
    (has_from_in v (named_by t) (subst (λ b. In v (named_in b t.mops)) (sym ok) among))

named_by_write :
    (ok : Bool) (v : Version) (mops : List Mop)
    → In v (map version_of (writes_of mops))
    → In v (named_in ok mops)
named_by_write ok v [] i = i
named_by_write ok v (read key value ∷ mops) i =
    inr (in_back v (known_in ok (read key value)) (named_in ok mops) (named_by_write ok v mops i))
named_by_write ok v (write key value ∷ mops) (inl e) = inr (inl e)
named_by_write ok v (write key value ∷ mops) (inr i) = inr (inr (named_by_write ok v mops i))

is_named_by_write :
    (ts : List Transaction) (v : Version) (t : Transaction)
    → In t ts
    → writes t v ≡ true
    → is_named ts v ≡ true
is_named_by_write ts v t i wrote =
    any_passes (λ (x : Transaction). has_version (named_by x) v) t ts i
    (has_from_in v (named_by t) (named_by_write (is_ok t) v t.mops (in_from_has v (map version_of (writes_of t.mops)) wrote)))

-- ---- dependency edges

one_that_writes :
    (ts : List Transaction)
    → AreOfHistory ts
    → (t u : Transaction) (v : Version)
    → In t ts
    → In u ts
    → writes t v ≡ true
    → writes u v ≡ true
    → t ≡ u
one_that_writes ts (events, rules, of) t u v i j first second =
    one_writer events rules t u (Contains_from_in t (transactions_of events) (subst (In t) of i)) (Contains_from_in u (transactions_of events) (subst (In u) of j)) v first second

-- who installs a version is the one that wrote it
pub writer_at :
    (ts : List Transaction)
    → AreOfHistory ts
    → (t : Transaction) (j : ℕ) (v : Version)
    → slice_get ts j ≡ Some t
    → installs t v ≡ true
    → (w : Writer) × (writer_of ts v ≡ Some w) × (w.txn ≡ j)
writer_at ts kept t j v first installed =
    let wrote : writes t v ≡ true = (installed_or_over t v).1 (inl installed) in
    let there : In t ts = in_at ts j t first in
    let some : is_some (writer_of ts v) ≡ true =
    has_writer ts v ∙ any_passes (λ x. writes x v) t ts there wrote in
    let (w, e) = has_some (writer_of ts v) some in
    let at : WroteAt ts v w = writer_wrote ts v w e in
    let among : In (txn_at ts w.txn) ts = in_from_Contains (txn_at ts w.txn) ts at.among in
    let one : txn_at ts w.txn ≡ t =
    one_that_writes ts kept (txn_at ts w.txn) t v among there at.wrote wrote in
    let order = in_order ts kept in
    (w, e, sym (placed ts order w.txn t (at.place ∙ ap Some one)) ∙ placed ts order j t first)

-- two different nodes of the history, with their places
record AreEnds (ts : List Transaction) (t u : Transaction) (j k : ℕ) : Type 0 where
  first : slice_get ts j ≡ Some t
  second : slice_get ts k ≡ Some u
  node : is_node ts u ≡ true
  other : ¬ (t.invocation ≡ u.invocation)

different : (ts : List Transaction) (t u : Transaction) (j k : ℕ) → AreEnds ts t u j k → ¬ (j ≡ k)
different ts t u j k ends same =
    ends.other (ap (λ (x : Transaction). x.invocation) (same_Some t u (sym ends.first ∙ ap (slice_get ts) same ∙ ends.second)))

-- from the start to the commit along an rw edge, and from the commit to the start along another one
abbrev IsKeptBetween : (is_rw : Bool) → (starts commits : List ℕ) → (j k : ℕ) → Type 0
IsKeptBetween is_rw starts commits j k =
    (if is_rw then slice_index starts j else slice_index commits j) < (if is_rw then slice_index commits k else slice_index starts k)

module _ (h : History) (kinds : EdgeKinds) (starts commits ends : List ℕ) (kept : AreOfHistory h.txns) (is : IsTableOf h.table.keys h.txns h.table)
    (versions : (number : ℕ) → IsNumber h.table number → KeepsAt h kinds starts commits (version_at h.table number)) where
  abbrev ts : List Transaction
  ts = h.txns

  abbrev keys : KeyOrder
  keys = h.table.keys

  abbrev table : Table
  table = h.table

  at_named : (v : Version) → is_named ts v ≡ true → KeepsAt h kinds starts commits v
  at_named v named =
      let (number, at) =
      place_in table.versions v (in_from_has v table.versions (is.named v ∙ named)) in
      subst (KeepsAt h kinds starts commits) (version_is table number v at) (versions number (slice_get_within table.versions number v at))

  at_read :
      (v : Version) (t : Transaction)
      → In t ts
      → is_known_to_read t v ≡ true
      → KeepsAt h kinds starts commits v
  at_read v t i known = at_named v (is_named_by_read ts v t i known)

  -- who installs a version is among those that wrote it
  wrote_it :
      (t : Transaction) (j : ℕ) (v : Version)
      → slice_get ts j ≡ Some t
      → installs t v ≡ true
      → In j (writers (writer_of ts v))
  wrote_it t j v first installed =
      let (w, e, same) = writer_at ts kept t j v first installed in
      subst (λ o. In j (writers o)) (sym e) (inl same)

  -- from who installs a version to who reads it, if wr edges count
  from_writer :
      kinds.wr ≡ true
      → (t u : Transaction) (j k : ℕ) (v : Version)
      → AreEnds ts t u j k
      → installs t v ≡ true
      → is_known_to_read u v ≡ true
      → IsBefore commits starts j k
  from_writer count t u j k v ends installed known =
      let readers : List ℕ = counted kinds.wr (readers_of ts v) in
      let reader : In k readers =
      subst (λ b. In k (counted b (readers_of ts v))) (sym count)
      (reader_there ts v k u ends.second known) in
      let wrote : List ℕ = writers (writer_of ts v) in
      let before : AreBefore commits starts wrote k =
      each_of (AreBefore commits starts wrote) readers k
      (at_read v u (in_at ts k u ends.second) known).readers reader in
      each_of (λ n. IsBeforeIfOther commits starts n k) wrote j before
      (wrote_it t j v ends.first installed) (different ts t u j k ends)

  -- from one of these to who installs a version after this one
  to_follower :
      (numbers others places : List ℕ) (t u : Transaction) (j k : ℕ) (v w : Version) → AreEnds ts t u j k
      → All (λ (p : ℕ × Version). AreBeforeNode ts numbers others places p.0) (followers_of keys ts v)
      → In j places → Contains (version_pairs keys ts) (pair v w) → installs u w ≡ true → IsBefore numbers others j k
  to_follower numbers others places t u j k v w ends before user paired installed =
      let behind : In w (installs_behind (process_pairs keys ts) u v) =
      pair_is_behind keys ts kept u v w (in_at ts k u ends.second) installed paired in
      let p : ℕ × Version = (k, w) in
      let follower : In p (followers_of keys ts v) =
      follower_there keys ts v w k u ends.second behind in
      let above : AreBeforeNode ts numbers others places k =
      each_of (λ (p : ℕ × Version). AreBeforeNode ts numbers others places p.0) (followers_of keys ts v) p before follower in
      let node : is_node ts (txn_at ts k) ≡ true =
      ap (is_node ts) (txn_of ts k u ends.second) ∙ ends.node in
      each_of (λ n. IsBeforeIfOther numbers others n k) places j (above node) user (different ts t u j k ends)

  by_label :
      (t u : Transaction) (j k : ℕ) (label : Label) → AreEnds ts t u j k → Depends keys ts t u label → is_of kinds label ≡ true
      → IsKeptBetween (is_rw_label label) starts commits j k
  by_label t u j k (ww v w) ends d count =
      let wrote = (installed_or_over t v).1 (inl d.1) in
      let named = is_named_by_write ts v t (in_at ts j t ends.first) wrote in
      to_follower commits starts (writers (writer_of ts v)) t u j k v w ends
      (at_named v named).from_writer (wrote_it t j v ends.first d.1) d.0 d.2
  by_label t u j k (wr v) ends d count = from_writer count t u j k v ends d.0 d.1
  by_label t u j k (rw v w) ends d count =
      let reader : In j (readers_of ts v) = reader_there ts v j t ends.first d.1 in
      let read : In j (counted kinds.rw (readers_of ts v)) =
      subst (λ b. In j (counted b (readers_of ts v))) (sym count) reader in
      to_follower starts commits (counted kinds.rw (readers_of ts v)) t u j k v w ends (at_read v t (in_at ts j t ends.first) d.1).from_readers read d.0 d.2
  by_label t u j k (process p) ends d count = elim d [ ]
  by_label t u j k (realtime c i) ends d count = elim d [ ]

  by_places :
      (e : Edge) (t u : Transaction) (j k : ℕ) → AreEnds ts t u j k → e.from ≡ t.invocation → e.to ≡ u.invocation
      → IsKeptBetween (is_rw e) starts commits j k → IsKept (listed ts starts commits ends) e
  by_places e t u j k ends from to before =
      let order : AreInvokedInOrder ts = in_order ts kept in
      let first : (numbers : List ℕ) → slice_index numbers j ≡ slice_index numbers (place e.from ts) =
      λ numbers. sym (ap (λ n. slice_index numbers (place n ts)) from ∙ number_of ts numbers order j t ends.first) in
      let second : (numbers : List ℕ) → slice_index numbers k ≡ slice_index numbers (place e.to ts) =
      λ numbers. sym (ap (λ n. slice_index numbers (place n ts)) to ∙ number_of ts numbers order k u ends.second) in
      same_order (is_rw e) (first starts) (first commits) (second starts) (second commits) before
    where
      same_order :
          (is_rw : Bool) {a b c d m n o p : ℕ} → a ≡ m → b ≡ n → c ≡ o → d ≡ p
          → (if is_rw then a else b) < (if is_rw then d else c) → (if is_rw then m else n) < (if is_rw then p else o)
      same_order true e f g h before = omega (arith, e, h, before)
      same_order false e f g h before = omega (arith, f, g, before)

  pub dependency_kept :
      (e : Edge)
      → Contains (dependency_edges keys ts) e
      → is_of kinds e.label ≡ true
      → IsKept (listed ts starts commits ends) e
  dependency_kept e c count =
      let (t, u, first, second, apart, same, depends) = (edges_by_versions keys ts e).0 c in
      let (j, at) =
      place_in ts t (in_filter (is_node ts) t ts (in_from_Contains t (nodes ts) first)) in
      let (k, there) =
      place_in ts u (in_filter (is_node ts) u ts (in_from_Contains u (nodes ts) second)) in
      let node = passes_filter (is_node ts) u ts (in_from_Contains u (nodes ts) second) in
      let ends : AreEnds ts t u j k =
      record { first = at; second = there; node = node; other = apart } in
      by_places e t u j k ends (ap (λ (d : Edge). d.from) same) (ap (λ (d : Edge). d.to) same) (by_label t u j k e.label ends depends count)
