-- No two dependency edges of a history stand at one place, so each is among those in order.
use Rattle.std.proofs.Common.{◌≡◌, ◌⊎◌, inl, inr, ℕ, ◌+◌, ◌≤◌, List, [], ◌∷◌, Bool, true, false, ◌||◌, if◌then◌else◌, Option, Some, None, Contains, IsTrue, refl, sym, ◌∙◌, ap, subst, arith}
use Rattle.std.specs.Bool.{⊤}
use Rattle.std.specs.Ordering.{nat_cmp, is_eq, ordering_then}
use Rattle.std.specs.declared.cmp.Ordering.{Ordering}
use Rattle.std.specs.declared.cmp.Ordering.TheVariants.{Less, Equal, Greater}
use Rattle.std.proofs.lemmas.Bool.{false≢true}
use Rattle.std.proofs.lemmas.Map.Lookups.{exact_bytes, exact_signed, exact_unsigned}
use Rattle.hist_types.specs.Atoms.{Atom, integer, keyword, string, symbol, Value, atom_eq, atom_cmp, value_cmp}
use Rattle.hist_types.specs.Edges.{Label, ww, wr, rw, process, realtime, Edge, edge, dependency_labels, dependency_edges}
use Rattle.hist_types.specs.Journal.{Write, writes_of, is_invoke}
use Rattle.history_laws.specs.Dependencies.{Depends}
use Rattle.hist_types.specs.Operations.{Operation}
use Rattle.hist_types.specs.EdgeOrder.{version_cmp, label_cmp, edge_cmp, in_order}
use Rattle.hist_types.specs.Transactions.{Transaction, Indexed, Version, version_of, completion_in, transaction_by, transactions_from, transactions_of, is_node, nodes, has_key, last_writes, external_writes, installed_by, installs}
use Rattle.hist_types.specs.Versions.{VersionPair, pair, version_pairs}
use Rattle.hist_types.specs.declared.types.KeyOrder.{KeyOrder}
use Rattle.history_laws.proofs.DependencyEdges.{label_depends}
use Rattle.history_laws.proofs.EdgeOrder.{in_order-among, in_order-places}
use Rattle.hist_types.proofs.Equality.{atom_eq-itself, same_version}
use Rattle.hist_types.proofs.Members.{In, in_from_Contains, in_map, in_filter}
use Rattle.history_laws.proofs.OrderEdges.{Comes, comes_from}
use Rattle.history_laws.proofs.VersionMembers.{in_from_has, pair_of_one_key}

-- ---- what is not told apart is the same

atom_cmp-equal : (a b : Atom) → atom_cmp a b ≡ Equal → a ≡ b
atom_cmp-equal (integer i) (integer j) e = ap integer (exact_signed i j e)
atom_cmp-equal (keyword a) (keyword b) e = ap keyword (exact_bytes a b e)
atom_cmp-equal (string a) (string b) e = ap string (exact_bytes a b e)
atom_cmp-equal (symbol a) (symbol b) e = ap symbol (exact_bytes a b e)
atom_cmp-equal a b e = elim (false≢true (ap is_eq e)) [ ]

value_cmp-equal : (v w : Value) → value_cmp v w ≡ Equal → v ≡ w
value_cmp-equal None None e = refl
value_cmp-equal (Some a) (Some b) e = ap Some (atom_cmp-equal a b e)
value_cmp-equal v w e = elim (false≢true (ap is_eq e)) [ ]

both_equal : (a b : Ordering) → ordering_then a b ≡ Equal → (a ≡ Equal) × (b ≡ Equal)
both_equal Equal b e = (refl, e)
both_equal Less b e = elim (false≢true (ap is_eq e)) [ ]
both_equal Greater b e = elim (false≢true (ap is_eq e)) [ ]

-- ---- a transaction has one external write of a key

no_other : (key : Atom) (ws : List Write) (w : Write) → has_key key ws ≡ false → In w (last_writes ws) → w.key ≡ key → ⊥
no_other key [] w none i same = i
no_other key (v ∷ ws) w none i same =
    let both = neither (atom_eq key v.key) (has_key key ws) none in
    elim (here_or_behind (has_key v.key ws) v w (last_writes ws) i) [
      | inl here ↦ false≢true (sym both.0 ∙ (ap (atom_eq key) (ap (λ (u : Write). u.key) here ∙ same) ∙ atom_eq-itself key))
      | inr j ↦ no_other key ws w both.1 j same
    ]
  where
    neither : (b c : Bool) → (b || c) ≡ false → (b ≡ false) × (c ≡ false)
    neither true c e = elim (false≢true (sym e)) [ ]
    neither false c e = (refl, e)

    here_or_behind : (again : Bool) (v w : Write) (rest : List Write) → In w (if again then rest else v ∷ rest) → (v ≡ w) ⊎ In w rest
    here_or_behind true v w rest i = inr i
    here_or_behind false v w rest i = i

one_write_by :
    (again : Bool) (u v w : Write) (ws : List Write)
    → has_key u.key ws ≡ again
    → In v (if again then last_writes ws else u ∷ last_writes ws)
    → In w (if again then last_writes ws else u ∷ last_writes ws)
    → v.key ≡ w.key
    → (In v (last_writes ws) → In w (last_writes ws) → v ≡ w)
    → v ≡ w
one_write_by true u v w ws e i j same further = further i j
one_write_by false u v w ws e (inl i) (inl j) same further = sym i ∙ j
one_write_by false u v w ws e (inl i) (inr j) same further = elim (no_other u.key ws w e j (sym same ∙ ap (λ (x : Write). x.key) (sym i))) [ ]
one_write_by false u v w ws e (inr i) (inl j) same further = elim (no_other u.key ws v e i (same ∙ ap (λ (x : Write). x.key) (sym j))) [ ]
one_write_by false u v w ws e (inr i) (inr j) same further = further i j

one_write : (v w : Write) (ws : List Write) → In v (last_writes ws) → In w (last_writes ws) → v.key ≡ w.key → v ≡ w
one_write v w [] i j same = elim i [ ]
one_write v w (u ∷ ws) i j same =
    one_write_by (has_key u.key ws) u v w ws refl i j same (λ k l. one_write v w ws k l same)

-- ---- a dependency label's later version is installed by the second transaction

version_cmp-equal : (v w : Version) → version_cmp v w ≡ Equal → v ≡ w
version_cmp-equal v w e =
    let both = both_equal (atom_cmp v.key w.key) (value_cmp v.value w.value) e in
    same_version v w (atom_cmp-equal v.key w.key both.0) (value_cmp-equal v.value w.value both.1)

-- a transaction installs one version of a key
one_version : (t : Transaction) (v w : Version) → In v (installed_by t) → In w (installed_by t) → v.key ≡ w.key → v ≡ w
one_version t v w i j same =
    let a = in_map version_of v (external_writes t) i in
    let b = in_map version_of w (external_writes t) j in
    let key : a.0.key ≡ b.0.key = ap (λ (x : Version). x.key) a.2 ∙ (same ∙ sym (ap (λ (x : Version). x.key) b.2)) in
    sym a.2 ∙ (ap version_of (one_write a.0 b.0 (writes_of t.mops) a.1 b.1 key) ∙ b.2)

pub one_installed : (t : Transaction) (v w : Version) → IsTrue (installs t v) → IsTrue (installs t w) → v.key ≡ w.key → v ≡ w
one_installed t v w i j same = one_version t v w (in_from_has v (installed_by t) i) (in_from_has w (installed_by t) j) same

-- what makes two labels at one place the same
abbrev IsInstalled : Transaction → Label → Type 0
IsInstalled u (ww earlier later) = (earlier.key ≡ later.key) × In later (installed_by u)
IsInstalled u (wr version) = ⊤
IsInstalled u (rw earlier later) = (earlier.key ≡ later.key) × In later (installed_by u)
IsInstalled u (process p) = ⊥
IsInstalled u (realtime completion invocation) = ⊥

one_label : (u : Transaction) (a b : Label) → IsInstalled u a → IsInstalled u b → label_cmp a b ≡ Equal → a ≡ b
one_label u (ww v w) (ww x y) i j e =
    let first : v ≡ x = version_cmp-equal v x e in
    ap (λ c. ww c w) first ∙ ap (ww x) (one_version u w y i.1 j.1 (sym i.0 ∙ (ap (λ (c : Version). c.key) first ∙ j.0)))
one_label u (wr v) (wr x) i j e = ap wr (version_cmp-equal v x e)
one_label u (rw v w) (rw x y) i j e =
    let first : v ≡ x = version_cmp-equal v x e in
    ap (λ c. rw c w) first ∙ ap (rw x) (one_version u w y i.1 j.1 (sym i.0 ∙ (ap (λ (c : Version). c.key) first ∙ j.0)))
one_label u (process p) b i j e = elim i [ ]
one_label u (realtime c d) b i j e = elim i [ ]
one_label u a b i j e = elim (false≢true (ap is_eq e)) [ ]

installed : (keys : KeyOrder) (ts : List Transaction) (t u : Transaction) (l : Label) → In l (dependency_labels (version_pairs keys ts) t u) → IsInstalled u l
installed keys ts t u l i = from l (label_depends keys ts t u l i)
  where
    from : (l : Label) → Depends keys ts t u l → IsInstalled u l
    from (ww v w) d = (pair_of_one_key keys ts (pair v w) (in_from_Contains (pair v w) (version_pairs keys ts) d.0), in_from_has w (installed_by u) d.2)
    from (wr v) d = tt
    from (rw v w) d = (pair_of_one_key keys ts (pair v w) (in_from_Contains (pair v w) (version_pairs keys ts) d.0), in_from_has w (installed_by u) d.2)
    from (process p) d = d
    from (realtime c e) d = d

-- ---- a transaction is told by the index of its invocation

invoked_at : (index : ℕ) (event : Operation) (completion : Option Indexed) → (transaction_by index event completion).invocation ≡ index
invoked_at index event None = refl
invoked_at index event (Some c) = refl

first_or_later :
    (invokes : Bool) (t u : Transaction) (ts : List Transaction)
    → In t (if invokes then u ∷ ts else ts)
    → (u ≡ t) ⊎ In t ts
first_or_later true t u ts i = i
first_or_later false t u ts i = inr i

not_before : (index : ℕ) (events : List Operation) (t : Transaction) → In t (transactions_from index events) → index ≤ t.invocation
not_before index [] t i = elim i [ ]
not_before index (event ∷ events) t i =
    let made = transaction_by index event (completion_in event.process (index + 1) events) in
    elim (first_or_later (is_invoke event.kind) t made (transactions_from (index + 1) events) i) [
      | inl here ↦ (
          let n : t.invocation ≡ index = ap (λ (x : Transaction). x.invocation) (sym here) ∙ invoked_at index event (completion_in event.process (index + 1) events) in
          omega (arith, n))
      | inr j ↦ omega (arith, not_before (index + 1) events t j)
    ]

one_transaction : (index : ℕ) (events : List Operation) (t u : Transaction) → In t (transactions_from index events) → In u (transactions_from index events) → t.invocation ≡ u.invocation → t ≡ u
one_transaction index [] t u i j same = elim i [ ]
one_transaction index (event ∷ events) t u i j same =
    let made = transaction_by index event (completion_in event.process (index + 1) events) in
    let rest = transactions_from (index + 1) events in
    let at : (x : Transaction) → made ≡ x → x.invocation ≡ index = λ x here. ap (λ (y : Transaction). y.invocation) (sym here) ∙ invoked_at index event (completion_in event.process (index + 1) events) in
    elim (first_or_later (is_invoke event.kind) t made rest i) [
      | inl first ↦ elim (first_or_later (is_invoke event.kind) u made rest j) [
        | inl second ↦ sym first ∙ second
        | inr later ↦ (let none : ⊥ = omega (arith, same, at t first, not_before (index + 1) events u later) in elim none [ ])
      ]
      | inr later ↦ elim (first_or_later (is_invoke event.kind) u made rest j) [
        | inl second ↦ (let none : ⊥ = omega (arith, same, at u second, not_before (index + 1) events t later) in elim none [ ])
        | inr last ↦ one_transaction (index + 1) events t u later last same
      ]
    ]

-- ---- edges

abbrev the_edge : ℕ → ℕ → Label → Edge
the_edge from to label = record { from = from; to = to; label = label }

pub one_edge : (keys : KeyOrder) (events : List Operation) (e f : Edge) → In e (dependency_edges keys (transactions_of events)) → In f (dependency_edges keys (transactions_of events)) → edge_cmp e f ≡ Equal → e ≡ f
one_edge keys events e f i j same =
    let ts : List Transaction = transactions_of events in
    let pairs : List VersionPair = version_pairs keys ts in
    let a : Comes (nodes ts) (dependency_labels pairs) e = comes_from (nodes ts) (dependency_labels pairs) e i in
    let b : Comes (nodes ts) (dependency_labels pairs) f = comes_from (nodes ts) (dependency_labels pairs) f j in
    let l = in_map (edge a.0 a.1) e (dependency_labels pairs a.0 a.1) a.5 in
    let m = in_map (edge b.0 b.1) f (dependency_labels pairs b.0 b.1) b.5 in
    let parts = both_equal (nat_cmp e.from f.from) (ordering_then (nat_cmp e.to f.to) (label_cmp e.label f.label)) same in
    let further = both_equal (nat_cmp e.to f.to) (label_cmp e.label f.label) parts.1 in
    let from : e.from ≡ f.from = exact_unsigned e.from f.from parts.0 in
    let to : e.to ≡ f.to = exact_unsigned e.to f.to further.0 in
    let first : e.to ≡ a.1.invocation = ap (λ (d : Edge). d.to) (sym l.2) in
    let second : f.to ≡ b.1.invocation = ap (λ (d : Edge). d.to) (sym m.2) in
    let one : b.1 ≡ a.1 = one_transaction 0 events b.1 a.1 (in_filter (is_node ts) b.1 ts b.3) (in_filter (is_node ts) a.1 ts a.3) (sym second ∙ (sym to ∙ first)) in
    let here : IsInstalled a.1 e.label = subst (IsInstalled a.1) (ap (λ (d : Edge). d.label) l.2) (installed keys ts a.0 a.1 l.0 l.1) in
    let there : IsInstalled b.1 f.label = subst (IsInstalled b.1) (ap (λ (d : Edge). d.label) m.2) (installed keys ts b.0 b.1 m.0 m.1) in
    let label : e.label ≡ f.label = one_label a.1 e.label f.label here (subst (λ u. IsInstalled u f.label) one there) further.1 in
    ap (λ n. the_edge n e.to e.label) from ∙ (ap (λ n. the_edge f.from n e.label) to ∙ ap (the_edge f.from f.to) label)

pub in_order-all : (keys : KeyOrder) (events : List Operation) (e : Edge) → Contains (dependency_edges keys (transactions_of events)) e → Contains (in_order (dependency_edges keys (transactions_of events))) e
in_order-all keys events e c =
    let es : List Edge = dependency_edges keys (transactions_of events) in
    let found = in_order-places es e c in
    let same : e ≡ found.0 = one_edge keys events e found.0 (in_from_Contains e es c) (in_from_Contains found.0 es (in_order-among es found.0 found.1)) found.2 in
    subst (Contains (in_order es)) (sym same) found.1
