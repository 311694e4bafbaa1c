-- Transactions by place and versions by number, and what the places of readers and followers say.
use Rattle.std.proofs.Common.{◌≡◌, ◌∙◌, ◌<◌, ◌+◌, inl, inr, ℕ, List, [], ◌∷◌, length, get_or, map, Bool, true, false, if◌then◌else◌, Option, Some, None, unwrap_or, refl, sym, ap, subst, arith, pos}
use Rattle.std.specs.Prelude.{slice_get}
use Rattle.std.proofs.lemmas.Bool.{cases_lt, and_from, and_parts, or_left}
use Rattle.std.proofs.lemmas.Option.{none-some, slice_get_within, slice_get-get_or, get_or_from_slice_get}
use Rattle.hist_types.specs.Transactions.{Transaction, Version, is_ok, external_reads, has_version, is_known_to_read, is_node, Open}
use Rattle.hist_types.specs.Versions.{nil_of, process_pairs}
use Rattle.hist_types.specs.Atoms.{integer}
use Rattle.hist_types.specs.declared.types.KeyOrder.{KeyOrder}
use Rattle.hist_types.proofs.Members.{In, in_from_Contains, Contains_from_in, in_mapped, in_map, in_filter, in_filtered, passes_filter}
use Rattle.history_laws.proofs.ThinningTimes.{invoked_in_order}
use Rattle.history_laws.proofs.VersionMembers.{in_from_has, has_from_in}
use Rattle.history_laws.specs.Times.{AreInvokedInOrder}
use Rattle.key_versions.specs.Histories.{read_by, installs_behind, readers_of, followers_of}
use Rattle.key_versions.specs.Tables.{Table}
use Rattle.dep_edges.specs.Histories.{AreOfHistory}
use Rattle.dep_edges.specs.Tables.{txn_at, version_at}
use Rattle.dep_edges.proofs.Marks.{to_some_place}
use Rattle.dep_edges.proofs.Places.{from_some_place}
use Rattle.edge_graph.specs.LaidOut.{nodes_behind}
use Rattle.edge_graph.proofs.Placed.{order_at}

-- ---- by place

abbrev nobody : Transaction
nobody = record { process = 0; invocation = 0; completion = None; status = Open; mops = [] }

pub txn_there : (ts : List Transaction) (place : ℕ) → place < length ts → slice_get ts place ≡ Some (txn_at ts place)
txn_there ts place h = slice_get-get_or ts place (txn_at ts place) h ∙ ap Some (at (slice_get ts place) refl)
  where
    at : (o : Option Transaction) → slice_get ts place ≡ o → get_or ts place (txn_at ts place) ≡ txn_at ts place
    at (Some t) e = get_or_from_slice_get ts place t (txn_at ts place) e ∙ sym (ap (λ o. unwrap_or o nobody) e)
    at None e = absurd (none-some (get_or ts place nobody) (sym e ∙ slice_get-get_or ts place nobody h))

pub txn_of : (ts : List Transaction) (place : ℕ) (t : Transaction) → slice_get ts place ≡ Some t → txn_at ts place ≡ t
txn_of ts place t e = ap (λ o. unwrap_or o nobody) e

pub txn_in : (ts : List Transaction) (place : ℕ) → place < length ts → In (txn_at ts place) ts
txn_in ts place h =
    let there = txn_there ts place h in
    in_from_Contains (txn_at ts place) ts (place, h, get_or_from_slice_get ts place (txn_at ts place) (txn_at ts place) there)

pub place_by : (ts : List Transaction) (t : Transaction) → In t ts → (place : ℕ) × (place < length ts) × (txn_at ts place ≡ t)
place_by ts t i =
    let (place, h, at) = Contains_from_in t ts i in
    (place, h, txn_of ts place t (slice_get-get_or ts place t h ∙ ap Some at))

in_order : (ts : List Transaction) → AreOfHistory ts → AreInvokedInOrder ts
in_order ts (events, kept, of) = subst AreInvokedInOrder (sym of) (invoked_in_order events)

pub earlier : (ts : List Transaction) → AreOfHistory ts → (p q : ℕ) → p < q → q < length ts → (txn_at ts p).invocation < (txn_at ts q).invocation
earlier ts kept p q h k =
    let d = nobody in
    let inv = λ (t : Transaction). t.invocation in
    let low = get_or_from_slice_get ts p (txn_at ts p) d (txn_there ts p (omega arith)) in
    let high = get_or_from_slice_get ts q (txn_at ts q) d (txn_there ts q k) in
    omega (arith, order_at ts p q d (in_order ts kept) h k, ap inv low, ap inv high)

pub one_place : (ts : List Transaction) → AreOfHistory ts → (p q : ℕ) → p < length ts → q < length ts → (txn_at ts p).invocation ≡ (txn_at ts q).invocation → p ≡ q
one_place ts kept p q h k same =
    elim (cases_lt p q) [
      | inl low ↦ absurd (omega (arith, earlier ts kept p q low k, same))
      | inr up ↦ elim (cases_lt q p) [ inl low ↦ absurd (omega (arith, earlier ts kept q p low h, same)) | inr down ↦ omega (arith, up, down) ]
    ]

-- ---- by number

abbrev nothing : Version
nothing = nil_of (integer (pos 0))

pub version_there : (table : Table) (number : ℕ) → number < length table.versions → slice_get table.versions number ≡ Some (version_at table number)
version_there table number h = slice_get-get_or table.versions number (version_at table number) h ∙ ap Some (at (slice_get table.versions number) refl)
  where
    at : (o : Option Version) → slice_get table.versions number ≡ o → get_or table.versions number (version_at table number) ≡ version_at table number
    at (Some v) e = get_or_from_slice_get table.versions number v (version_at table number) e ∙ sym (ap (λ o. unwrap_or o nothing) e)
    at None e = absurd (none-some (get_or table.versions number nothing) (sym e ∙ slice_get-get_or table.versions number nothing h))

pub version_of_number : (table : Table) (number : ℕ) (v : Version) → slice_get table.versions number ≡ Some v → version_at table number ≡ v
version_of_number table number v e = ap (λ o. unwrap_or o nothing) e

-- ---- readers and followers

in_if : (test : Bool) (n m : ℕ) → In m (if test then n ∷ [] else []) → (test ≡ true) × (n ≡ m)
in_if true n m (inl e) = (refl, e)
in_if true n m (inr i) = absurd i
in_if false n m i = absurd i

if_in : (test : Bool) (n : ℕ) → test ≡ true → In n (if test then n ∷ [] else [])
if_in test n e = subst (λ b. In n (if b then n ∷ [] else [])) (sym e) (inl refl)

pub reader_at : (ts : List Transaction) (v : Version) (place : ℕ) → In place (readers_of ts v) → (place < length ts) × (is_known_to_read (txn_at ts place) v ≡ true)
reader_at ts v place i =
    let (j, t, get, among) = from_some_place (λ place t. if is_known_to_read t v then place ∷ [] else []) 0 ts place i in
    let (read, same) = in_if (is_known_to_read t v) (0 + j) place among in
    let here : j ≡ place = omega (arith, same) in
    let there : slice_get ts place ≡ Some t = ap (slice_get ts) (sym here) ∙ get in
    (slice_get_within ts place t there, ap (λ x. is_known_to_read x v) (txn_of ts place t there) ∙ read)

pub at_reader : (ts : List Transaction) (v : Version) (place : ℕ) → place < length ts → is_known_to_read (txn_at ts place) v ≡ true → In place (readers_of ts v)
at_reader ts v place h read =
    let at : 0 + place ≡ place = omega arith in
    to_some_place (λ place t. if is_known_to_read t v then place ∷ [] else []) 0 ts place (txn_at ts place) place (txn_there ts place h)
    (subst (λ n. In place (if is_known_to_read (txn_at ts place) v then n ∷ [] else [])) (sym at) (if_in (is_known_to_read (txn_at ts place) v) place read))

abbrev at_place : ℕ × Version → ℕ
at_place p = p.0

pub node_behind :
    (keys : KeyOrder) (ts : List Transaction) (v : Version) (place : ℕ) → In place (nodes_behind keys ts v)
    → (w : Version) × (place < length ts) × (is_node ts (txn_at ts place) ≡ true) × In w (installs_behind (process_pairs keys ts) (txn_at ts place) v)
node_behind keys ts v place i =
    let test = λ (n : ℕ). is_node ts (txn_at ts n) in
    let places = map at_place (followers_of keys ts v) in
    let (p, among, same) = in_map at_place place (followers_of keys ts v) (in_filter test place places i) in
    let (j, t, get, there) = from_some_place (λ place t. map (λ w. (place, w)) (installs_behind (process_pairs keys ts) t v)) 0 ts p among in
    let (w, behind, is) = in_map (λ (w : Version). (0 + j, w)) p (installs_behind (process_pairs keys ts) t v) there in
    let here : j ≡ place = omega (arith, ap at_place is, same) in
    let found : slice_get ts place ≡ Some t = ap (slice_get ts) (sym here) ∙ get in (
      w,
      slice_get_within ts place t found,
      passes_filter test place places i,
      subst (λ x. In w (installs_behind (process_pairs keys ts) x v)) (sym (txn_of ts place t found)) behind,
    )

pub behind_node :
    (keys : KeyOrder) (ts : List Transaction) (v w : Version) (place : ℕ) → place < length ts → is_node ts (txn_at ts place) ≡ true → In w (installs_behind (process_pairs keys ts) (txn_at ts place) v)
    → In place (nodes_behind keys ts v)
behind_node keys ts v w place h node behind =
    let test = λ (n : ℕ). is_node ts (txn_at ts n) in
    let at : 0 + place ≡ place = omega arith in
    let t = txn_at ts place in
    let p : ℕ × Version = (place, w) in
    let there : In p (followers_of keys ts v) =
    to_some_place (λ place t. map (λ w. (place, w)) (installs_behind (process_pairs keys ts) t v)) 0 ts place t p (txn_there ts place h)
    (subst (λ n. In p (map (λ w. (n, w)) (installs_behind (process_pairs keys ts) t v))) (sym at) (in_mapped (λ (w : Version). (place, w)) w (installs_behind (process_pairs keys ts) t v) behind)) in
    in_filtered test place (map at_place (followers_of keys ts v)) (in_mapped at_place p (followers_of keys ts v) there) node

-- ---- reads

by_ok : (ok : Bool) (v : Version) (vs : List Version) → In v (if ok then vs else []) → (ok ≡ true) × In v vs
by_ok true v vs i = (refl, i)
by_ok false v vs i = absurd i

pub read_from : (t : Transaction) (v : Version) → In v (read_by t) → is_known_to_read t v ≡ true
read_from t v i =
    let (ok, among) = by_ok (is_ok t) v (external_reads t) i in
    and_from (is_ok t) (has_version (external_reads t) v) ok (has_from_in v (external_reads t) among)

pub read_to : (t : Transaction) (v : Version) → is_known_to_read t v ≡ true → In v (read_by t)
read_to t v read =
    let (ok, has) = and_parts (is_ok t) (has_version (external_reads t) v) read in
    subst (λ b. In v (if b then external_reads t else [])) (sym ok) (in_from_has v (external_reads t) has)

-- a reader is ok, and so a node
pub reader_is_node : (ts : List Transaction) (t : Transaction) (v : Version) → is_known_to_read t v ≡ true → is_node ts t ≡ true
reader_is_node ts t v read = or_left (is_ok t) _ (and_parts (is_ok t) (has_version (external_reads t) v) read).0
