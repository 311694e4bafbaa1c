-- The version pairs of a history are by the followers of its versions that are nodes.
use Rattle.std.proofs.Common.{◌≡◌, ◌↔◌, ◌∙◌, ◌+◌, inl, inr, ℕ, List, [], ◌∷◌, ◌++◌, length, map, Bool, true, false, cond, not, ◌&&◌, ◌||◌, ◌==◌, Option, Some, None, is_some, Contains, refl, sym, ap, subst, arith}
use Rattle.std.specs.Prelude.{slice_get}
use Rattle.std.specs.Option.{is_none, option_or}
use Rattle.std.proofs.lemmas.Bool.{false≢true, and_parts, and_from, or_cases, or_left, or_right, cases_Bool, not-true}
use Rattle.std.proofs.lemmas.List.{length-map}
use Rattle.std.proofs.lemmas.List.Folds.{list_any-append}
use Rattle.std.proofs.lemmas.Option.{none-some, same_Some, slice_get_within}
use Rattle.hist_types.specs.Atoms.{Atom, Value, atom_eq, value_eq}
use Rattle.hist_types.specs.Operations.{Mop, read, write}
use Rattle.op_view.specs.Mops.{key_of}
use Rattle.history_laws.specs.Dependencies.{IsProcessPair, IsVersionPair}
use Rattle.hist_types.specs.Lists.{HasExactly}
use Rattle.hist_types.specs.Transactions.{Transaction, Version, version_eq, has_version, is_ok, external_reads, installed_by, installs, is_known_to_read, is_node, nodes}
use Rattle.hist_types.specs.Versions.{VersionPair, pair, nil_of, is_change, version_in, seen_by, last_of, process_pairs, version_pairs}
use Rattle.hist_types.specs.declared.types.KeyOrder.{KeyOrder}
use Rattle.hist_types.specs.declared.types.KeyOrder.TheVariants.{Basic, Sequential}
use Rattle.hist_types.proofs.Equality.{atom_eq-same, atom_eq-itself, value_eq-same, value_eq-itself, version_eq-same, version_eq-itself, same_version}
use Rattle.hist_types.proofs.Members.{In, in_from_Contains, Contains_from_in, in_some, in_each, in_if, in_mapped, in_map, in_filter, in_filtered, passes_filter}
use Rattle.history_laws.proofs.ProcessPairs.{process_pairs-steps, is_step_of}
use Rattle.history_laws.proofs.VersionMembers.{in_from_has, has_from_in, pairs_by_membership}
use Rattle.history_laws.proofs.WrittenOnce.{nil_unwritten, installed_or_over}
use Rattle.key_versions.specs.Histories.{known_in, named_in, named_by, is_named, same_pair, has_pair, is_followed, installs_behind, followers_of}
use Rattle.key_versions.specs.Pairs.{IsNodeAt, IsFollowedByNode, IsInstalledPair, IsPairByTable}
use Rattle.key_versions.specs.Tables.{Table, IsTableOf, followers_at}
use Rattle.key_versions.specs.declared.types.Follower.{Follower}
use Rattle.key_versions.proofs.ByPlace.{place_in, in_place, from_some_place, to_place}
use Rattle.key_versions.proofs.Lists.{agree_at, is_at}
use Rattle.key_versions.proofs.Stepping.{own_of}
use Rattle.key_versions.proofs.Unnamed.{unnamed_followers}

-- ---- steps

-- a pair that the test finds
pub pair_in : (ps : List VersionPair) (p : VersionPair) → has_pair ps p ≡ true → In p ps
pair_in [] p e = elim (false≢true e) [ ]
pair_in (q ∷ ps) p e = elim (or_cases (same_pair p q) (has_pair ps p) e) [
  | inl is ↦ (
      let (first, second) = and_parts (version_eq p.earlier q.earlier) (version_eq p.later q.later) is in
      let earlier : q.earlier ≡ p.earlier = sym (version_eq-same p.earlier q.earlier first) in
      let later : q.later ≡ p.later = sym (version_eq-same p.later q.later second) in
      inl (ap (λ v. pair v q.later) earlier ∙ ap (pair p.earlier) later))
  | inr further ↦ inr (pair_in ps p further)
]

pub has_pair_in : (ps : List VersionPair) (p : VersionPair) → In p ps → has_pair ps p ≡ true
has_pair_in [] p i = elim i [ ]
has_pair_in (q ∷ ps) p (inl e) =
    or_left (same_pair p q) (has_pair ps p)
    (subst (λ (x : VersionPair). same_pair p x ≡ true) (sym e) (and_from (version_eq p.earlier p.earlier) (version_eq p.later p.later) (version_eq-itself p.earlier) (version_eq-itself p.later)))
has_pair_in (q ∷ ps) p (inr i) = or_right (same_pair p q) (has_pair ps p) (has_pair_in ps p i)

last_among : (key : Atom) (vs : List Version) (v : Version) → last_of key vs ≡ Some v → In v vs
last_among key [] v e = elim (none-some v e) [ ]
last_among key (w ∷ vs) v e = by (last_of key vs) (atom_eq key w.key) (last_among key vs v) e
  where
    by : (o : Option Version) (b : Bool) → (o ≡ Some v → In v vs) → option_or o (cond b (Some w) None) ≡ Some v → In v (w ∷ vs)
    by (Some u) b further is = inr (further is)
    by None true further is = inl (same_Some w v is)
    by None false further is = elim (none-some v is) [ ]

known_mop : (m : Mop) → In (version_in m) (known_in true m)
known_mop (read key value) = inl refl
known_mop (write key value) = inl refl

named_from : (ts : List Transaction) (t : Transaction) (v : Version) → In t ts → has_version (named_by t) v ≡ true → is_named ts v ≡ true
named_from [] t v i has = elim i [ ]
named_from (u ∷ ts) t v (inl e) has = or_left (has_version (named_by u) v) (is_named ts v) (subst (λ (x : Transaction). has_version (named_by x) v ≡ true) (sym e) has)
named_from (u ∷ ts) t v (inr i) has = or_right (has_version (named_by u) v) (is_named ts v) (named_from ts t v i has)

-- what a process saw is named
seen_named : (process : ℕ) (ts : List Transaction) (v : Version) → In v (seen_by process ts) → is_named ts v ≡ true
seen_named process ts v i =
    let (t, among, own) = in_some (own_of process) v ts i in
    let (mine, seen) = in_if v (is_ok t && (t.process == process)) (map version_in t.mops) own in
    let ok : is_ok t ≡ true = (and_parts (is_ok t) (t.process == process) mine).0 in
    let (m, there, is) = in_map version_in v t.mops seen in
    let f = λ (m : Mop). nil_of (key_of m) ∷ known_in true m in
    let named : In (version_in m) (named_in true t.mops) = in_each f (version_in m) m t.mops there (inr (known_mop m)) in
    named_from ts t v among
    (subst (λ b. has_version (named_in b t.mops) v ≡ true) (sym ok) (has_from_in v (named_in true t.mops) (subst (λ w. In w (named_in true t.mops)) is named)))

named_before : (earlier rest : List Transaction) (v : Version) → is_named earlier v ≡ true → is_named (earlier ++ rest) v ≡ true
named_before earlier rest v named =
    list_any-append (λ (t : Transaction). has_version (named_by t) v) earlier rest ∙ or_left (is_named earlier v) (is_named rest v) named

pub step_named : (keys : KeyOrder) (ts : List Transaction) (p : VersionPair) → In p (process_pairs keys ts) → is_named ts p.earlier ≡ true
step_named Basic ts p i = elim i [ ]
step_named Sequential ts p i =
    let (earlier, u, rest, is, ok, met, last, step) = (process_pairs-steps ts p).0 (Contains_from_in p (process_pairs Sequential ts) i) in
    subst (λ xs. is_named xs p.earlier ≡ true) (sym is)
    (named_before earlier (u ∷ rest) p.earlier
    (seen_named u.process earlier p.earlier (last_among p.later.key (seen_by u.process earlier) p.earlier last)))

-- ---- followers by place

abbrev follower_by : List VersionPair → Version → ℕ → Transaction → List (ℕ × Version)
follower_by steps v place t = map (λ (w : Version). (place, w)) (installs_behind steps t v)

-- a follower, by the transaction at its place
follows :
    (keys : KeyOrder) (ts : List Transaction) (v w : Version) (place : ℕ) (t : Transaction) → slice_get ts place ≡ Some t
    → In w (installs_behind (process_pairs keys ts) t v) → In (place, w) (followers_of keys ts v)
follows keys ts v w place t at i =
    let steps = process_pairs keys ts in
    let here : place ≡ 0 + place = omega arith in
    let mapped : In (place, w) (follower_by steps v place t) = in_mapped (λ (w : Version). (place, w)) w (installs_behind steps t v) i in
    to_place (follower_by steps v) 0 ts place t (place, w) at (subst (λ n. In (place, w) (follower_by steps v n t)) here mapped)

followed :
    (keys : KeyOrder) (ts : List Transaction) (v w : Version) (place : ℕ) (t : Transaction) → slice_get ts place ≡ Some t
    → In (place, w) (followers_of keys ts v) → In w (installs_behind (process_pairs keys ts) t v)
followed keys ts v w place t at i =
    let steps = process_pairs keys ts in
    let (j, u, get, among) = from_some_place (follower_by steps v) 0 ts (place, w) i in
    let (x, behind, is) = in_map (λ (w : Version). (0 + j, w)) (place, w) (installs_behind steps u v) among in
    let first : 0 + j ≡ place = ap (λ (p : ℕ × Version). p.0) is in
    let here : j ≡ place = omega (arith, first) in
    let second : x ≡ w = ap (λ (p : ℕ × Version). p.1) is in
    let one : u ≡ t = same_Some u t (sym get ∙ ap (slice_get ts) here ∙ at) in
    subst (λ t. In w (installs_behind steps t v)) one (subst (λ y. In y (installs_behind steps u v)) second behind)

-- ---- a pair gives a follower

other_than_nil : (value : Value) → ¬ (value ≡ None) → not (value_eq None value) ≡ true
other_than_nil None other = elim (other refl) [ ]
other_than_nil (Some a) other = refl

-- a version that a transaction installs behind another one of its key
behind :
    (steps : List VersionPair) (t : Transaction) (v w : Version) → (has_pair steps (pair v w) || (is_none v.value || is_known_to_read t v)) ≡ true
    → is_change (pair v w) ≡ true → installs t w ≡ true → In w (installs_behind steps t v)
behind steps t v w known change installed =
    in_filtered (is_followed steps t v) w (installed_by t) (in_from_has w (installed_by t) installed)
    (and_from (has_pair steps (pair v w) || (is_none v.value || is_known_to_read t v)) (is_change (pair v w)) known change)

-- nil is followed by all that is installed
behind_nil : (steps : List VersionPair) (t : Transaction) (w : Version) → installs t w ≡ true → In w (installs_behind steps t (nil_of w.key))
behind_nil steps t w installed =
    let other : ¬ (w.value ≡ None) = nil_unwritten t w ((installed_or_over t w).1 (inl installed)) in
    behind steps t (nil_of w.key) w (or_right (has_pair steps (pair (nil_of w.key) w)) true refl)
    (and_from (atom_eq w.key w.key) (not (value_eq None w.value)) (atom_eq-itself w.key) (other_than_nil w.value other)) installed

apart : (v w : Version) → v.key ≡ w.key → ¬ (v ≡ w) → is_change (pair v w) ≡ true
apart v w same differ =
    and_from (atom_eq v.key w.key) (not (value_eq v.value w.value)) (subst (λ k. atom_eq v.key k ≡ true) same (atom_eq-itself v.key))
    (elim (cases_Bool (value_eq v.value w.value)) [
      | inl one ↦ elim (differ (same_version v w same (value_eq-same v.value w.value one))) [ ]
      | inr e ↦ ap not e
    ])

behind_read :
    (steps : List VersionPair) (t : Transaction) (v w : Version) → v.key ≡ w.key → ¬ (v ≡ w) → is_known_to_read t v ≡ true → installs t w ≡ true
    → In w (installs_behind steps t v)
behind_read steps t v w same differ reads installed =
    behind steps t v w (or_right (has_pair steps (pair v w)) (is_none v.value || is_known_to_read t v) (or_right (is_none v.value) (is_known_to_read t v) reads))
    (apart v w same differ) installed

behind_step :
    (keys : KeyOrder) (ts : List Transaction) (t : Transaction) (p : VersionPair) → IsProcessPair keys ts p → installs t p.later ≡ true
    → In p.later (installs_behind (process_pairs keys ts) t p.earlier)
behind_step keys ts t p step installed =
    let steps = process_pairs keys ts in
    behind steps t p.earlier p.later
    (or_left (has_pair steps p) (is_none p.earlier.value || is_known_to_read t p.earlier) (has_pair_in steps p (in_from_Contains p steps step)))
    (and_parts (is_change p) (is_some p.later.value) (is_step_of keys ts p step)).0 installed

reader_is_node : (ts : List Transaction) (t : Transaction) (v : Version) → is_known_to_read t v ≡ true → is_node ts t ≡ true
reader_is_node ts t v reads = or_left (is_ok t) _ (and_parts (is_ok t) (has_version (external_reads t) v) reads).0

by_node :
    (keys : KeyOrder) (ts : List Transaction) (p : VersionPair) (t : Transaction) → In t ts → is_node ts t ≡ true
    → In p.later (installs_behind (process_pairs keys ts) t p.earlier) → IsFollowedByNode keys ts p
by_node keys ts p t i node behind =
    let (place, at) = place_in t ts i in
    (place, (t, at, node), Contains_from_in (place, p.later) (followers_of keys ts p.earlier) (follows keys ts p.earlier p.later place t at behind))

-- what a node installs behind nil or behind a step, and what a transaction installs behind what it reads
to_follower :
    (keys : KeyOrder) (ts : List Transaction) (p : VersionPair) (t : Transaction) → Contains (nodes ts) t → installs t p.later ≡ true → IsVersionPair keys ts p
    → IsFollowedByNode keys ts p
to_follower keys ts p t among installed (inl (nil, u, there, wrote)) =
    let i : In t (nodes ts) = in_from_Contains t (nodes ts) among in
    by_node keys ts p t (in_filter (is_node ts) t ts i) (passes_filter (is_node ts) t ts i)
    (subst (λ v. In p.later (installs_behind (process_pairs keys ts) t v)) (sym nil) (behind_nil (process_pairs keys ts) t p.later installed))
to_follower keys ts p t among installed (inr (inl (same, differ, u, there, reads, wrote))) =
    by_node keys ts p u (in_from_Contains u ts there) (reader_is_node ts u p.earlier reads)
    (behind_read (process_pairs keys ts) u p.earlier p.later same differ reads wrote)
to_follower keys ts p t among installed (inr (inr step)) =
    let i : In t (nodes ts) = in_from_Contains t (nodes ts) among in
    by_node keys ts p t (in_filter (is_node ts) t ts i) (passes_filter (is_node ts) t ts i) (behind_step keys ts t p step installed)

-- ---- a follower gives a pair

no_value : (value : Value) → is_none value ≡ true → value ≡ None
no_value None e = refl
no_value (Some a) e = elim (false≢true e) [ ]

differs : (v w : Version) → not (value_eq v.value w.value) ≡ true → ¬ (v ≡ w)
differs v w change same =
    false≢true (sym (not-true (value_eq v.value w.value) change) ∙ subst (λ (x : Version). value_eq v.value x.value ≡ true) same (value_eq-itself v.value))

from_follower : (keys : KeyOrder) (ts : List Transaction) (p : VersionPair) → IsFollowedByNode keys ts p → IsInstalledPair keys ts p
from_follower keys ts p (place, (t, at, node), among) =
    let steps = process_pairs keys ts in
    let v : Version = p.earlier in
    let w : Version = p.later in
    let behind : In w (installs_behind steps t v) = followed keys ts v w place t at (in_from_Contains (place, w) (followers_of keys ts v) among) in
    let installed : installs t w ≡ true = has_from_in w (installed_by t) (in_filter (is_followed steps t v) w (installed_by t) behind) in
    let (known, change) =
    and_parts (has_pair steps (pair v w) || (is_none v.value || is_known_to_read t v)) (is_change (pair v w)) (passes_filter (is_followed steps t v) w (installed_by t) behind) in
    let (keys_same, values) = and_parts (atom_eq v.key w.key) (not (value_eq v.value w.value)) change in
    let same : v.key ≡ w.key = atom_eq-same v.key w.key keys_same in
    let there : In t ts = in_place t ts place at in
    let is_of_nodes : Contains (nodes ts) t = Contains_from_in t (nodes ts) (in_filtered (is_node ts) t ts there node) in
    let is : IsVersionPair keys ts p =
    elim (or_cases (has_pair steps (pair v w)) (is_none v.value || is_known_to_read t v) known) [
      | inl step ↦ inr (inr (Contains_from_in p steps (pair_in steps p step)))
      | inr first ↦ elim (or_cases (is_none v.value) (is_known_to_read t v) first) [
        | inl none ↦ inl (same_version v (nil_of w.key) same (no_value v.value none), t, is_of_nodes, installed)
        | inr reads ↦ inr (inl (same, differs v w values, t, Contains_from_in t ts there, reads, installed))
      ]
    ] in
    ((pairs_by_membership keys ts p).1 is, t, is_of_nodes, installed)

pub pairs_by_followers : (keys : KeyOrder) (ts : List Transaction) (p : VersionPair) → IsInstalledPair keys ts p ↔ IsFollowedByNode keys ts p
pairs_by_followers keys ts p = (
  λ (c, t, among, installed). to_follower keys ts p t among installed ((pairs_by_membership keys ts p).0 c),
  from_follower keys ts p,
)

-- ---- basic keys

-- a node installs the later version of each pair
basic_installed : (ts : List Transaction) (p : VersionPair) → IsVersionPair Basic ts p → IsInstalledPair Basic ts p
basic_installed ts p (inl (nil, t, among, installed)) = ((pairs_by_membership Basic ts p).1 (inl (nil, t, among, installed)), t, among, installed)
basic_installed ts p (inr (inl (same, differ, t, there, reads, installed))) = (
  (pairs_by_membership Basic ts p).1 (inr (inl (same, differ, t, there, reads, installed))),
  t,
  Contains_from_in t (nodes ts) (in_filtered (is_node ts) t ts (in_from_Contains t ts there) (reader_is_node ts t p.earlier reads)),
  installed,
)
basic_installed ts p (inr (inr step)) = elim (in_from_Contains p (process_pairs Basic ts) step) [ ]

pub basic_pairs : (ts : List Transaction) → HasExactly (version_pairs Basic ts) (IsFollowedByNode Basic ts)
basic_pairs ts p = (
  λ c. (pairs_by_followers Basic ts p).0 (basic_installed ts p ((pairs_by_membership Basic ts p).0 c)),
  λ f. (from_follower Basic ts p f).0,
)

-- ---- by the table

abbrev told_by : ℕ × Version → ℕ × Option Version
told_by p = (p.0, Some p.1)

abbrev told_of : KeyOrder → List Transaction → Version → List (ℕ × Option Version)
told_of keys ts v = map told_by (followers_of keys ts v)

abbrev place_and_version : List Version → Follower → ℕ × Option Version
place_and_version versions f = (f.txn, slice_get versions f.version)

-- what has a follower is named
follower_named : (keys : KeyOrder) (ts : List Transaction) (v : Version) (q : ℕ × Version) → In q (followers_of keys ts v) → is_named ts v ≡ true
follower_named keys ts v q i =
    let steps = process_pairs keys ts in
    let (j, t, at, among) = from_some_place (follower_by steps v) 0 ts q i in
    let (w, behind, is) = in_map (λ (w : Version). (0 + j, w)) q (installs_behind steps t v) among in
    let installed : In w (installed_by t) = in_filter (is_followed steps t v) w (installed_by t) behind in
    let (known, change) =
    and_parts (has_pair steps (pair v w) || (is_none v.value || is_known_to_read t v)) (is_change (pair v w)) (passes_filter (is_followed steps t v) w (installed_by t) behind) in
    elim (or_cases (has_pair steps (pair v w)) (is_none v.value || is_known_to_read t v) known) [
      | inl step ↦ step_named keys ts (pair v w) (pair_in steps (pair v w) step)
      | inr first ↦ elim (cases_Bool (is_named ts v)) [
        | inl named ↦ named
        | inr unnamed ↦ (
            let basic : In w (installs_behind [] t v) =
            in_filtered (is_followed [] t v) w (installed_by t) installed (and_from (is_none v.value || is_known_to_read t v) (is_change (pair v w)) first change) in
            elim (subst (In (j, w)) (unnamed_followers ts v unnamed) (follows Basic ts v w j t at basic)) [ ])
      ]
    ]

module _ (keys : KeyOrder) (ts : List Transaction) (table : Table) (is : IsTableOf keys ts table) where
  as_many : length table.followers ≡ length table.versions
  as_many =
      sym (length-map table.followers (followers_at table.versions)) ∙ ap length is.followers
      ∙ length-map table.versions (told_of keys ts)

  row : (number : ℕ) (v : Version) → slice_get table.versions number ≡ Some v → (fs : List Follower) × (slice_get table.followers number ≡ Some fs)
  row number v at =
      let below = slice_get_within table.versions number v at in
      let many = as_many in
      is_at table.followers number (omega (arith, below, many))

  told_at :
      (number : ℕ) (v : Version) (fs : List Follower) → slice_get table.versions number ≡ Some v → slice_get table.followers number ≡ Some fs
      → followers_at table.versions fs ≡ told_of keys ts v
  told_at number v fs at there = agree_at (followers_at table.versions) (told_of keys ts) table.followers table.versions is.followers number fs v there at

  -- what has a follower has a number
  numbered : (v : Version) (q : ℕ × Version) → In q (followers_of keys ts v) → (number : ℕ) × (slice_get table.versions number ≡ Some v)
  numbered v q i = place_in v table.versions (in_from_has v table.versions (is.named v ∙ follower_named keys ts v q i))

  to_table : (p : VersionPair) → IsFollowedByNode keys ts p → IsPairByTable ts table p
  to_table p (place, node, among) =
      let i : In (place, p.later) (followers_of keys ts p.earlier) = in_from_Contains (place, p.later) (followers_of keys ts p.earlier) among in
      let (number, at) = numbered p.earlier (place, p.later) i in
      let (fs, there) = row number p.earlier at in
      let told : In (place, Some p.later) (followers_at table.versions fs) =
      subst (In (place, Some p.later)) (sym (told_at number p.earlier fs at there)) (in_mapped told_by (place, p.later) (followers_of keys ts p.earlier) i) in
      let (f, here, same) = in_map (place_and_version table.versions) (place, Some p.later) fs told in (
        number,
        fs,
        f,
        at,
        there,
        Contains_from_in f fs here,
        subst (IsNodeAt ts) (sym (ap (λ (q : ℕ × Option Version). q.0) same)) node,
        ap (λ (q : ℕ × Option Version). q.1) same,
      )

  from_table : (p : VersionPair) → IsPairByTable ts table p → IsFollowedByNode keys ts p
  from_table p (number, fs, f, at, there, among, node, later) =
      let here : In (place_and_version table.versions f) (followers_at table.versions fs) =
      in_mapped (place_and_version table.versions) f fs (in_from_Contains f fs among) in
      let told : In (place_and_version table.versions f) (told_of keys ts p.earlier) =
      subst (In (place_and_version table.versions f)) (told_at number p.earlier fs at there) here in
      let (q, i, same) = in_map told_by (place_and_version table.versions f) (followers_of keys ts p.earlier) told in
      let place : q.0 ≡ f.txn = ap (λ (q : ℕ × Option Version). q.0) same in
      let version : q.1 ≡ p.later = same_Some q.1 p.later (ap (λ (q : ℕ × Option Version). q.1) same ∙ later) in
      let follower : q ≡ (f.txn, p.later) = ap (λ n. (n, q.1)) place ∙ ap (λ v. (f.txn, v)) version in
      (f.txn, node, Contains_from_in (f.txn, p.later) (followers_of keys ts p.earlier) (subst (λ r. In r (followers_of keys ts p.earlier)) follower i))

  pub pairs_by_table : (p : VersionPair) → IsInstalledPair keys ts p ↔ IsPairByTable ts table p
  pairs_by_table p =
      let member = pairs_by_followers keys ts p in
      (λ c. to_table p (member.0 c), λ told. member.1 (from_table p told))
