-- The pairs of versions by what transactions read and install.
use Rattle.std.proofs.Common.{◌≡◌, ◌↔◌, inl, inr, List, [], ◌∷◌, ◌++◌, true, false, not, ◌||◌, filter, map, flat_map, Contains, refl, sym, ◌∙◌, ap, subst}
use Rattle.std.proofs.lemmas.Bool.{false≢true, and_parts, and_from, or_cases, or_right, cases_Bool, not-true}
use Rattle.hist_types.specs.Atoms.{atom_eq, value_eq}
use Rattle.history_laws.specs.Dependencies.{IsNilPair, IsUpdatePair, IsVersionPair}
use Rattle.hist_types.specs.Transactions.{Transaction, Version, version_eq, has_version, is_ok, nodes, external_reads, installed_by}
use Rattle.hist_types.specs.Versions.{VersionPair, pair, nil_before, is_change, each_with_each, first_pairs, update_pairs, process_pairs, version_pairs}
use Rattle.hist_types.specs.declared.types.KeyOrder.{KeyOrder}
use Rattle.hist_types.proofs.Equality.{atom_eq-same, atom_eq-itself, value_eq-same, value_eq-itself, version_eq-same, version_eq-itself, same_version}
use Rattle.hist_types.proofs.Members.{In, in_from_Contains, Contains_from_in, in_front, in_back, in_append, in_each, in_some, in_mapped, in_map, in_filter, in_filtered, passes_filter}
use Rattle.history_laws.proofs.ProcessPairs.{is_step_of, of_one_key}

-- ---- versions in lists

pub in_from_has : (v : Version) (vs : List Version) → has_version vs v ≡ true → In v vs
in_from_has v [] e = elim (false≢true e) [ ]
in_from_has v (w ∷ vs) e = elim (or_cases (version_eq v w) (has_version vs v) e) [
  | inl here ↦ inl (sym (version_eq-same v w here))
  | inr further ↦ inr (in_from_has v vs further)
]

pub has_from_in : (v : Version) (vs : List Version) → In v vs → has_version vs v ≡ true
has_from_in v [] i = elim i [ ]
has_from_in v (w ∷ vs) (inl e) = ap (λ b. b || has_version vs v) (subst (λ u. version_eq v u ≡ true) (sym e) (version_eq-itself v))
has_from_in v (w ∷ vs) (inr i) = or_right (version_eq v w) (has_version vs v) (has_from_in v vs i)

-- ---- each with each

each_from : (vs laters : List Version) (p : VersionPair) → In p (each_with_each vs laters) → In p.earlier vs × In p.later laters
each_from [] laters p i = elim i [ ]
each_from (v ∷ vs) laters p i = elim (in_append p (map (pair v) laters) (each_with_each vs laters) i) [
  | inl j ↦ (
      let found = in_map (pair v) p laters j in
      (inl (ap (λ (q : VersionPair). q.earlier) found.2), subst (λ (q : VersionPair). In q.later laters) found.2 found.1))
  | inr j ↦ (let parts = each_from vs laters p j in (inr parts.0, parts.1))
]

each_to : (vs laters : List Version) (v w : Version) → In v vs → In w laters → In (pair v w) (each_with_each vs laters)
each_to [] laters v w i j = elim i [ ]
each_to (u ∷ vs) laters v w (inl e) j =
    in_front (pair v w) (map (pair u) laters) (each_with_each vs laters)
    (subst (λ x. In (pair x w) (map (pair u) laters)) e (in_mapped (pair u) w laters j))
each_to (u ∷ vs) laters v w (inr i) j = in_back (pair v w) (map (pair u) laters) (each_with_each vs laters) (each_to vs laters v w i j)

-- ---- nil comes first

first_from : (ts : List Transaction) (p : VersionPair) → In p (first_pairs ts) → IsNilPair ts p
first_from ts p i =
    let found = in_map nil_before p (flat_map installed_by (nodes ts)) i in
    let by = in_some installed_by found.0 (nodes ts) found.1 in
    subst (IsNilPair ts) found.2 (refl, by.0, Contains_from_in by.0 (nodes ts) by.1, has_from_in found.0 (installed_by by.0) by.2)

first_to : (ts : List Transaction) (p : VersionPair) → IsNilPair ts p → In p (first_pairs ts)
first_to ts p (nil, t, node, installed) =
    subst (λ v. In (pair v p.later) (first_pairs ts)) (sym nil)
    (in_mapped nil_before p.later (flat_map installed_by (nodes ts))
    (in_each installed_by p.later t (nodes ts) (in_from_Contains t (nodes ts) node) (in_from_has p.later (installed_by t) installed)))

-- ---- a write follows a read

update_from : (ts : List Transaction) (p : VersionPair) → In p (flat_map update_pairs (filter is_ok ts)) → IsUpdatePair ts p
update_from ts p i =
    let by = in_some update_pairs p (filter is_ok ts) i in
    let t = by.0 in
    let all : List VersionPair = each_with_each (external_reads t) (installed_by t) in
    let change = and_parts (atom_eq p.earlier.key p.later.key) (not (value_eq p.earlier.value p.later.value)) (passes_filter is_change p all by.2) in
    let ends = each_from (external_reads t) (installed_by t) p (in_filter is_change p all by.2) in (
      atom_eq-same p.earlier.key p.later.key change.0,
      λ same. false≢true (sym (not-true (value_eq p.earlier.value p.later.value) change.1) ∙ subst (λ (v : Version). value_eq p.earlier.value v.value ≡ true) same (value_eq-itself p.earlier.value)),
      t,
      Contains_from_in t ts (in_filter is_ok t ts by.1),
      and_from (is_ok t) (has_version (external_reads t) p.earlier) (passes_filter is_ok t ts by.1) (has_from_in p.earlier (external_reads t) ends.0),
      has_from_in p.later (installed_by t) ends.1,
    )

update_to : (ts : List Transaction) (p : VersionPair) → IsUpdatePair ts p → In p (flat_map update_pairs (filter is_ok ts))
update_to ts p (same, differ, t, among, read, installed) =
    let parts = and_parts (is_ok t) (has_version (external_reads t) p.earlier) read in
    let all : List VersionPair = each_with_each (external_reads t) (installed_by t) in
    let member : In p all =
    each_to (external_reads t) (installed_by t) p.earlier p.later (in_from_has p.earlier (external_reads t) parts.1) (in_from_has p.later (installed_by t) installed) in
    let apart : value_eq p.earlier.value p.later.value ≡ false =
    elim (cases_Bool (value_eq p.earlier.value p.later.value)) [
      | inl one ↦ elim (differ (same_version p.earlier p.later same (value_eq-same p.earlier.value p.later.value one))) [ ]
      | inr e ↦ e
    ] in
    let change : is_change p ≡ true =
    and_from (atom_eq p.earlier.key p.later.key) (not (value_eq p.earlier.value p.later.value))
    (subst (λ k. atom_eq p.earlier.key k ≡ true) same (atom_eq-itself p.earlier.key)) (ap not apart) in
    in_each update_pairs p t (filter is_ok ts) (in_filtered is_ok t ts (in_from_Contains t ts among) parts.0)
    (in_filtered is_change p all member change)

-- ---- each pair

abbrev the_updates : List Transaction → List VersionPair
the_updates ts = flat_map update_pairs (filter is_ok ts)

pair_from : (keys : KeyOrder) (ts : List Transaction) (p : VersionPair) → In p (version_pairs keys ts) → IsVersionPair keys ts p
pair_from keys ts p i = elim (in_append p (first_pairs ts ++ the_updates ts) (process_pairs keys ts) i) [
  | inl j ↦ elim (in_append p (first_pairs ts) (the_updates ts) j) [
    | inl first ↦ inl (first_from ts p first)
    | inr update ↦ inr (inl (update_from ts p update))
  ]
  | inr step ↦ inr (inr (Contains_from_in p (process_pairs keys ts) step))
]

pair_to : (keys : KeyOrder) (ts : List Transaction) (p : VersionPair) → IsVersionPair keys ts p → In p (version_pairs keys ts)
pair_to keys ts p (inl first) =
    in_front p (first_pairs ts ++ the_updates ts) (process_pairs keys ts) (in_front p (first_pairs ts) (the_updates ts) (first_to ts p first))
pair_to keys ts p (inr (inl update)) =
    in_front p (first_pairs ts ++ the_updates ts) (process_pairs keys ts) (in_back p (first_pairs ts) (the_updates ts) (update_to ts p update))
pair_to keys ts p (inr (inr step)) =
    in_back p (first_pairs ts ++ the_updates ts) (process_pairs keys ts) (in_from_Contains p (process_pairs keys ts) step)

pub pair_of_one_key : (keys : KeyOrder) (ts : List Transaction) (p : VersionPair) → In p (version_pairs keys ts) → p.earlier.key ≡ p.later.key
pair_of_one_key keys ts p i = elim (pair_from keys ts p i) [
  | inl first ↦ ap (λ (v : Version). v.key) first.0
  | inr others ↦ elim others [
    | inl update ↦ update.0
    | inr step ↦ atom_eq-same p.earlier.key p.later.key (of_one_key p (is_step_of keys ts p step))
  ]
]

-- ---- the law

pub pairs_by_membership : (keys : KeyOrder) (ts : List Transaction) (p : VersionPair) → Contains (version_pairs keys ts) p ↔ IsVersionPair keys ts p
pairs_by_membership keys ts p = (
  λ c. pair_from keys ts p (in_from_Contains p (version_pairs keys ts) c),
  λ is. Contains_from_in p (version_pairs keys ts) (pair_to keys ts p is),
)
