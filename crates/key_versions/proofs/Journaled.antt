-- Versions that the journal numbered when they were written.
use Rattle.std.proofs.Common.{◌≡◌, ◌⊎◌, inl, inr, ◌<◌, ◌+◌, ℕ, zero, suc, List, [], ◌∷◌, ◌++◌, length, get_or, replicate, Bool, true, Option, Some, None, option_map, refl, sym, ◌∙◌, ap, subst, arith}
use Rattle.std.specs.Prelude.{slice_get, ◌||◌}
use Rattle.std.specs.List.{list_any}
use Rattle.std.proofs.lemmas.Bool.{false≢true, or_cases, or_left, or_right}
use Rattle.std.specs.Option.{is_some}
use Rattle.std.proofs.lemmas.List.{get_or-replicate, length-replicate}
use Rattle.std.proofs.lemmas.List.Folds.{list_any-append}
use Rattle.std.proofs.lemmas.Option.{slice_get-map}
use Rattle.hist_types.specs.Atoms.{Atom}
use Rattle.hist_types.specs.Operations.{Mop, read, write}
use Rattle.hist_types.specs.Journal.{Write, writes_of}
use Rattle.hist_types.specs.Transactions.{Transaction, Version, version_eq, version_of, has_version, is_ok}
use Rattle.hist_types.specs.Versions.{nil_of}
use Rattle.hist_types.proofs.Equality.{version_eq-same, version_eq-itself}
use Rattle.history_laws.specs.Writers.{writes_of_all}
use Rattle.journal_core.specs.Writes.{AreWithin, IsWithin, AreWrites, write_by, writes_by}
use Rattle.atom_index.specs.Numbers.{number_in, AreNumbered, pair_eq}
use Rattle.atom_index.proofs.Pushed.{has_number as number_there}
use Rattle.key_versions.specs.Given.{names, AreGiven, AreNamed, HaveNumbers}
use Rattle.key_versions.specs.Histories.{known_in, named_in, named_by, is_named}
use Rattle.key_versions.specs.Nils.{AreNilsIn, AreOfKeysBelow, AreWithNils, KeepPlaces}
use Rattle.key_versions.specs.Numbering.{IsInRange, IsNumbering, version_by, versions_in}
use Rattle.key_versions.specs.declared.write_numbers.WriteNumbers.TheVariants.{Consecutive}
use Rattle.key_versions.proofs.Numbered.{pair_eq-same, version_pair}
use Rattle.key_versions.proofs.Places.{no_item, same_item, number_at, cases_number}

-- ---- pairs of numbers

one_within : (keys values : ℕ) (given : List (ℕ × Option ℕ)) → AreWithin keys values given → (i : ℕ) (p : ℕ × Option ℕ) → slice_get given i ≡ Some p → IsWithin keys values p
one_within keys values [] all i p at = absurd (no_item p at)
one_within keys values (q ∷ given) all zero p at = subst (IsWithin keys values) (same_item q p at) all.0
one_within keys values (q ∷ given) all (suc i) p at = one_within keys values given all.1 i p at

key_within : (keys values : ℕ) (p : ℕ × Option ℕ) → IsWithin keys values p → p.0 < keys
key_within keys values (key, None) is = absurd is
key_within keys values (key, Some value) is = is.0

pub keys_below : (keys values n : ℕ) (given : List (ℕ × Option ℕ)) → AreWithin keys values given → n ≡ keys → AreOfKeysBelow n given
keys_below keys values n given all same i p at =
    let below = key_within keys values p (one_within keys values given all i p at) in
    omega arith

pub none_count : (n : ℕ) (nils : List (Option ℕ)) → nils ≡ replicate n None → length nils ≡ n
none_count n nils none = ap length none ∙ length-replicate n None

no_nil : (keys values : ℕ) (given : List (ℕ × Option ℕ)) (k : ℕ) → AreWithin keys values given → number_in pair_eq (k, None) given ≡ None
no_nil keys values given k all = elim (cases_number pair_eq (k, None) given) [
  | inl there ↦ absurd (one_within keys values given all there.0 (k, None) (number_at pair_eq pair_eq-same (k, None) given there.0 there.1))
  | inr none ↦ none
]

-- no nil version was written
pub nils_none : (keys values n : ℕ) (given : List (ℕ × Option ℕ)) (nils : List (Option ℕ)) → AreWithin keys values given → nils ≡ replicate n None → AreNilsIn given nils
nils_none keys values n given nils all none k below =
    let here : k < n = omega (arith, none_count n nils none) in
    ap (λ (ns : List (Option ℕ)). get_or ns k None) none ∙ get_or-replicate n k None None here ∙ sym (no_nil keys values given k all)

pair_range : (keys values : List Atom) (p : ℕ × Option ℕ) → IsWithin (length keys) (length values) p → IsInRange keys values p
pair_range keys values (key, None) is = absurd is
pair_range keys values (key, Some value) is = is

with_nil_range : (keys values : List Atom) (p q : ℕ × Option ℕ) → IsWithin (length keys) (length values) q → (p ≡ q) ⊎ (p ≡ (q.0, None)) → IsInRange keys values p
with_nil_range keys values p q is (inl e) = subst (IsInRange keys values) (sym e) (pair_range keys values q is)
with_nil_range keys values p q is (inr e) = subst (IsInRange keys values) (sym e) (key_within (length keys) (length values) q is, tt)

pub given_numbering :
    (keys values : List Atom) (given pairs : List (ℕ × Option ℕ)) (nils : List (Option ℕ)) → AreWrites keys values given → AreNumbered pair_eq pairs → AreWithNils given pairs
    → AreNilsIn pairs nils → length nils ≡ length keys → IsNumbering keys values pairs nils
given_numbering keys values given pairs nils written numbered are nilled each = record {
  keys_numbered = written.keys_numbered;
  values_numbered = written.values_numbered;
  pairs_numbered = numbered;
  in_range = λ i p at.
      let (j, q, there, of) = are i p at in
      with_nil_range keys values p q (one_within (length keys) (length values) given written.within j q there) of;
  nils_numbered = nilled;
  nil_of_each = each;
}

-- ---- what was written

written_at : (keys values : List Atom) (given : List (ℕ × Option ℕ)) (i : ℕ) (q : ℕ × Option ℕ) → slice_get given i ≡ Some q → (p : Write → Bool) → p (write_by keys values q) ≡ true → list_any p (writes_by keys values given) ≡ true
written_at keys values [] i q at p is = absurd (no_item q at)
written_at keys values (r ∷ given) zero q at p is =
    or_left (p (write_by keys values r)) (list_any p (writes_by keys values given)) (ap (λ (x : ℕ × Option ℕ). p (write_by keys values x)) (same_item r q at) ∙ is)
written_at keys values (r ∷ given) (suc i) q at p is =
    or_right (p (write_by keys values r)) (list_any p (writes_by keys values given)) (written_at keys values given i q at p is)

names_written : (keys values : List Atom) (q : ℕ × Option ℕ) → IsWithin (length keys) (length values) q → names (version_by keys values q) (write_by keys values q) ≡ true
names_written keys values (key, None) is = absurd is
names_written keys values (key, Some value) is =
    let v = version_by keys values (key, Some value) in
    or_left (version_eq v v) (version_eq v (nil_of v.key)) (version_eq-itself v)

names_nil : (keys values : List Atom) (q : ℕ × Option ℕ) → names (version_by keys values (q.0, None)) (write_by keys values q) ≡ true
names_nil keys values q =
    let v = version_by keys values (q.0, None) in
    or_right (version_eq v (version_of (write_by keys values q))) (version_eq v v) (version_eq-itself v)

names_of : (keys values : List Atom) (p q : ℕ × Option ℕ) → IsWithin (length keys) (length values) q → (p ≡ q) ⊎ (p ≡ (q.0, None)) → names (version_by keys values p) (write_by keys values q) ≡ true
names_of keys values p q is (inl e) = ap (λ (r : ℕ × Option ℕ). names (version_by keys values r) (write_by keys values q)) e ∙ names_written keys values q is
names_of keys values p q is (inr e) = ap (λ (r : ℕ × Option ℕ). names (version_by keys values r) (write_by keys values q)) e ∙ names_nil keys values q

-- each version is named by a write
pub named_by_writes :
    (keys values : List Atom) (given pairs : List (ℕ × Option ℕ)) → AreWithin (length keys) (length values) given → AreWithNils given pairs
    → (v : Version) → has_version (versions_in keys values pairs) v ≡ true → list_any (names v) (writes_by keys values given) ≡ true
named_by_writes keys values given pairs all are v has = elim (cases_number version_eq v (versions_in keys values pairs)) [
  | inl there ↦ (
      let (p, at, made) = version_pair keys values pairs there.0 v (number_at version_eq version_eq-same v (versions_in keys values pairs) there.0 there.1) in
      let (j, q, found, of) = are there.0 p at in
      written_at keys values given j q found (names v)
      (ap (λ (u : Version). names u (write_by keys values q)) made ∙ names_of keys values p q (one_within (length keys) (length values) given all j q found) of))
  | inr none ↦ absurd (false≢true (sym (ap is_some none) ∙ number_there version_eq v (versions_in keys values pairs) ∙ has))
]

-- ---- the numbers of what was written

made_of : (keys values : List Atom) (q : ℕ × Option ℕ) → IsWithin (length keys) (length values) q → version_by keys values q ≡ version_of (write_by keys values q)
made_of keys values (key, None) is = absurd is
made_of keys values (key, Some value) is = refl

write_at :
    (keys values : List Atom) (given : List (ℕ × Option ℕ)) → AreWithin (length keys) (length values) given → (place : ℕ) (w : Write) → slice_get (writes_by keys values given) place ≡ Some w
    → (q : ℕ × Option ℕ) × (slice_get given place ≡ Some q) × (version_by keys values q ≡ version_of w)
write_at keys values [] all place w at = absurd (no_item w at)
write_at keys values (q ∷ given) all zero w at = (q, refl, made_of keys values q all.0 ∙ ap version_of (same_item (write_by keys values q) w at))
write_at keys values (q ∷ given) all (suc place) w at = write_at keys values given all.1 place w at

-- they are consecutive
pub first_numbers :
    (keys values : List Atom) (given pairs : List (ℕ × Option ℕ)) → AreWithin (length keys) (length values) given → KeepPlaces given pairs
    → HaveNumbers (Consecutive 0) (versions_in keys values pairs) (writes_by keys values given)
first_numbers keys values given pairs all keep place w at =
    let (q, there, made) = write_at keys values given all place w at in
    let start : 0 + place ≡ place = omega arith in
    ap (slice_get (versions_in keys values pairs)) start ∙ slice_get-map (version_by keys values) pairs place ∙ ap (option_map (version_by keys values)) (keep place q there) ∙ ap Some made

-- ---- what the transactions write

named_in_mops : (v : Version) (ok : Bool) (ms : List Mop) → list_any (names v) (writes_of ms) ≡ true → has_version (named_in ok ms) v ≡ true
named_in_mops v ok [] h = absurd (false≢true h)
named_in_mops v ok (read key value ∷ ms) h =
    or_right (version_eq v (nil_of key)) (has_version (known_in ok (read key value) ++ named_in ok ms) v)
    (list_any-append (version_eq v) (known_in ok (read key value)) (named_in ok ms)
    ∙ or_right (has_version (known_in ok (read key value)) v) (has_version (named_in ok ms) v) (named_in_mops v ok ms h))
named_in_mops v ok (write key value ∷ ms) h =
    let w : Write = record { key = key; value = value } in
    let rest = has_version (named_in ok ms) v in
    elim (or_cases (names v w) (list_any (names v) (writes_of ms)) h) [
      | inl here ↦ elim (or_cases (version_eq v (version_of w)) (version_eq v (nil_of key)) here) [
        | inl is ↦ or_right (version_eq v (nil_of key)) (version_eq v (version_of w) || rest) (or_left (version_eq v (version_of w)) rest is)
        | inr is ↦ or_left (version_eq v (nil_of key)) (version_eq v (version_of w) || rest) is
      ]
      | inr behind ↦
          or_right (version_eq v (nil_of key)) (version_eq v (version_of w) || rest) (or_right (version_eq v (version_of w)) rest (named_in_mops v ok ms behind))
    ]

named_in_all : (v : Version) (ts : List Transaction) → list_any (names v) (writes_of_all ts) ≡ true → is_named ts v ≡ true
named_in_all v [] h = absurd (false≢true h)
named_in_all v (t ∷ ts) h = elim (or_cases (list_any (names v) (writes_of t.mops)) (list_any (names v) (writes_of_all ts)) (sym (list_any-append (names v) (writes_of t.mops) (writes_of_all ts)) ∙ h)) [
  | inl here ↦ or_left (has_version (named_by t) v) (is_named ts v) (named_in_mops v (is_ok t) t.mops here)
  | inr behind ↦ or_right (has_version (named_by t) v) (is_named ts v) (named_in_all v ts behind)
]

pub given_named : (writes : List Write) (versions : List Version) (ts : List Transaction) → AreGiven writes versions → writes ≡ writes_of_all ts → AreNamed ts versions
given_named writes versions ts are same v has = named_in_all v ts (subst (λ (ws : List Write). list_any (names v) ws ≡ true) same (are.named v has))
