-- Versions that are numbered by the numbers of their keys and values.
use Rattle.std.proofs.Common.{◌≡◌, inl, inr, ◌<◌, ◌+◌, ℕ, zero, suc, List, [], ◌∷◌, ◌++◌, length, map, get_or, true, Option, Some, None, option_map, pos, refl, sym, ◌∙◌, ap, subst, arith}
use Rattle.std.specs.Prelude.{slice_get, ◌==◌, ◌&&◌, nat_eq}
use Rattle.std.specs.Option.{option_eq}
use Rattle.std.proofs.lemmas.Bool.{cases_lt, and_parts, eqb-true, false≢true}
use Rattle.std.proofs.Math.Seq.{get_or-append_seam}
use Rattle.std.proofs.lemmas.List.{get_or_append_left, length_push, get_or_read}
use Rattle.std.proofs.lemmas.Option.{slice_get-get_or, get_or_from_slice_get, slice_get-map}
use Rattle.hist_types.specs.Atoms.{Atom, integer, atom_eq, value_eq}
use Rattle.hist_types.specs.Transactions.{Version, version_eq}
use Rattle.hist_types.specs.Versions.{nil_of}
use Rattle.hist_types.proofs.Equality.{atom_eq-same, atom_eq-itself, version_eq-itself}
use Rattle.atom_index.specs.Numbers.{number_in, with_item, AreNumbered, pair_eq}
use Rattle.atom_index.proofs.Pushed.{numbered_push, inserted_numbered, pair_eq-itself, item_pushed}
use Rattle.key_versions.specs.Numbering.{Numbers, IsNumbering, IsBelow, IsInRange, AreInRange, key_at, version_with, version_by, versions_in, versions_of, with_versions, IsAccess}
use Rattle.key_versions.specs.Nils.{AreNilsIn}
use Rattle.key_versions.specs.declared.pending.Access.{Access}
use Rattle.key_versions.proofs.NilNumbers.{nils_kept}
use Rattle.key_versions.proofs.Places.{same_item, no_item, number_within, number_at, same_places, map_same, number_in-map, with_item-map, with_item-there, with_item-new, cases_number, slice_get-with_item}

abbrev none : Atom
none = integer (pos 0)

abbrev pair_by : ℕ → Option ℕ → ℕ × Option ℕ
pair_by a v = (a, v)

value_is : (a b : Option ℕ) → option_eq nat_eq a b ≡ true → a ≡ b
value_is None None h = refl
value_is (Some a) (Some b) h = ap Some (eqb-true a b h)
value_is a b h = absurd (false≢true h)

pub pair_eq-same : (p q : ℕ × Option ℕ) → pair_eq p q ≡ true → p ≡ q
pair_eq-same p q h =
    let parts = and_parts (p.0 == q.0) (option_eq nat_eq p.1 q.1) h in
    ap (λ n. pair_by n p.1) (eqb-true p.0 q.0 parts.0) ∙ ap (pair_by q.0) (value_is p.1 q.1 parts.1)

abbrev pub access_by : ℕ → ℕ → Access
access_by nil version = record { nil = nil; version = version }

abbrev pub numbers : List Atom → List Atom → List (ℕ × Option ℕ) → List (Option ℕ) → Numbers
numbers keys values pairs nils = record { keys = keys; values = values; pairs = pairs; nils = nils }

-- ---- versions by numbers

values_agree :
    (values : List Atom) → AreNumbered atom_eq values → (v w : Option ℕ) → IsBelow (length values) v → IsBelow (length values) w
    → value_eq (option_map (λ m. get_or values m none) v) (option_map (λ m. get_or values m none) w) ≡ option_eq nat_eq v w
values_agree values numbered None None below below' = refl
values_agree values numbered None (Some w) below below' = refl
values_agree values numbered (Some v) None below below' = refl
values_agree values numbered (Some v) (Some w) below below' = same_places atom_eq atom_eq-same atom_eq-itself values numbered v w none below below'

versions_agree :
    (keys values : List Atom) → AreNumbered atom_eq keys → AreNumbered atom_eq values → (p q : ℕ × Option ℕ) → IsInRange keys values p → IsInRange keys values q
    → version_eq (version_by keys values p) (version_by keys values q) ≡ pair_eq p q
versions_agree keys values keyed valued p q here there =
    ap (λ b. b && value_eq (option_map (λ m. get_or values m none) p.1) (option_map (λ m. get_or values m none) q.1))
    (same_places atom_eq atom_eq-same atom_eq-itself keys keyed p.0 q.0 none here.0 there.0)
    ∙ ap (λ b. (p.0 == q.0) && b) (values_agree values valued p.1 q.1 here.1 there.1)

-- a version has the number of its pair
pub number_of_pair :
    (keys values : List Atom) (pairs : List (ℕ × Option ℕ)) → AreNumbered atom_eq keys → AreNumbered atom_eq values → AreInRange keys values pairs
    → (p : ℕ × Option ℕ) → IsInRange keys values p → number_in version_eq (version_by keys values p) (versions_in keys values pairs) ≡ number_in pair_eq p pairs
number_of_pair keys values pairs keyed valued ranged p here =
    number_in-map (version_by keys values) version_eq pair_eq p pairs (λ j q h. versions_agree keys values keyed valued p q here (ranged j q h))

-- one pair more is one version more
pub one_pair :
    (keys values : List Atom) (pairs : List (ℕ × Option ℕ)) → AreNumbered atom_eq keys → AreNumbered atom_eq values → AreInRange keys values pairs
    → (p : ℕ × Option ℕ) → IsInRange keys values p
    → versions_in keys values (with_item pair_eq pairs p) ≡ with_item version_eq (versions_in keys values pairs) (version_by keys values p)
one_pair keys values pairs keyed valued ranged p here =
    with_item-map (version_by keys values) version_eq pair_eq p pairs (λ j q h. versions_agree keys values keyed valued p q here (ranged j q h))

map_within : {A B : Type 0} (f : A → B) (xs : List A) (i : ℕ) (y : B) → slice_get (map f xs) i ≡ Some y → i < length xs
map_within f [] i y h = absurd (no_item y h)
map_within f (x ∷ xs) zero y h = omega arith
map_within f (x ∷ xs) (suc i) y h = let behind = map_within f xs i y h in omega arith

map_at : {A B : Type 0} (f : A → B) (xs : List A) (i : ℕ) (y : B) → slice_get (map f xs) i ≡ Some y → (d : A) → y ≡ f (get_or xs i d)
map_at f [] i y h d = absurd (no_item y h)
map_at f (x ∷ xs) zero y h d = sym (same_item (f x) y h)
map_at f (x ∷ xs) (suc i) y h d = map_at f xs i y h d

-- the pair of a version
pub version_pair :
    (keys values : List Atom) (pairs : List (ℕ × Option ℕ)) (i : ℕ) (v : Version) → slice_get (versions_in keys values pairs) i ≡ Some v
    → (p : ℕ × Option ℕ) × (slice_get pairs i ≡ Some p) × (v ≡ version_by keys values p)
version_pair keys values pairs i v h =
    let within : i < length pairs = map_within (version_by keys values) pairs i v h in
    (get_or pairs i (0, None), slice_get-get_or pairs i (0, None) within, map_at (version_by keys values) pairs i v h (0, None))

pub numbered_versions : (s : Numbers) → IsNumbering s.keys s.values s.pairs s.nils → AreNumbered version_eq (versions_of s)
numbered_versions s is i v h =
    let (p, at, made) = version_pair s.keys s.values s.pairs i v h in
    ap (λ (u : Version). number_in version_eq u (versions_of s)) made
    ∙ number_of_pair s.keys s.values s.pairs is.keys_numbered is.values_numbered is.in_range p (is.in_range i p at)
    ∙ is.pairs_numbered i p at

-- ---- growth

-- more keys change no version
keys_grown :
    (keys : List Atom) (key : Atom) (values : List Atom) (pairs : List (ℕ × Option ℕ)) → AreInRange keys values pairs
    → versions_in (keys ++ key ∷ []) values pairs ≡ versions_in keys values pairs
keys_grown keys key values pairs ranged =
    map_same (version_by (keys ++ key ∷ []) values) (version_by keys values) pairs
    (λ i p h. ap (λ (a : Atom). version_with a (option_map (λ m. get_or values m none) p.1)) (get_or_append_left keys (key ∷ []) none p.0 (ranged i p h).0))

values_grown_by :
    (values : List Atom) (value : Atom) (v : Option ℕ) → IsBelow (length values) v
    → option_map (λ m. get_or (values ++ value ∷ []) m none) v ≡ option_map (λ m. get_or values m none) v
values_grown_by values value None below = refl
values_grown_by values value (Some m) below = ap Some (get_or_append_left values (value ∷ []) none m below)

values_grown :
    (keys values : List Atom) (value : Atom) (pairs : List (ℕ × Option ℕ)) → AreInRange keys values pairs
    → versions_in keys (values ++ value ∷ []) pairs ≡ versions_in keys values pairs
values_grown keys values value pairs ranged =
    map_same (version_by keys (values ++ value ∷ [])) (version_by keys values) pairs
    (λ i p h. ap (version_with (get_or keys p.0 none)) (values_grown_by values value p.1 (ranged i p h).1))

-- ---- one key more

-- a key without a number has no version
fresh :
    (keys values : List Atom) (pairs : List (ℕ × Option ℕ)) → AreInRange keys values pairs → number_in pair_eq (length keys, None) pairs ≡ None
fresh keys values pairs ranged = elim (cases_number pair_eq (length keys, None) pairs) [
  | inl there ↦ (
      let here = ranged there.0 (length keys, None) (number_at pair_eq pair_eq-same (length keys, None) pairs there.0 there.1) in
      let below : length keys < length keys = here.0 in
      absurd (omega arith))
  | inr new ↦ new
]

below_grown : (values : List Atom) (v : Option ℕ) (value : Atom) → IsBelow (length values) v → IsBelow (length (values ++ value ∷ [])) v
below_grown values None value below = below
below_grown values (Some m) value below = omega (arith, length_push values value)

nil_numbered :
    (keys values : List Atom) (pairs : List (ℕ × Option ℕ)) (nils : List (Option ℕ)) → IsNumbering keys values pairs nils → AreNilsIn pairs (nils ++ None ∷ [])
nil_numbered keys values pairs nils old k below = elim (cases_lt k (length nils)) [
  | inl before ↦ get_or_append_left nils (None ∷ []) None k before ∙ old.nils_numbered k before
  | inr behind ↦ (
      let here : k ≡ length nils = omega (arith, length_push nils None) in
      ap (λ n. get_or (nils ++ None ∷ []) n None) here ∙ get_or-append_seam nils None [] None
      ∙ sym (ap (λ n. number_in pair_eq (pair_by n None) pairs) (here ∙ old.nil_of_each) ∙ fresh keys values pairs old.in_range))
]

wider_key : (keys values : List Atom) (key : Atom) (p : ℕ × Option ℕ) → IsInRange keys values p → IsInRange (keys ++ key ∷ []) values p
wider_key keys values key p here = let below = here.0 in let wider : p.0 < length (keys ++ key ∷ []) = omega (arith, length_push keys key) in (wider, here.1)

one_key :
    (keys values : List Atom) (pairs : List (ℕ × Option ℕ)) (nils : List (Option ℕ)) (key : Atom) → IsNumbering keys values pairs nils → number_in atom_eq key keys ≡ None
    → IsNumbering (keys ++ key ∷ []) values pairs (nils ++ None ∷ [])
one_key keys values pairs nils key old new = record {
  keys_numbered = numbered_push atom_eq keys key (atom_eq-itself key) old.keys_numbered new;
  values_numbered = old.values_numbered;
  pairs_numbered = old.pairs_numbered;
  in_range = λ i p h. wider_key keys values key p (old.in_range i p h);
  nils_numbered = nil_numbered keys values pairs nils old;
  nil_of_each = length_push nils None ∙ ap (λ n. n + 1) old.nil_of_each ∙ sym (length_push keys key);
}

-- what a new key leaves
pub new_key :
    (keys values : List Atom) (pairs : List (ℕ × Option ℕ)) (nils : List (Option ℕ)) (key : Atom) (more : List Atom) (longer : List (Option ℕ)) → IsNumbering keys values pairs nils
    → more ≡ with_item atom_eq keys key → number_in atom_eq key keys ≡ None → longer ≡ nils ++ None ∷ []
    → IsNumbering more values pairs longer × (versions_in more values pairs ≡ versions_in keys values pairs)
new_key keys values pairs nils key more longer old keyed new pushed =
    let k : more ≡ keys ++ key ∷ [] = keyed ∙ with_item-new atom_eq keys key new in (
      rw (k, pushed) (one_key keys values pairs nils key old new),
      ap (λ (xs : List Atom). versions_in xs values pairs) k ∙ keys_grown keys key values pairs old.in_range,
    )

-- ---- what a key's number tells

pub key_is : (s : Numbers) (key : Atom) (number : ℕ) → number_in atom_eq key s.keys ≡ Some number → key_at s.keys number ≡ key
key_is s key number numbered = get_or_from_slice_get s.keys number key none (number_at atom_eq atom_eq-same key s.keys number numbered)

-- ---- one value more

below_inserted : (values : List Atom) (v : Option ℕ) (value : Atom) → IsBelow (length values) v → IsBelow (length (with_item atom_eq values value)) v
below_inserted values v value below = elim (cases_number atom_eq value values) [
  | inl there ↦ subst (λ (vs : List Atom). IsBelow (length vs) v) (sym (with_item-there atom_eq values value there.0 there.1)) below
  | inr new ↦ subst (λ (vs : List Atom). IsBelow (length vs) v) (sym (with_item-new atom_eq values value new)) (below_grown values v value below)
]

pub one_value :
    (keys values : List Atom) (pairs : List (ℕ × Option ℕ)) (nils : List (Option ℕ)) (value : Atom) → IsNumbering keys values pairs nils
    → IsNumbering keys (with_item atom_eq values value) pairs nils
one_value keys values pairs nils value old = record {
  keys_numbered = old.keys_numbered;
  values_numbered = inserted_numbered atom_eq values value (atom_eq-itself value) old.values_numbered;
  pairs_numbered = old.pairs_numbered;
  in_range = λ i p h. ((old.in_range i p h).0, below_inserted values p.1 value (old.in_range i p h).1);
  nils_numbered = old.nils_numbered;
  nil_of_each = old.nil_of_each;
}

pub valued_versions :
    (keys values : List Atom) (pairs : List (ℕ × Option ℕ)) (value : Atom) → AreInRange keys values pairs
    → versions_in keys (with_item atom_eq values value) pairs ≡ versions_in keys values pairs
valued_versions keys values pairs value ranged = elim (cases_number atom_eq value values) [
  | inl there ↦ ap (λ (vs : List Atom). versions_in keys vs pairs) (with_item-there atom_eq values value there.0 there.1)
  | inr new ↦ ap (λ (vs : List Atom). versions_in keys vs pairs) (with_item-new atom_eq values value new) ∙ values_grown keys values value pairs ranged
]

-- ---- one version more

pub one_version :
    (keys values : List Atom) (pairs : List (ℕ × Option ℕ)) (nils later : List (Option ℕ)) (p : ℕ × Option ℕ) → IsNumbering keys values pairs nils → IsInRange keys values p
    → AreNilsIn (with_item pair_eq pairs p) later → length later ≡ length nils → IsNumbering keys values (with_item pair_eq pairs p) later
one_version keys values pairs nils later p old here numbered each = record {
  keys_numbered = old.keys_numbered;
  values_numbered = old.values_numbered;
  pairs_numbered = inserted_numbered pair_eq pairs p (pair_eq-itself p) old.pairs_numbered;
  in_range = λ i q h. elim (cases_number pair_eq p pairs) [
    | inl there ↦ old.in_range i q (sym (ap (λ (ps : List (ℕ × Option ℕ)). slice_get ps i) (with_item-there pair_eq pairs p there.0 there.1)) ∙ h)
    | inr new ↦ elim (item_pushed pairs p i q (sym (ap (λ (ps : List (ℕ × Option ℕ)). slice_get ps i) (with_item-new pair_eq pairs p new)) ∙ h)) [
      | inl among ↦ old.in_range i q among
      | inr last ↦ subst (IsInRange keys values) (sym last.1) here
    ]
  ];
  nils_numbered = numbered;
  nil_of_each = each ∙ old.nil_of_each;
}

-- the version of a pair that is inserted
pub inserted_version :
    (keys values : List Atom) (pairs : List (ℕ × Option ℕ)) (nils : List (Option ℕ)) (p : ℕ × Option ℕ) (more : List (ℕ × Option ℕ)) (n : ℕ) → IsNumbering keys values pairs nils
    → IsInRange keys values p → more ≡ with_item pair_eq pairs p → number_in pair_eq p more ≡ Some n
    → (versions_in keys values more ≡ with_item version_eq (versions_in keys values pairs) (version_by keys values p))
    × (slice_get (versions_in keys values more) n ≡ Some (version_by keys values p))
inserted_version keys values pairs nils p more n old here paired at = (
  ap (versions_in keys values) paired ∙ one_pair keys values pairs old.keys_numbered old.values_numbered old.in_range p here,
  slice_get-map (version_by keys values) more n ∙ ap (option_map (version_by keys values)) (number_at pair_eq pair_eq-same p more n at),
)

-- what the nil version of a key leaves
pub new_nil :
    (s : Numbers) (key n : ℕ) (pairs : List (ℕ × Option ℕ)) → IsNumbering s.keys s.values s.pairs s.nils → key < length s.keys
    → pairs ≡ with_item pair_eq s.pairs (key, None) → number_in pair_eq (key, None) pairs ≡ Some n
    → (versions_in s.keys s.values pairs ≡ with_item version_eq (versions_of s) (version_with (key_at s.keys key) None))
    × (slice_get (versions_in s.keys s.values pairs) n ≡ Some (version_with (key_at s.keys key) None))
new_nil s key n pairs old below paired at = inserted_version s.keys s.values s.pairs s.nils (pair_by key None) pairs n old (below, tt) paired at

-- what a value of a key leaves
pub new_version :
    (s : Numbers) (key : ℕ) (value : Atom) (m n : ℕ) (values : List Atom) (pairs : List (ℕ × Option ℕ)) → IsNumbering s.keys s.values s.pairs s.nils → key < length s.keys
    → values ≡ with_item atom_eq s.values value → number_in atom_eq value values ≡ Some m
    → pairs ≡ with_item pair_eq s.pairs (key, Some m) → number_in pair_eq (key, Some m) pairs ≡ Some n
    → IsNumbering s.keys values pairs s.nils
    × (versions_in s.keys values pairs ≡ with_item version_eq (versions_of s) (version_with (key_at s.keys key) (Some value)))
    × (slice_get (versions_in s.keys values pairs) n ≡ Some (version_with (key_at s.keys key) (Some value)))
new_version s key value m n values pairs old below valued numbered paired at =
    let p = pair_by key (Some m) in
    let is1 : IsNumbering s.keys values s.pairs s.nils = subst (λ (vs : List Atom). IsNumbering s.keys vs s.pairs s.nils) (sym valued) (one_value s.keys s.values s.pairs s.nils value old) in
    let here : IsInRange s.keys values p = (below, number_within atom_eq value values m numbered) in
    let is2 : IsNumbering s.keys values pairs s.nils = subst (λ (ps : List (ℕ × Option ℕ)). IsNumbering s.keys values ps s.nils) (sym paired)
    (one_version s.keys values s.pairs s.nils s.nils p is1 here (nils_kept s.pairs s.nils key m is1.nils_numbered) refl) in
    let found : get_or values m none ≡ value = get_or_from_slice_get values m value none (number_at atom_eq atom_eq-same value values m numbered) in
    let made : version_by s.keys values p ≡ version_with (key_at s.keys key) (Some value) = ap (λ v. version_with (key_at s.keys key) (Some v)) found in
    let after = inserted_version s.keys values s.pairs s.nils p pairs n is1 here paired at in (
      is2,
      after.0
          ∙ ap (λ (vs : List Version). with_item version_eq vs (version_by s.keys values p)) (ap (λ (vs : List Atom). versions_in s.keys vs s.pairs) valued ∙ valued_versions s.keys s.values s.pairs value old.in_range)
          ∙ ap (with_item version_eq (versions_of s)) made,
      after.1 ∙ ap Some made,
    )

-- ---- looking versions up

-- a value as it is read, by its number
abbrev pub IsRead : List Atom → Option ℕ → Option Atom → Type 0
IsRead values None value = value ≡ None
IsRead values (Some m) value = (atom : Atom) × (value ≡ Some atom) × (atom ≡ get_or values m atom)

value_read :
    (values : List Atom) (v : Option ℕ) (value : Option Atom) → IsBelow (length values) v → IsRead values v value
    → option_map (λ m. get_or values m none) v ≡ value
value_read values None value below is = sym is
value_read values (Some m) value below is = ap Some (sym (get_or_read values m is.0 below is.2 none)) ∙ sym is.1

pub version_read :
    (keys values : List Atom) (pairs : List (ℕ × Option ℕ)) (number : ℕ) (p : ℕ × Option ℕ) (key : Atom) (value : Option Atom) → AreInRange keys values pairs
    → number < length pairs → p ≡ get_or pairs number p → key ≡ get_or keys p.0 key → IsRead values p.1 value
    → slice_get (versions_in keys values pairs) number ≡ Some (version_with key value)
version_read keys values pairs number p key value ranged within is key_is value_is =
    let at : slice_get pairs number ≡ Some p = slice_get-get_or pairs number p within ∙ ap Some (sym is) in
    let here = ranged number p at in
    slice_get-map (version_by keys values) pairs number ∙ ap (option_map (version_by keys values)) at
    ∙ ap (λ k. Some (version_with k (option_map (λ m. get_or values m none) p.1))) (sym (get_or_read keys p.0 key here.0 key_is none))
    ∙ ap (λ v. Some (version_with key v)) (value_read values p.1 value here.1 value_is)

-- what a key and a value leave
pub access_versions :
    (first before last : List Version) (key : Atom) (value : Option Atom) (nil version : ℕ)
    → before ≡ with_item version_eq first (nil_of key) → slice_get before nil ≡ Some (nil_of key)
    → last ≡ with_item version_eq before (version_with key value) → slice_get last version ≡ Some (version_with key value)
    → (last ≡ with_versions first (nil_of key ∷ version_with key value ∷ []))
    × IsAccess last (version_with key value) (access_by nil version)
access_versions first before last key value nil version keyed at grown found = (
  grown ∙ ap (λ (vs : List Version). with_item version_eq vs (version_with key value)) keyed,
  (ap (λ (vs : List Version). slice_get vs nil) grown ∙ slice_get-with_item version_eq before (version_with key value) (nil_of key) nil at, found),
)

-- what is there is not inserted again
pub version_there : (vs : List Version) (v : Version) (n : ℕ) → AreNumbered version_eq vs → slice_get vs n ≡ Some v → vs ≡ with_item version_eq vs v
version_there vs v n numbered at = sym (with_item-there version_eq vs v n (numbered n v at))

-- what a version that is there leaves, where the nil version of its key is inserted
pub access_there :
    (first last : List Version) (v : Version) (nil version : ℕ) → AreNumbered version_eq first → slice_get first version ≡ Some v
    → last ≡ with_item version_eq first (nil_of v.key) → slice_get last nil ≡ Some (nil_of v.key)
    → (last ≡ with_versions first (nil_of v.key ∷ v ∷ [])) × IsAccess last v (access_by nil version)
access_there first last v nil version numbered at grown nil_at =
    let longer = with_item version_eq first (nil_of v.key) in
    let stays : slice_get longer version ≡ Some v = slice_get-with_item version_eq first (nil_of v.key) v version at in
    let again = version_there longer v version (inserted_numbered version_eq first (nil_of v.key) (version_eq-itself (nil_of v.key)) numbered) stays in
    (grown ∙ again, (nil_at, ap (λ (vs : List Version). slice_get vs version) grown ∙ stays))
