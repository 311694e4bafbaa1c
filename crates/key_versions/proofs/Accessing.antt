-- What a transaction reads and writes, with one micro-operation more.
use Rattle.std.proofs.Common.{◌≡◌, inl, inr, ℕ, List, [], ◌∷◌, ◌++◌, map, Bool, true, false, cond, Some, refl, sym, ◌∙◌, ap, subst}
use Rattle.std.specs.Prelude.{slice_get, not, ◌==◌, ◌||◌}
use Rattle.std.specs.List.{list_any}
use Rattle.std.proofs.lemmas.Bool.{cases_Bool, or_cases, true≢false, false≢true, false_from_ne_true, eqb-true, eq-eqb}
use Rattle.std.proofs.lemmas.List.{append_assoc, append-nil, map_push}
use Rattle.hist_types.specs.Atoms.{Atom, Value, atom_eq}
use Rattle.hist_types.specs.Operations.{Mop, read, write}
use Rattle.hist_types.specs.Journal.{writes_of}
use Rattle.hist_types.specs.Transactions.{Version, version_eq, version_of, has_version, reads_after}
use Rattle.hist_types.specs.Versions.{nil_of, version_in}
use Rattle.hist_types.proofs.Equality.{atom_eq-same, atom_eq-itself, version_eq-same, version_eq-itself}
use Rattle.atom_index.specs.Numbers.{number_in, with_item, AreNumbered}
use Rattle.atom_index.proofs.Pushed.{inserted_numbered}
use Rattle.edn_ops.specs.Shapes.{is_write}
use Rattle.op_view.specs.Mops.{key_of, value_of}
use Rattle.key_versions.specs.declared.pending.Access.{Access}
use Rattle.key_versions.specs.Histories.{known_in, named_in}
use Rattle.key_versions.specs.Numbering.{version_with, with_versions, IsAccess, AreAccesses}
use Rattle.key_versions.specs.Rows.{has_nil, with_access, with_read}
use Rattle.key_versions.proofs.Places.{same_item, slice_get-with_item}

-- ---- versions that are inserted

pub versions_numbered : (vs : List Version) → AreNumbered version_eq vs → (ws : List Version) → AreNumbered version_eq (with_versions vs ws)
versions_numbered vs numbered [] = numbered
versions_numbered vs numbered (w ∷ ws) = versions_numbered (with_item version_eq vs w) (inserted_numbered version_eq vs w (version_eq-itself w) numbered) ws

pub versions_stay : (vs ws : List Version) (n : ℕ) (v : Version) → slice_get vs n ≡ Some v → slice_get (with_versions vs ws) n ≡ Some v
versions_stay vs [] n v h = h
versions_stay vs (w ∷ ws) n v h = versions_stay (with_item version_eq vs w) ws n v (slice_get-with_item version_eq vs w v n h)

versions_append : (vs us ws : List Version) → with_versions vs (us ++ ws) ≡ with_versions (with_versions vs us) ws
versions_append vs [] ws = refl
versions_append vs (u ∷ us) ws = versions_append (with_item version_eq vs u) us ws

key_alone : (v w : Version) → has_version (w ∷ []) v ≡ true → v.key ≡ w.key
key_alone v w h = elim (or_cases (version_eq v w) false h) [
  | inl is ↦ ap (λ (u : Version). u.key) (version_eq-same v w is)
  | inr none ↦ absurd (false≢true none)
]

-- what is known of a micro-operation is of its key
pub known_key : (v : Version) (ok : Bool) (m : Mop) → has_version (known_in ok m) v ≡ true → v.key ≡ key_of m
known_key v true (read key value) h = key_alone v (version_with key value) h
known_key v false (read key value) h = absurd (false≢true h)
known_key v ok (write key value) h = key_alone v (version_with key (Some value)) h

-- what one micro-operation names
abbrev pub named_of : Bool → Mop → List Version
named_of ok m = nil_of (key_of m) ∷ known_in ok m

named-push : (ok : Bool) (ms : List Mop) (m : Mop) → named_in ok (ms ++ m ∷ []) ≡ named_in ok ms ++ named_of ok m
named-push ok [] m = append-nil (named_of ok m)
named-push ok (n ∷ ms) m =
    ap (λ (vs : List Version). named_of ok n ++ vs) (named-push ok ms m) ∙ sym (append_assoc (named_of ok n) (named_in ok ms) (named_of ok m))

-- ---- accesses

pub accesses_stay :
    (vs us : List Version) → ((n : ℕ) (v : Version) → slice_get vs n ≡ Some v → slice_get us n ≡ Some v)
    → (named : List Version) (accesses : List Access) → AreAccesses vs named accesses → AreAccesses us named accesses
accesses_stay vs us stay [] [] are = are
accesses_stay vs us stay (v ∷ named) (a ∷ accesses) are = ((stay a.nil (nil_of v.key) are.0.0, stay a.version v are.0.1), accesses_stay vs us stay named accesses are.1)
accesses_stay vs us stay [] (a ∷ accesses) are = absurd are
accesses_stay vs us stay (v ∷ named) [] are = absurd are

pub accesses_push :
    (vs : List Version) (named : List Version) (accesses : List Access) (v : Version) (a : Access) → AreAccesses vs named accesses → IsAccess vs v a
    → AreAccesses vs (named ++ v ∷ []) (accesses ++ a ∷ [])
accesses_push vs [] [] v a are is = (is, tt)
accesses_push vs (u ∷ named) (b ∷ accesses) v a are is = (are.0, accesses_push vs named accesses v a are.1 is)
accesses_push vs [] (b ∷ accesses) v a are is = absurd are
accesses_push vs (u ∷ named) [] v a are is = absurd are

-- nil versions are of one key where their numbers are equal
pub same_nil :
    (vs : List Version) → AreNumbered version_eq vs → (v u : Version) (i j : ℕ) → slice_get vs i ≡ Some (nil_of v.key) → slice_get vs j ≡ Some (nil_of u.key)
    → (j == i) ≡ atom_eq v.key u.key
same_nil vs numbered v u i j here there = elim (cases_Bool (j == i)) [
  | inl is ↦ (
      let place : j ≡ i = eqb-true j i is in
      let same : nil_of v.key ≡ nil_of u.key = same_item (nil_of v.key) (nil_of u.key) (sym here ∙ sym (ap (slice_get vs) place) ∙ there) in
      let keys : v.key ≡ u.key = ap (λ (w : Version). w.key) same in
      is ∙ sym (ap (atom_eq v.key) (sym keys) ∙ atom_eq-itself v.key))
  | inr differ ↦ differ ∙ sym (false_from_ne_true _ (λ equal.
      let keys : v.key ≡ u.key = atom_eq-same v.key u.key equal in
      let place : j ≡ i = same_item j i (sym (numbered j (nil_of u.key) there) ∙ ap (λ k. number_in version_eq (nil_of k) vs) (sym keys) ∙ numbered i (nil_of v.key) here) in
      true≢false (sym (eq-eqb j i place) ∙ differ)))
]

pub has_nil_key :
    (vs : List Version) → AreNumbered version_eq vs → (v : Version) (a : Access) → IsAccess vs v a → (named : List Version) (accesses : List Access) → AreAccesses vs named accesses
    → has_nil a.nil accesses ≡ list_any (λ (u : Version). atom_eq v.key u.key) named
has_nil_key vs numbered v a is [] [] are = refl
has_nil_key vs numbered v a is (u ∷ named) (b ∷ accesses) are =
    ap (λ t. t || has_nil a.nil accesses) (same_nil vs numbered v u a.nil b.nil is.0 are.0.0)
    ∙ ap (λ t. atom_eq v.key u.key || t) (has_nil_key vs numbered v a is named accesses are.1)
has_nil_key vs numbered v a is [] (b ∷ accesses) are = absurd are
has_nil_key vs numbered v a is (u ∷ named) [] are = absurd are

-- ---- writes and reads

abbrev pub written_in : List Mop → List Version
written_in ms = map version_of (writes_of ms)

writes-push : (ms : List Mop) (key value : Atom) → written_in (ms ++ write key value ∷ []) ≡ written_in ms ++ version_with key (Some value) ∷ []
writes-push [] key value = refl
writes-push (read k v ∷ ms) key value = writes-push ms key value
writes-push (write k v ∷ ms) key value = ap (λ (vs : List Version). version_with k (Some v) ∷ vs) (writes-push ms key value)

writes-read : (ms : List Mop) (key : Atom) (value : Value) → written_in (ms ++ read key value ∷ []) ≡ written_in ms
writes-read [] key value = refl
writes-read (read k v ∷ ms) key value = writes-read ms key value
writes-read (write k v ∷ ms) key value = ap (λ (vs : List Version). version_with k (Some v) ∷ vs) (writes-read ms key value)

reads-write : (written : List Atom) (ms : List Mop) (key value : Atom) → reads_after written (ms ++ write key value ∷ []) ≡ reads_after written ms
reads-write written [] key value = refl
reads-write written (read k v ∷ ms) key value =
    ap (λ (vs : List Version). cond (list_any (atom_eq k) written) vs (version_with k v ∷ vs)) (reads-write written ms key value)
reads-write written (write k v ∷ ms) key value = reads-write (k ∷ written) ms key value

abbrev writes_key : Atom → List Mop → Bool
writes_key key ms = list_any (λ (u : Version). atom_eq key u.key) (written_in ms)

or_false : (b : Bool) → b ≡ (b || false)
or_false true = refl
or_false false = refl

or_moved : (a w l : Bool) → ((a || w) || l) ≡ (w || (a || l))
or_moved true true l = refl
or_moved true false l = refl
or_moved false w l = refl

under_cond : (b : Bool) (v : Version) (xs ys zs : List Version) → xs ≡ ys ++ zs → cond b xs (v ∷ xs) ≡ cond b ys (v ∷ ys) ++ zs
under_cond true v xs ys zs e = e
under_cond false v xs ys zs e = ap (λ (vs : List Version). v ∷ vs) e

reads-read :
    (written : List Atom) (ms : List Mop) (key : Atom) (value : Value)
    → reads_after written (ms ++ read key value ∷ []) ≡ reads_after written ms ++ cond (list_any (atom_eq key) written || writes_key key ms) [] (version_with key value ∷ [])
reads-read written [] key value = ap (λ b. cond b [] (version_with key value ∷ [])) (or_false (list_any (atom_eq key) written))
reads-read written (read k v ∷ ms) key value =
    under_cond (list_any (atom_eq k) written) (version_with k v) (reads_after written (ms ++ read key value ∷ [])) (reads_after written ms)
    (cond (list_any (atom_eq key) written || writes_key key ms) [] (version_with key value ∷ [])) (reads-read written ms key value)
reads-read written (write k v ∷ ms) key value =
    reads-read (k ∷ written) ms key value
    ∙ ap (λ b. reads_after (k ∷ written) ms ++ cond b [] (version_with key value ∷ [])) (or_moved (atom_eq key k) (list_any (atom_eq key) written) (writes_key key ms))

-- ---- one micro-operation more

-- what is known of the micro-operations so far
pub record AreTaken (base : List Version) (is_ok : Bool) (ms : List Mop) (vs : List Version) (ws rs : List Access) : Type 0 where
  pub versions : vs ≡ with_versions base (named_in is_ok ms)
  pub writes : AreAccesses vs (written_in ms) ws
  pub reads : AreAccesses vs (cond is_ok (reads_after [] ms) []) rs

module _ (base : List Version) (numbered : AreNumbered version_eq base) (is_ok : Bool) (ms : List Mop) (vs us : List Version) (ws rs : List Access) (m : Mop) (a : Access) where
  abbrev IsGrown : Type 0
  IsGrown = us ≡ with_versions vs (named_of is_ok m)

  taken_versions : vs ≡ with_versions base (named_in is_ok ms) → IsGrown → us ≡ with_versions base (named_in is_ok (ms ++ m ∷ []))
  taken_versions old grown =
      grown ∙ ap (λ (xs : List Version). with_versions xs (named_of is_ok m)) old
      ∙ sym (versions_append base (named_in is_ok ms) (named_of is_ok m))
      ∙ ap (with_versions base) (sym (named-push is_ok ms m))

  stays : IsGrown → (n : ℕ) (v : Version) → slice_get vs n ≡ Some v → slice_get us n ≡ Some v
  stays grown n v h = ap (λ (xs : List Version). slice_get xs n) grown ∙ versions_stay vs (named_of is_ok m) n v h

  -- what was read and written is read and written
  still :
      AreTaken base is_ok ms vs ws rs → IsGrown
      → AreAccesses us (written_in ms) ws × AreAccesses us (cond is_ok (reads_after [] ms) []) rs
  still old grown = (accesses_stay vs us (stays grown) (written_in ms) ws old.writes, accesses_stay vs us (stays grown) (cond is_ok (reads_after [] ms) []) rs old.reads)

  us_numbered : AreTaken base is_ok ms vs ws rs → IsGrown → AreNumbered version_eq us
  us_numbered old grown =
      subst (AreNumbered version_eq) (sym (taken_versions old.versions grown)) (versions_numbered base numbered (named_in is_ok (ms ++ m ∷ [])))

  own :
      AreTaken base is_ok ms vs ws rs → IsGrown → IsAccess us (version_with (key_of m) (value_of m)) a
      → has_nil a.nil ws ≡ writes_key (key_of m) ms
  own old grown is = has_nil_key us (us_numbered old grown) (version_with (key_of m) (value_of m)) a is (written_in ms) ws (still old grown).0

-- the version of a micro-operation has a number then
abbrev pub IsAccessed : (vs us : List Version) → Mop → Type 0
IsAccessed vs us m = us ≡ with_versions vs (nil_of (key_of m) ∷ version_with (key_of m) (value_of m) ∷ [])

pub accessed_by :
    (vs us : List Version) (m : Mop) (a : Access) (key : Atom) (value : Value) → key ≡ key_of m → value ≡ value_of m
    → us ≡ with_versions vs (nil_of key ∷ version_with key value ∷ []) → IsAccess us (version_with key value) a
    → IsAccessed vs us m × IsAccess us (version_with (key_of m) (value_of m)) a
accessed_by vs us m a key value same_key same_value grown is = (
  grown
      ∙ ap (λ (k : Atom). with_versions vs (nil_of k ∷ version_with k value ∷ [])) same_key
      ∙ ap (λ (v : Value). with_versions vs (nil_of (key_of m) ∷ version_with (key_of m) v ∷ [])) same_value,
  subst (λ (v : Value). IsAccess us (version_with (key_of m) v) a) same_value (subst (λ (k : Atom). IsAccess us (version_with k value) a) same_key is),
)

-- a write
pub taken_write :
    (base : List Version) (numbered : AreNumbered version_eq base) (is_ok : Bool) (ms : List Mop) (vs us : List Version) (ws rs : List Access) (m : Mop) (a : Access)
    → AreTaken base is_ok ms vs ws rs → IsAccessed vs us m → IsAccess us (version_with (key_of m) (value_of m)) a
    → is_write m ≡ true → AreTaken base is_ok (ms ++ m ∷ []) us (ws ++ a ∷ []) rs
taken_write base numbered is_ok ms vs us ws rs (read key value) a old grown is writes = absurd (false≢true writes)
taken_write base numbered is_ok ms vs us ws rs (write key value) a old grown is writes =
    let m = write key value in
    let kept = still base numbered is_ok ms vs us ws rs m a old grown in
    record {
      versions = taken_versions base numbered is_ok ms vs us ws rs m a old.versions grown;
      writes = subst (λ (xs : List Version). AreAccesses us xs (ws ++ a ∷ [])) (sym (writes-push ms key value)) (accesses_push us (written_in ms) ws (version_with key (Some value)) a kept.0 is);
      reads = subst (λ (xs : List Version). AreAccesses us (cond is_ok xs []) rs) (sym (reads-write [] ms key value)) kept.1;
    }

-- a read of an ok transaction
read_grown : (is_ok : Bool) (vs us : List Version) (key : Atom) (value : Value) → is_ok ≡ true → IsAccessed vs us (read key value) → us ≡ with_versions vs (named_of is_ok (read key value))
read_grown is_ok vs us key value ok grown = grown ∙ ap (λ b. with_versions vs (named_of b (read key value))) (sym ok)

-- an external read of an ok transaction
pub taken_read :
    (base : List Version) (numbered : AreNumbered version_eq base) (is_ok : Bool) (ms : List Mop) (vs us : List Version) (ws rs : List Access) (m : Mop) (a : Access)
    → AreTaken base is_ok ms vs ws rs → IsAccessed vs us m → IsAccess us (version_with (key_of m) (value_of m)) a
    → is_write m ≡ false → is_ok ≡ true → has_nil a.nil ws ≡ false → AreTaken base is_ok (ms ++ m ∷ []) us ws (rs ++ a ∷ [])
taken_read base numbered is_ok ms vs us ws rs (write key value) a old grown is reads ok external = absurd (true≢false reads)
taken_read base numbered is_ok ms vs us ws rs (read key value) a old grown is reads ok external =
    let m = read key value in
    let more = read_grown is_ok vs us key value ok grown in
    let kept = still base numbered is_ok ms vs us ws rs m a old more in
    let first : writes_key key ms ≡ false = sym (own base numbered is_ok ms vs us ws rs m a old more is) ∙ external in
    let before : AreAccesses us (reads_after [] ms) rs = subst (λ b. AreAccesses us (cond b (reads_after [] ms) []) rs) ok kept.1 in
    let after : reads_after [] (ms ++ m ∷ []) ≡ reads_after [] ms ++ version_with key value ∷ [] =
    reads-read [] ms key value ∙ ap (λ b. reads_after [] ms ++ cond b [] (version_with key value ∷ [])) first in
    record {
      versions = taken_versions base numbered is_ok ms vs us ws rs m a old.versions more;
      writes = subst (λ (xs : List Version). AreAccesses us xs ws) (sym (writes-read ms key value)) kept.0;
      reads = subst (λ b. AreAccesses us (cond b (reads_after [] (ms ++ m ∷ [])) []) (rs ++ a ∷ [])) (sym ok)
          (subst (λ (xs : List Version). AreAccesses us xs (rs ++ a ∷ [])) (sym after) (accesses_push us (reads_after [] ms) rs (version_with key value) a before is));
    }

-- a read of what an ok transaction wrote itself
pub taken_own :
    (base : List Version) (numbered : AreNumbered version_eq base) (is_ok : Bool) (ms : List Mop) (vs us : List Version) (ws rs : List Access) (m : Mop) (a : Access)
    → AreTaken base is_ok ms vs ws rs → IsAccessed vs us m → IsAccess us (version_with (key_of m) (value_of m)) a
    → is_write m ≡ false → is_ok ≡ true → has_nil a.nil ws ≡ true → AreTaken base is_ok (ms ++ m ∷ []) us ws rs
taken_own base numbered is_ok ms vs us ws rs (write key value) a old grown is reads ok internal = absurd (true≢false reads)
taken_own base numbered is_ok ms vs us ws rs (read key value) a old grown is reads ok internal =
    let m = read key value in
    let more = read_grown is_ok vs us key value ok grown in
    let kept = still base numbered is_ok ms vs us ws rs m a old more in
    let second : writes_key key ms ≡ true = sym (own base numbered is_ok ms vs us ws rs m a old more is) ∙ internal in
    let after : reads_after [] (ms ++ m ∷ []) ≡ reads_after [] ms =
    reads-read [] ms key value ∙ ap (λ b. reads_after [] ms ++ cond b [] (version_with key value ∷ [])) second ∙ append-nil (reads_after [] ms) in
    record {
      versions = taken_versions base numbered is_ok ms vs us ws rs m a old.versions more;
      writes = subst (λ (xs : List Version). AreAccesses us xs ws) (sym (writes-read ms key value)) kept.0;
      reads = subst (λ (xs : List Version). AreAccesses us (cond is_ok xs []) rs) (sym after) kept.1;
    }

-- a read of a transaction that is not ok
pub taken_unknown :
    (base : List Version) (numbered : AreNumbered version_eq base) (is_ok : Bool) (ms : List Mop) (vs us : List Version) (ws rs : List Access) (m : Mop)
    → AreTaken base is_ok ms vs ws rs → us ≡ with_item version_eq vs (nil_of (key_of m))
    → is_write m ≡ false → is_ok ≡ false → AreTaken base is_ok (ms ++ m ∷ []) us ws rs
taken_unknown base numbered is_ok ms vs us ws rs (write key value) old grown reads unknown = absurd (true≢false reads)
taken_unknown base numbered is_ok ms vs us ws rs (read key value) old grown reads unknown =
    let m = read key value in
    let any : Access = record { nil = 0; version = 0 } in
    let more : us ≡ with_versions vs (named_of is_ok m) = grown ∙ ap (λ b. with_versions vs (named_of b m)) (sym unknown) in
    let kept = still base numbered is_ok ms vs us ws rs m any old more in
    let before : AreAccesses us [] rs = subst (λ b. AreAccesses us (cond b (reads_after [] ms) []) rs) unknown kept.1 in
    record {
      versions = taken_versions base numbered is_ok ms vs us ws rs m any old.versions more;
      writes = subst (λ (xs : List Version). AreAccesses us xs ws) (sym (writes-read ms key value)) kept.0;
      reads = subst (λ b. AreAccesses us (cond b (reads_after [] (ms ++ m ∷ [])) []) rs) (sym unknown) before;
    }

-- ---- what is added

or_right_is : (b : Bool) → (b || false) ≡ true → b ≡ true
or_right_is true e = refl
or_right_is false e = absurd (false≢true e)

-- a write, or a read of an ok transaction
pub taken_added :
    (base : List Version) (numbered : AreNumbered version_eq base) (is_ok : Bool) (ms : List Mop) (vs us : List Version) (ws rs : List Access) (m : Mop) (a : Access)
    → AreTaken base is_ok ms vs ws rs → IsAccessed vs us m → IsAccess us (version_with (key_of m) (value_of m)) a
    → (is_ok || is_write m) ≡ true → AreTaken base is_ok (ms ++ m ∷ []) us (with_access (is_write m) a ws) (with_read (is_write m) a ws rs)
taken_added base numbered is_ok ms vs us ws rs (write key value) a old grown is known =
    taken_write base numbered is_ok ms vs us ws rs (write key value) a old grown is refl
taken_added base numbered is_ok ms vs us ws rs (read key value) a old grown is known = by (has_nil a.nil ws) refl
  where
    ok : is_ok ≡ true
    ok = or_right_is is_ok known

    by : (b : Bool) → has_nil a.nil ws ≡ b → AreTaken base is_ok (ms ++ read key value ∷ []) us ws (with_access (not b) a rs)
    by true e = taken_own base numbered is_ok ms vs us ws rs (read key value) a old grown is refl ok e
    by false e = taken_read base numbered is_ok ms vs us ws rs (read key value) a old grown is refl ok e

version_of_mop : (m : Mop) → version_in m ≡ version_with (key_of m) (value_of m)
version_of_mop (read key value) = refl
version_of_mop (write key value) = refl

-- what an ok transaction reads and writes, where that is kept
pub seen_added :
    (keeps : Bool) (ms : List Mop) (vs us : List Version) (ss : List Access) (m : Mop) (a : Access)
    → ((n : ℕ) (v : Version) → slice_get vs n ≡ Some v → slice_get us n ≡ Some v)
    → AreAccesses vs (cond keeps (map version_in ms) []) ss → IsAccess us (version_with (key_of m) (value_of m)) a
    → AreAccesses us (cond keeps (map version_in (ms ++ m ∷ [])) []) (with_access keeps a ss)
seen_added false ms vs us ss m a stay old is = accesses_stay vs us stay [] ss old
seen_added true ms vs us ss m a stay old is =
    subst (λ (xs : List Version). AreAccesses us xs (ss ++ a ∷ [])) (sym (map_push version_in ms m))
    (accesses_push us (map version_in ms) ss (version_in m) a (accesses_stay vs us stay (map version_in ms) ss old)
    (subst (λ (v : Version). IsAccess us v a) (sym (version_of_mop m)) is))

pub accessed_stay : (vs us : List Version) (m : Mop) → IsAccessed vs us m → (n : ℕ) (v : Version) → slice_get vs n ≡ Some v → slice_get us n ≡ Some v
accessed_stay vs us m grown n v h =
    ap (λ (xs : List Version). slice_get xs n) grown ∙ versions_stay vs (nil_of (key_of m) ∷ version_with (key_of m) (value_of m) ∷ []) n v h

-- where nothing is kept
pub seen_unknown :
    (keeps : Bool) (vs us : List Version) (seen seen' : List Version) (ss : List Access) → keeps ≡ false → AreAccesses vs (cond keeps seen []) ss
    → AreAccesses us (cond keeps seen' []) ss
seen_unknown true vs us seen seen' ss none are = absurd (true≢false none)
seen_unknown false vs us seen seen' [] none are = tt
seen_unknown false vs us seen seen' (a ∷ ss) none are = absurd are
