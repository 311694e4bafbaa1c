-- The table of a history with one transaction more.
use Rattle.std.proofs.Common.{◌≡◌, ◌⊎◌, inl, inr, ◌<◌, ◌≤◌, ◌-◌, ℕ, List, [], ◌∷◌, ◌++◌, length, map, replicate, All, Bool, true, false, cond, Option, Some, None, option_map, refl, sym, ◌∙◌, ap, subst, arith}
use Rattle.std.specs.Prelude.{slice_get, filter, ◌&&◌, ◌||◌, ◌==◌}
use Rattle.std.specs.List.{list_any}
use Rattle.std.specs.Option.{option_or, is_some}
use Rattle.std.proofs.lemmas.Bool.{cases_Bool, true≢false, false≢true, false_from_ne_true, or_cases, or_parts, or_left, or_right, eq-eqb}
use Rattle.std.proofs.lemmas.List.Folds.{list_any-append}
use Rattle.std.proofs.lemmas.List.{append_assoc, map-append, map_push, length-map, length_push, length-append, length-replicate}
use Rattle.std.proofs.lemmas.Option.{slice_get_within, slice_get-map}
use Rattle.hist_types.specs.Atoms.{Atom, Value}
use Rattle.hist_types.specs.Operations.{Mop}
use Rattle.hist_types.specs.Journal.{writes_of}
use Rattle.hist_types.specs.Transactions.{Transaction, Version, version_eq, version_of, has_version, is_ok, external_reads, last_writes, installed_by, is_known_to_read, writes, wrote_intermediate}
use Rattle.hist_types.specs.Versions.{nil_of, pair, is_change}
use Rattle.hist_types.proofs.Equality.{version_eq-same, version_eq-itself}
use Rattle.op_view.specs.Mops.{key_of}
use Rattle.atom_index.specs.Numbers.{number_in, with_item, AreNumbered}
use Rattle.atom_index.proofs.Pushed.{has_number as number_there}
use Rattle.hist_types.specs.declared.types.KeyOrder.TheVariants.{Basic}
use Rattle.key_versions.specs.declared.pending.Access.{Access}
use Rattle.key_versions.specs.declared.types.Writer.{Writer}
use Rattle.key_versions.specs.declared.types.Follower.{Follower}
use Rattle.key_versions.specs.Histories.{known_in, named_in, named_by, is_named, read_by, installs_behind, writer_of, readers_of, followers_of}
use Rattle.key_versions.specs.Numbering.{version_with, with_versions, AreAccesses}
use Rattle.key_versions.specs.Rows.{Known, Accessed, unknown, lasts, follower, is_behind, has_number, IsWithin, numbers_of, accessed, rows_after, grown}
use Rattle.key_versions.specs.Given.{IsTableBeside}
use Rattle.key_versions.specs.Tables.{versions_at, followers_at}
use Rattle.key_versions.specs.Views.{table_by}
use Rattle.key_versions.proofs.Accessing.{versions_numbered, versions_stay, known_key}
use Rattle.key_versions.proofs.Changed.{all_cons}
use Rattle.key_versions.proofs.Followed.{install_at, behind_nil, behind_read, behind_unread}
use Rattle.key_versions.proofs.Growing.{writer-push, readers-push, followers-push, named-push, with_place}
use Rattle.key_versions.proofs.Joined.{has_number_version, lasts_are, writer_is, writer_if}
use Rattle.key_versions.proofs.Known.{HaveNil, access_by, is_of, row_after, row_is, row_parts, grown_row, length-after, length-grown}
use Rattle.key_versions.proofs.Lists.{maps_agree, agree_at, is_at}
use Rattle.key_versions.proofs.Places.{same_item, number_at, number_within, cases_number, with_item-there, with_item-new}
use Rattle.key_versions.proofs.Unnamed.{not_read, unnamed_writer, unnamed_readers, unnamed_followers}

-- ---- versions that are named

pub or_moved : (a b c : Bool) → ((a || b) || c) ≡ (a || (b || c))
or_moved true b c = refl
or_moved false b c = refl

or_false : (b : Bool) → (b || false) ≡ b
or_false true = refl
or_false false = refl

any_last : {A : Type 0} (p : A → Bool) (xs : List A) (x : A) → list_any p (xs ++ x ∷ []) ≡ (list_any p xs || p x)
any_last p [] x = or_false (p x)
any_last p (y ∷ xs) x = ap (λ b. p y || b) (any_last p xs x) ∙ sym (or_moved (p y) (list_any p xs) (p x))

-- a version that has a number is among them
there_is : (vs : List Version) (v : Version) (n : ℕ) → number_in version_eq v vs ≡ Some n → has_version vs v ≡ true
there_is vs v n h = sym (number_there version_eq v vs) ∙ ap is_some h

has_inserted : (vs : List Version) (w v : Version) → has_version (with_item version_eq vs w) v ≡ (has_version vs v || version_eq v w)
has_inserted vs w v = elim (cases_number version_eq w vs) [
  | inl there ↦ ap (λ (xs : List Version). has_version xs v) (with_item-there version_eq vs w there.0 there.1) ∙ absorbed (version_eq v w) (has_version vs v)
      (λ is. ap (has_version vs) (version_eq-same v w is) ∙ there_is vs w there.0 there.1)
  | inr new ↦ ap (λ (xs : List Version). has_version xs v) (with_item-new version_eq vs w new) ∙ any_last (version_eq v) vs w
]
  where
    absorbed : (b c : Bool) → (b ≡ true → c ≡ true) → c ≡ (c || b)
    absorbed true c h = h refl ∙ sym (ap (λ d. d || true) (h refl))
    absorbed false c h = sym (or_false c)

pub has_versions : (vs ws : List Version) (v : Version) → has_version (with_versions vs ws) v ≡ (has_version vs v || has_version ws v)
has_versions vs [] v = sym (or_false (has_version vs v))
has_versions vs (w ∷ ws) v =
    has_versions (with_item version_eq vs w) ws v ∙ ap (λ b. b || has_version ws v) (has_inserted vs w v) ∙ or_moved (has_version vs v) (version_eq v w) (has_version ws v)

longer : (vs ws : List Version) → length vs ≤ length (with_versions vs ws)
longer vs [] = omega arith
longer vs (w ∷ ws) = elim (cases_number version_eq w vs) [
  | inl there ↦ subst (λ (xs : List Version). length vs ≤ length (with_versions xs ws)) (sym (with_item-there version_eq vs w there.0 there.1)) (longer vs ws)
  | inr new ↦ (
      let more = longer (vs ++ w ∷ []) ws in
      subst (λ (xs : List Version). length vs ≤ length (with_versions xs ws)) (sym (with_item-new version_eq vs w new)) (omega (arith, length_push vs w)))
]

nil_first : (v : Version) (key : Atom) (vs : List Version) → v.key ≡ key → has_version (nil_of key ∷ vs) (nil_of v.key) ≡ true
nil_first v key vs same =
    or_left (version_eq (nil_of v.key) (nil_of key)) (has_version vs (nil_of v.key))
    (ap (λ k. version_eq (nil_of v.key) (nil_of k)) (sym same) ∙ version_eq-itself (nil_of v.key))

-- The nil version of a key is named with each version of the key.
nil_named : (v : Version) (ok : Bool) (ms : List Mop) → has_version (named_in ok ms) v ≡ true → has_version (named_in ok ms) (nil_of v.key) ≡ true
nil_named v ok [] h = h
nil_named v ok (m ∷ ms) h = elim (or_cases (version_eq v (nil_of (key_of m))) (has_version (known_in ok m ++ named_in ok ms) v) h) [
  | inl is ↦ nil_first v (key_of m) (known_in ok m ++ named_in ok ms) (ap (λ (w : Version). w.key) (version_eq-same v (nil_of (key_of m)) is))
  | inr other ↦ elim (or_cases (has_version (known_in ok m) v) (has_version (named_in ok ms) v) (sym (list_any-append (version_eq v) (known_in ok m) (named_in ok ms)) ∙ other)) [
    | inl known ↦ nil_first v (key_of m) (known_in ok m ++ named_in ok ms) (known_key v ok m known)
    | inr rest ↦
        or_right (version_eq (nil_of v.key) (nil_of (key_of m))) (has_version (known_in ok m ++ named_in ok ms) (nil_of v.key))
        (list_any-append (version_eq (nil_of v.key)) (known_in ok m) (named_in ok ms)
        ∙ or_right (has_version (known_in ok m) (nil_of v.key)) (has_version (named_in ok ms) (nil_of v.key)) (nil_named v ok ms rest))
  ]
]

nil_named_in : (v : Version) (ts : List Transaction) → is_named ts v ≡ true → is_named ts (nil_of v.key) ≡ true
nil_named_in v [] h = h
nil_named_in v (t ∷ ts) h = elim (cases_Bool (has_version (named_by t) v)) [
  | inl is ↦ ap (λ b. b || is_named ts (nil_of v.key)) (nil_named v (is_ok t) t.mops is)
  | inr none ↦ (
      let rest : is_named ts v ≡ true = sym (ap (λ b. b || is_named ts v) none) ∙ h in
      ap (λ b. has_version (named_by t) (nil_of v.key) || b) (nil_named_in v ts rest) ∙ or_true (has_version (named_by t) (nil_of v.key)))
]
  where
    or_true : (b : Bool) → (b || true) ≡ true
    or_true true = refl
    or_true false = refl

abbrev pair_at : ℕ → Option Version → ℕ × Option Version
pair_at n o = (n, o)

-- ---- numbers among more versions

module _ (vs us : List Version) (stay : (n : ℕ) (v : Version) → slice_get vs n ≡ Some v → slice_get us n ≡ Some v) where
  numbers_stay : (ns : List ℕ) (ws : List Version) → versions_at vs ns ≡ map Some ws → versions_at us ns ≡ map Some ws
  numbers_stay [] ws h = h
  numbers_stay (n ∷ ns) [] h = absurd (cc)
  numbers_stay (n ∷ ns) (w ∷ ws) h =
      let here : slice_get vs n ≡ Some w = cc in
      let behind : versions_at vs ns ≡ map Some ws = cc in
      ap (λ (o : Option Version). o ∷ versions_at us ns) (stay n w here) ∙ ap (λ (os : List (Option Version)). Some w ∷ os) (numbers_stay ns ws behind)

  lists_stay :
      (g : Transaction → List Version) (nss : List (List ℕ)) (ts : List Transaction)
      → map (versions_at vs) nss ≡ map (λ t. map Some (g t)) ts → map (versions_at us) nss ≡ map (λ t. map Some (g t)) ts
  lists_stay g [] ts h = h
  lists_stay g (ns ∷ nss) [] h = absurd (cc)
  lists_stay g (ns ∷ nss) (t ∷ ts) h =
      let here : versions_at vs ns ≡ map Some (g t) = cc in
      let behind : map (versions_at vs) nss ≡ map (λ t. map Some (g t)) ts = cc in
      ap (λ (os : List (Option Version)). os ∷ map (versions_at us) nss) (numbers_stay ns (g t) here)
      ∙ ap (λ (oss : List (List (Option Version))). map Some (g t) ∷ oss) (lists_stay g nss ts behind)

  followers_stay : (fs : List Follower) (ps : List (ℕ × Version)) → followers_at vs fs ≡ map (λ p. (p.0, Some p.1)) ps → followers_at us fs ≡ map (λ p. (p.0, Some p.1)) ps
  followers_stay [] ps h = h
  followers_stay (f ∷ fs) [] h = absurd (cc)
  followers_stay (f ∷ fs) (p ∷ ps) h =
      let pairs : pair_at f.txn (slice_get vs f.version) ≡ pair_at p.0 (Some p.1) = cc in
      let first : f.txn ≡ p.0 = ap (λ (q : ℕ × Option Version). q.0) pairs in
      let second : slice_get vs f.version ≡ Some p.1 = ap (λ (q : ℕ × Option Version). q.1) pairs in
      let behind : followers_at vs fs ≡ map (λ p. (p.0, Some p.1)) ps = cc in
      ap (λ n. pair_at n (slice_get us f.version) ∷ followers_at us fs) first ∙ ap (λ (o : Option Version). pair_at p.0 o ∷ followers_at us fs) (stay f.version p.1 second)
      ∙ ap (λ (qs : List (ℕ × Option Version)). pair_at p.0 (Some p.1) ∷ qs) (followers_stay fs ps behind)

numbers_are : (vs us : List Version) (accesses : List Access) → AreAccesses vs us accesses → versions_at vs (numbers_of accesses) ≡ map Some us
numbers_are vs [] [] are = refl
numbers_are vs (u ∷ us) (a ∷ accesses) are =
    ap (λ (o : Option Version). o ∷ versions_at vs (numbers_of accesses)) are.0.1 ∙ ap (λ (os : List (Option Version)). Some u ∷ os) (numbers_are vs us accesses are.1)
numbers_are vs [] (a ∷ accesses) are = absurd are
numbers_are vs (u ∷ us) [] are = absurd are

pub accesses_within : (vs us : List Version) (accesses : List Access) (n : ℕ) → length vs ≤ n → AreAccesses vs us accesses → All (IsWithin n) accesses
accesses_within vs [] [] n enough are = λ k d below. absurd (omega arith)
accesses_within vs (u ∷ us) (a ∷ accesses) n enough are =
    let nil = slice_get_within vs a.nil (nil_of u.key) are.0.0 in
    let version = slice_get_within vs a.version u are.0.1 in
    all_cons (IsWithin n) a accesses (omega arith, omega arith) (accesses_within vs us accesses n enough are.1)
accesses_within vs [] (a ∷ accesses) n enough are = absurd are
accesses_within vs (u ∷ us) [] n enough are = absurd are

-- ---- rows

abbrev pub as_found : ℕ × Version → ℕ × Option Version
as_found p = (p.0, Some p.1)

-- a row tells what the history does with its version
pub record IsRowOf (ts : List Transaction) (vs : List Version) (v : Version) (x : Known) : Type 0 where
  pub writer : x.writer ≡ writer_of ts v
  pub readers : x.readers ≡ readers_of ts v
  pub followers : followers_at vs x.followers ≡ map as_found (followers_of Basic ts v)

pub row_count : (given : List Version) (ts : List Transaction) (vs : List Version) (rows : List Known) (accesses : List Accessed) → IsTableBeside given ts (table_by vs rows accesses) → length rows ≡ length vs
row_count given ts vs rows accesses is = sym (length-map rows (λ (r : Known). r.writer)) ∙ ap length is.writers ∙ length-map vs (writer_of ts)

-- A version behind those that were there was not among them.
new_version :
    (vs ws : List Version) → AreNumbered version_eq (with_versions vs ws) → (n : ℕ) (v : Version) → slice_get (with_versions vs ws) n ≡ Some v → length vs ≤ n
    → has_version vs v ≡ true → ⊥
new_version vs ws numbered n v at past has = elim (cases_number version_eq v vs) [
  | inl there ↦ (
      let found = number_at version_eq version_eq-same v vs there.0 there.1 in
      let place : there.0 ≡ n = same_item there.0 n (sym (numbered there.0 v (versions_stay vs ws there.0 v found)) ∙ numbered n v at) in
      let below : there.0 < length vs = number_within version_eq v vs there.0 there.1 in
      absurd (omega arith))
  | inr none ↦ absurd (false≢true (ap is_some (sym none) ∙ number_there version_eq v vs ∙ has))
]

abbrev followers_in : Option Known → Option (List Follower)
followers_in o = option_map (λ (r : Known). r.followers) o

-- a row that was there, or one for a version that is new
old_row :
    (given : List Version) (ts : List Transaction) (vs ws : List Version) (rows : List Known) (accesses : List Accessed) → IsTableBeside given ts (table_by vs rows accesses)
    → (m n : ℕ) (v : Version) (x : Known) → slice_get (with_versions vs ws) n ≡ Some v → slice_get (grown m rows) n ≡ Some x
    → IsRowOf ts (with_versions vs ws) v x
old_row given ts vs ws rows accesses is m n v x at row = elim (grown_row m rows n x row) [
  | inl there ↦ (
      let below : n < length vs = subst (λ k. n < k) (row_count given ts vs rows accesses is) (slice_get_within rows n x there) in
      let found = is_at vs n below in
      let same : found.0 ≡ v = same_item found.0 v (sym (versions_stay vs ws n found.0 found.1) ∙ at) in
      let here : slice_get vs n ≡ Some v = found.1 ∙ ap Some same in
      record {
        writer = agree_at (λ (r : Known). r.writer) (writer_of ts) rows vs is.writers n x v there here;
        readers = agree_at (λ (r : Known). r.readers) (readers_of ts) rows vs is.readers n x v there here;
        followers =
            let old = agree_at (followers_at vs) (λ u. map as_found (followers_of Basic ts u)) (map (λ (r : Known). r.followers) rows) vs is.followers n x.followers v
            (slice_get-map (λ (r : Known). r.followers) rows n ∙ ap followers_in there) here in
            followers_stay vs (with_versions vs ws) (versions_stay vs ws) x.followers (followers_of Basic ts v) old;
      })
  | inr past ↦ (
      let unnamed : is_named ts v ≡ false = (or_parts (has_version given v) (is_named ts v) (sym (is.named v) ∙ false_from_ne_true (has_version vs v) (λ has. new_version vs ws (versions_numbered vs is.distinct ws) n v at (subst (λ k. k ≤ n) (row_count given ts vs rows accesses is) past.0) has))).1 in
      subst (IsRowOf ts (with_versions vs ws) v) (sym past.1) (record {
        writer = sym (unnamed_writer ts v unnamed);
        readers = sym (unnamed_readers ts v unnamed);
        followers = sym (ap (map as_found) (unnamed_followers ts v unnamed));
      }))
]

-- ---- one transaction more

abbrev found_at : List Version → Follower → ℕ × Option Version
found_at vs f = (f.txn, slice_get vs f.version)

access_count : (given : List Version) (ts : List Transaction) (vs : List Version) (rows : List Known) (accesses : List Accessed) → IsTableBeside given ts (table_by vs rows accesses) → length accesses ≡ length ts
access_count given ts vs rows accesses is =
    sym (length-map accesses (λ (a : Accessed). a.reads)) ∙ sym (length-map (map (λ (a : Accessed). a.reads) accesses) (versions_at vs)) ∙ ap length is.reads
    ∙ length-map ts (λ t. map Some (read_by t))

map_twice : (place : ℕ) (us : List Version) → map (install_at place) us ≡ map as_found (map (with_place place) us)
map_twice place [] = refl
map_twice place (u ∷ us) = ap (λ (ps : List (ℕ × Option Version)). install_at place u ∷ ps) (map_twice place us)

read_is : (t : Transaction) (v : Version) → has_version (read_by t) v ≡ is_known_to_read t v
read_is t v = by (is_ok t)
  where
    by : (b : Bool) → has_version (cond b (external_reads t) []) v ≡ (b && has_version (external_reads t) v)
    by true = refl
    by false = refl

module _
    (t : Transaction) (vs : List Version) (numbered : AreNumbered version_eq vs) (rs ws : List Access)
    (read : AreAccesses vs (read_by t) rs) (wrote : AreAccesses vs (map version_of (writes_of t.mops)) ws) where
  have_nil :
      (us : List Version) (accesses : List Access) → AreAccesses vs us accesses → (v : Version) (n nil : ℕ) → slice_get vs n ≡ Some v → slice_get vs nil ≡ Some (nil_of v.key)
      → HaveNil nil n accesses
  have_nil [] [] are v n nil at there = tt
  have_nil (u ∷ us) (a ∷ accesses) are v n nil at there = (
    λ same.
        let version : u ≡ v = same_item u v (sym are.0.1 ∙ ap (slice_get vs) same ∙ at) in
        let here : slice_get vs a.nil ≡ Some (nil_of v.key) = are.0.0 ∙ ap (λ (w : Version). Some (nil_of w.key)) version in
        same_item a.nil nil (sym (numbered a.nil (nil_of v.key) here) ∙ numbered nil (nil_of v.key) there),
    have_nil us accesses are.1 v n nil at there,
  )
  have_nil [] (a ∷ accesses) are v n nil at there = absurd are
  have_nil (u ∷ us) [] are v n nil at there = absurd are

  none_have_nil : (accesses : List Access) (n nil : ℕ) → has_number n accesses ≡ false → HaveNil nil n accesses
  none_have_nil [] n nil none = tt
  none_have_nil (a ∷ accesses) n nil none =
      let parts = or_parts (a.version == n) (has_number n accesses) none in
      (λ same. absurd (true≢false (sym (eq-eqb a.version n same) ∙ parts.0)), none_have_nil accesses n nil parts.1)

  -- the nil version of the key has this number, unless nobody is known to read the version
  abbrev IsNilOrUnread : ℕ → Version → Type 0
  IsNilOrUnread nil v = (slice_get vs nil ≡ Some (nil_of v.key)) ⊎ (is_known_to_read t v ≡ false)

  abbrev added : ℕ → ℕ → ℕ → Bool → List (ℕ × Option Version)
  added place n nil b =
      followers_at vs (map (follower place) (filter (is_of n) (lasts ws))) ++ followers_at vs (map (follower place) (cond b (filter (is_behind (access_by nil n)) (lasts ws)) []))

  added_is :
      (place n nil : ℕ) (key : Atom) (value : Value) → slice_get vs n ≡ Some (version_with key value) → IsNilOrUnread nil (version_with key value)
      → added place n nil (is_known_to_read t (version_with key value)) ≡ map (install_at place) (installs_behind [] t (version_with key value))
  added_is place n nil key None at (inl there) =
      behind_nil vs numbered n nil place (last_writes (writes_of t.mops)) (lasts ws) (lasts_are vs numbered (writes_of t.mops) ws wrote) key
      (is_known_to_read t (version_with key None)) (is_known_to_read t (version_with key None)) at there
  added_is place n nil key None at (inr unread) =
      ap (added place n nil) unread
      ∙ behind_nil vs numbered n n place (last_writes (writes_of t.mops)) (lasts ws) (lasts_are vs numbered (writes_of t.mops) ws wrote) key
      false (is_known_to_read t (version_with key None)) at at
  added_is place n nil key (Some x) at there = by (is_known_to_read t (version_with key (Some x))) there
    where
      by :
          (b : Bool) → (slice_get vs nil ≡ Some (version_with key None)) ⊎ (b ≡ false)
          → added place n nil b ≡ map (install_at place) (filter (λ (u : Version). (false || b) && is_change (pair (version_with key (Some x)) u)) (installed_by t))
      by true (inl there) = behind_read vs numbered n nil place (last_writes (writes_of t.mops)) (lasts ws) (lasts_are vs numbered (writes_of t.mops) ws wrote) key x at there
      by true (inr none) = absurd (true≢false none)
      by false there = behind_unread vs numbered n nil place (last_writes (writes_of t.mops)) (lasts ws) (lasts_are vs numbered (writes_of t.mops) ws wrote) key x at

  pub new_row :
      (ts : List Transaction) (n nil : ℕ) (v : Version) (x : Known) → slice_get vs n ≡ Some v → IsNilOrUnread nil v → IsRowOf ts vs v x
      → IsRowOf (ts ++ t ∷ []) vs v (row_after (length ts) n nil x rs ws)
  new_row ts n nil v x at there old =
      let place = length ts in
      let parts = row_parts place n nil x rs ws in
      let is_read : has_number n rs ≡ is_known_to_read t v = has_number_version vs numbered v n at (read_by t) rs read ∙ read_is t v in
      record {
        writer =
            parts.0 ∙ writer_is vs numbered v n at place (writes_of t.mops) ws wrote x
            ∙ ap (λ (o : Option Writer). option_or o (writer_if place (writes t v) (wrote_intermediate t v))) old.writer ∙ sym (writer-push ts t v);
        readers =
            parts.1 ∙ ap (λ b. x.readers ++ cond b (place ∷ []) []) is_read ∙ ap (λ (ps : List ℕ). ps ++ cond (is_known_to_read t v) (place ∷ []) []) old.readers
            ∙ sym (readers-push ts t v);
        followers =
            let first = map (follower place) (filter (is_of n) (lasts ws)) in
            let second = map (follower place) (cond (has_number n rs) (filter (is_behind (access_by nil n)) (lasts ws)) []) in
            ap (followers_at vs) parts.2
            ∙ map-append (found_at vs) (x.followers ++ first) second
            ∙ ap (λ (ps : List (ℕ × Option Version)). ps ++ followers_at vs second) (map-append (found_at vs) x.followers first)
            ∙ append_assoc (followers_at vs x.followers) (followers_at vs first) (followers_at vs second)
            ∙ ap (λ (ps : List (ℕ × Option Version)). ps ++ (followers_at vs first ++ followers_at vs second)) old.followers
            ∙ ap (λ b. map as_found (followers_of Basic ts v) ++ added place n nil b) is_read
            ∙ ap (λ (ps : List (ℕ × Option Version)). map as_found (followers_of Basic ts v) ++ ps) (added_is place n nil v.key v.value at there ∙ map_twice place (installs_behind [] t v))
            ∙ sym (ap (map as_found) (followers-push ts t v) ∙ map-append as_found (followers_of Basic ts v) (map (with_place place) (installs_behind [] t v)));
      }

-- the number of the nil version of a version's key
nil_number :
    (given : List Version) (ts : List Transaction) (vs : List Version) (v : Version) → ((u : Version) → has_version vs u ≡ (has_version given u || is_named ts u))
    → is_named ts v ≡ true → (nil : ℕ) × (slice_get vs nil ≡ Some (nil_of v.key))
nil_number given ts vs v named is =
    let has : has_version vs (nil_of v.key) ≡ true = named (nil_of v.key) ∙ or_right (has_version given (nil_of v.key)) (is_named ts (nil_of v.key)) (nil_named_in v ts is) in
    elim (cases_number version_eq (nil_of v.key) vs) [
      | inl there ↦ (there.0, number_at version_eq version_eq-same (nil_of v.key) vs there.0 there.1)
      | inr none ↦ absurd (false≢true (ap is_some (sym none) ∙ number_there version_eq (nil_of v.key) vs ∙ has))
    ]

map_both : {A B C : Type 0} (g : B → C) (f : A → B) (xs : List A) → map g (map f xs) ≡ map (λ x. g (f x)) xs
map_both g f [] = refl
map_both {A} {B} {C} g f (x ∷ xs) = ap (λ (ys : List C). g (f x) ∷ ys) (map_both g f xs)

one_more :
    (vs us : List Version) (stay : (n : ℕ) (v : Version) → slice_get vs n ≡ Some v → slice_get us n ≡ Some v) (g : Transaction → List Version)
    (ts : List Transaction) (t : Transaction) (nss : List (List ℕ)) (f : Accessed → List ℕ) (accesses : List Accessed) (a : Accessed)
    → nss ≡ map f accesses → map (versions_at vs) nss ≡ map (λ u. map Some (g u)) ts → versions_at us (f a) ≡ map Some (g t)
    → map (versions_at us) (map f (accesses ++ a ∷ [])) ≡ map (λ u. map Some (g u)) (ts ++ t ∷ [])
one_more vs us stay g ts t nss f accesses a is old new =
    ap (map (versions_at us)) (map_push f accesses a ∙ ap (λ (xs : List (List ℕ)). xs ++ f a ∷ []) (sym is))
    ∙ map_push (versions_at us) nss (f a)
    ∙ ap (λ (xs : List (List (Option Version))). xs ++ versions_at us (f a) ∷ []) (lists_stay vs us stay g nss ts old)
    ∙ ap (λ (x : List (Option Version)). map (λ u. map Some (g u)) ts ++ x ∷ []) new
    ∙ sym (map_push (λ u. map Some (g u)) ts t)

pub grown_enough : (n : ℕ) (rows : List Known) → n ≤ length (grown n rows)
grown_enough n rows = omega (arith, length-append rows (replicate (n - length rows) unknown), length-replicate (n - length rows) unknown)

-- The table of one transaction more tells of it.
pub told :
    (given : List Version) (ts : List Transaction) (t : Transaction) (vs us : List Version) (rows : List Known) (accesses : List Accessed) (rs ws : List Access)
    → IsTableBeside given ts (table_by vs rows accesses) → us ≡ with_versions vs (named_by t)
    → AreAccesses us (read_by t) rs → AreAccesses us (map version_of (writes_of t.mops)) ws
    → IsTableBeside given (ts ++ t ∷ []) (table_by us (rows_after (length accesses) rs ws (grown (length us) rows)) (accesses ++ accessed rs ws ∷ []))
told given ts t vs us rows accesses rs ws is grew read wrote =
    let numbered : AreNumbered version_eq us = subst (AreNumbered version_eq) (sym grew) (versions_numbered vs is.distinct (named_by t)) in
    let place : length accesses ≡ length ts = access_count given ts vs rows accesses is in
    let stay = λ (n : ℕ) (v : Version) (h : slice_get vs n ≡ Some v). ap (λ (xs : List Version). slice_get xs n) grew ∙ versions_stay vs (named_by t) n v h in
    let more : length rows ≤ length us = subst (λ k. k ≤ length us) (sym (row_count given ts vs rows accesses is)) (subst (λ (xs : List Version). length vs ≤ length xs) (sym grew) (longer vs (named_by t))) in
    let count : length (rows_after (length accesses) rs ws (grown (length us) rows)) ≡ length us = length-after (length accesses) rs ws (grown (length us) rows) ∙ length-grown (length us) rows more in
    let named : (v : Version) → has_version us v ≡ (has_version given v || is_named (ts ++ t ∷ []) v) =
    λ v. ap (λ (xs : List Version). has_version xs v) grew ∙ has_versions vs (named_by t) v ∙ ap (λ b. b || has_version (named_by t) v) (is.named v)
    ∙ or_moved (has_version given v) (is_named ts v) (has_version (named_by t) v) ∙ ap (λ b. has_version given v || b) (sym (named-push ts t v)) in
    let rows_now = rows_after (length accesses) rs ws (grown (length us) rows) in
    let each : (n : ℕ) (y : Known) (v : Version) → slice_get rows_now n ≡ Some y → slice_get us n ≡ Some v → IsRowOf (ts ++ t ∷ []) us v y =
    λ n y v row at.
    let below : n < length (grown (length us) rows) = subst (λ k. n < k) (sym (length-grown (length us) rows more)) (slice_get_within us n v at) in
    let x = is_at (grown (length us) rows) n below in
    let old : IsRowOf ts us v x.0 =
    subst (λ (xs : List Version). IsRowOf ts xs v x.0) (sym grew)
    (old_row given ts vs (named_by t) rows accesses is (length us) n v x.0 (ap (λ (xs : List Version). slice_get xs n) (sym grew) ∙ at) x.1) in
    let nil : (nil : ℕ) × HaveNil nil n rs × IsNilOrUnread t us numbered rs ws read wrote nil v = elim (cases_Bool (is_named (ts ++ t ∷ []) v)) [
      | inl is_named ↦ (
          let there = nil_number given (ts ++ t ∷ []) us v named is_named in
          (there.0, have_nil t us numbered rs ws read wrote (read_by t) rs read v n there.0 at there.1, inl there.1))
      | inr unnamed ↦ (
          let unread = not_read t v (or_parts (is_named ts v) (has_version (named_by t) v) (sym (named-push ts t v) ∙ unnamed)).1 in
          (n, none_have_nil t us numbered rs ws read wrote rs n n (has_number_version us numbered v n at (read_by t) rs read ∙ read_is t v ∙ unread), inr unread))
    ] in
    let made = row_is (length accesses) n nil.0 (grown (length us) rows) rs ws x.0 nil.1 x.1 in
    let same : row_after (length ts) n nil.0 x.0 rs ws ≡ y = ap (λ p. row_after p n nil.0 x.0 rs ws) (sym place) ∙ same_item _ y (sym made ∙ row) in
    subst (IsRowOf (ts ++ t ∷ []) us v) same (new_row t us numbered rs ws read wrote ts n nil.0 v x.0 at nil.2 old) in
    record {
      distinct = numbered;
      named = named;
      writers = maps_agree (λ (r : Known). r.writer) (writer_of (ts ++ t ∷ [])) rows_now us count (λ n y v row at. (each n y v row at).writer);
      readers = maps_agree (λ (r : Known). r.readers) (readers_of (ts ++ t ∷ [])) rows_now us count (λ n y v row at. (each n y v row at).readers);
      followers =
          map_both (followers_at us) (λ (r : Known). r.followers) rows_now
          ∙ maps_agree (λ (r : Known). followers_at us r.followers) (λ v. map as_found (followers_of Basic (ts ++ t ∷ []) v)) rows_now us count (λ n y v row at. (each n y v row at).followers);
      reads = one_more vs us stay read_by ts t (map (λ (a : Accessed). a.reads) accesses) (λ (a : Accessed). a.reads) accesses (accessed rs ws) refl is.reads (numbers_are us (read_by t) rs read);
      installs =
          one_more vs us stay installed_by ts t (map (λ (a : Accessed). a.installs) accesses) (λ (a : Accessed). a.installs) accesses (accessed rs ws) refl is.installs
          (numbers_are us (installed_by t) (lasts ws) (lasts_are us numbered (writes_of t.mops) ws wrote));
    }
