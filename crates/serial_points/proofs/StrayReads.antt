-- How many reads are stray, by what is listed, and after one event more.
use Rattle.std.proofs.Common.{◌≡◌, ◌⊎◌, inl, inr, ℕ, ◌+◌, List, [], ◌∷◌, ◌++◌, length, Bool, true, false, not, ◌&&◌, ◌==◌, if◌then◌else◌, Some, None, filter, map, flat_map, All, Contains, IsTrue, refl, sym, ◌∙◌, ap, subst, arith}
use Rattle.std.specs.Prelude.{slice_get}
use Rattle.std.specs.List.{list_any}
use Rattle.std.specs.Option.{is_some}
use Rattle.std.proofs.lemmas.Bool.{and_from, cases_Bool, eqb-true, eqb-false, ne_eqb, false≢true}
use Rattle.std.proofs.lemmas.List.Elements.{All-contains}
use Rattle.std.proofs.lemmas.Option.{same_Some}
use Rattle.hist_types.specs.Atoms.{Value}
use Rattle.hist_types.specs.Journal.{writes_of}
use Rattle.hist_types.specs.Phenomena.{for_each_read, is_stray, stray}
use Rattle.hist_types.specs.Transactions.{Transaction, Version, version_of, is_ok, has_version, external_reads, is_known_to_read, writes}
use Rattle.hist_types.specs.Versions.{nil_of}
use Rattle.hist_types.proofs.Equality.{same_version}
use Rattle.hist_types.proofs.Members.{In, in_from_Contains, Contains_from_in, in_if}
use Rattle.history_laws.proofs.ThinningPaths.{any_passes, some_passes}
use Rattle.history_laws.proofs.VersionMembers.{has_from_in}
use Rattle.key_versions.specs.Histories.{read_by}
use Rattle.key_versions.specs.Kept.{KeptVersions, AreKept}
use Rattle.key_versions.specs.Numbering.{IsAccess, AreAccesses}
use Rattle.key_versions.specs.TxnAccesses.{TxnAccesses}
use Rattle.key_versions.specs.declared.pending.Access.{Access}
use Rattle.dep_edges.proofs.Marks.{place_in}
use Rattle.dep_edges.proofs.Writers.{in_at}
use Rattle.clean_order.proofs.Accesses.{accesses_here, version_at, installs_writes, same_number}
use Rattle.clean_order.proofs.Installed.{installs_number}
use Rattle.serial_points.specs.Clean.{IsClean, has_write}
use Rattle.serial_points.specs.Strays.{is_unwritten, unwritten}
use Rattle.serial_points.specs.Users.{places_at, AreUsers}
use Rattle.serial_points.specs.declared.users.Users.{Users}
use Rattle.serial_points.proofs.Counted.{total, total_same, total_each, each_same, one_if, count_more}
use Rattle.serial_points.proofs.Passed.{writer_listed}

abbrev pub is_written : List Transaction → Version → Bool
is_written ts v = list_any (λ writer. writes writer v) ts

-- the stray reads of one transaction
abbrev pub strays_by : List Transaction → Transaction → List Version
strays_by ts t = flat_map (λ v. one_if (is_stray ts v) v) (read_by t)

abbrev pub strays_in : List Transaction → Transaction → ℕ
strays_in ts t = length (strays_by ts t)

each_read : {A : Type 0} (f : Transaction → Version → List A) (ts : List Transaction) → for_each_read ts f ≡ flat_map (λ (t : Transaction). flat_map (f t) (read_by t)) ts
each_read f [] = refl
each_read f (t ∷ ts) = by (is_ok t) (each_read f ts)
  where
    by :
        (ok : Bool)
        → for_each_read ts f ≡ flat_map (λ (t : Transaction). flat_map (f t) (read_by t)) ts
        → flat_map (λ (t : Transaction). flat_map (f t) (external_reads t)) (if ok then t ∷ filter is_ok ts else filter is_ok ts)
        ≡ flat_map (f t) (if ok then external_reads t else []) ++ flat_map (λ (t : Transaction). flat_map (f t) (read_by t)) ts
    by true rest = ap (λ ys. flat_map (f t) (external_reads t) ++ ys) rest
    by false rest = rest

pub stray_total : (ts : List Transaction) → stray ts ≡ total (strays_in ts) ts
stray_total ts = ap length (each_read (λ reader v. one_if (is_stray ts v) v) ts) ∙ total_each (strays_by ts) ts

-- who reads a version is known to read it
pub known_read : (t : Transaction) (v : Version) → In v (read_by t) → is_known_to_read t v ≡ true
known_read t v i =
    let (ok, among) = in_if v (is_ok t) (external_reads t) i in
    and_from (is_ok t) (has_version (external_reads t) v) ok (has_from_in v (external_reads t) among)

pub reads_nothing : (ts : List Transaction) (t : Transaction) → is_ok t ≡ false → strays_in ts t ≡ 0
reads_nothing ts t not_ok = ap (λ ok. length (flat_map (λ v. one_if (is_stray ts v) v) (if ok then external_reads t else []))) not_ok

-- ---- one transaction more

pub stray_more :
    (ts later : List Transaction) (t : Transaction)
    → total (strays_in later) later ≡ total (strays_in later) ts + strays_in later t
    → ((u : Transaction) (v : Version) → In u ts → is_known_to_read u v ≡ true → is_written later v ≡ is_written ts v)
    → stray later ≡ stray ts + strays_in later t
stray_more ts later t more same =
    stray_total later ∙ more ∙ ap (λ n. n + strays_in later t) (total_same (strays_in later) (strays_in ts) ts each ∙ sym (stray_total ts))
  where
    each : (u : Transaction) → In u ts → strays_in later u ≡ strays_in ts u
    each u i =
        ap length
        (each_same (λ v. one_if (is_stray later v) v) (λ v. one_if (is_stray ts v) v) (read_by u) (λ v j.
        ap (λ b. one_if (is_some v.value && not b) v) (same u v i (known_read u v j))))

-- ---- by numbers

-- a transaction with such a write writes the version
pub writes_itself :
    (ts : List Transaction) (kept : KeptVersions) → AreKept ts kept
    → (k : ℕ) (t : Transaction) (a : TxnAccesses)
    → slice_get ts k ≡ Some t
    → slice_get kept.accesses k ≡ Some a
    → (n : ℕ) (v : Version)
    → slice_get kept.versions n ≡ Some v
    → has_write n a.writes ≡ true
    → writes t v ≡ true
writes_itself ts kept are k t a at there n v number has =
    let (y, i, same) = some_passes (λ (y : Access). y.version == n) a.writes has in
    let (w, j, is) = version_at kept.versions (map version_of (writes_of t.mops)) a.writes y (accesses_here ts kept are k t a at there).writes i in
    let one : w ≡ v = same_Some w v (sym is.1 ∙ ap (slice_get kept.versions) (eqb-true y.version n same) ∙ number) in
    subst (λ u. writes t u ≡ true) one (has_from_in w (map version_of (writes_of t.mops)) j)

some_or_none : (value : Value) → ¬ (value ≡ None) → is_some value ≡ true
some_or_none None other = absurd (other refl)
some_or_none (Some a) other = refl

none_or_more : {X : Type 0} (xs : List X) → (xs ≡ []) ⊎ ((length xs == 0) ≡ false)
none_or_more [] = inl refl
none_or_more (x ∷ xs) = inr (ne_eqb (length (x ∷ xs)) 0 (λ e. absurd (omega (arith, e))))

module _ (ts : List Transaction) (kept : KeptVersions) (users : Users) (are : AreKept ts kept) (used : AreUsers kept.accesses users) where
  unlisted_is_unwritten :
      (n : ℕ) (v : Version)
      → slice_get kept.versions n ≡ Some v
      → places_at users.writers n ≡ []
      → is_written ts v ≡ false
  unlisted_is_unwritten n v number none = elim (cases_Bool (is_written ts v)) [
    | inr unwritten ↦ unwritten
    | inl written ↦ (
        let (w, among, wrote) = some_passes (λ writer. writes writer v) ts written in
        let (k, at) = place_in ts w among in
        absurd (in_from_Contains k [] (subst (λ places. Contains places k) none (writer_listed ts kept users are used n k w v at wrote number))))
  ]

  -- who wrote a version is not failed and installs it: then it is written
  pub nobody_listed :
      (n : ℕ) (v : Version)
      → slice_get kept.versions n ≡ Some v
      → places_at users.writers n ≡ []
      → (w : Transaction)
      → In w ts
      → writes w v ≡ false
  nobody_listed n v number none w among = elim (cases_Bool (writes w v)) [
    | inr other ↦ other
    | inl wrote ↦ absurd (false≢true (sym (unlisted_is_unwritten n v number none) ∙ any_passes (λ writer. writes writer v) w ts among wrote))
  ]

  stray_by_number :
      (own : List Access) (v : Version) (x : Access)
      → IsAccess kept.versions v x
      → (IsTrue (has_write x.version own) → is_written ts v ≡ true)
      → IsClean ts kept.accesses users.writers own x
      → is_stray ts v ≡ is_unwritten users.writers x
  stray_by_number own v x number itself clean = elim (cases_Bool (x.version == x.nil)) [
    | inl same ↦ (
        let is : v ≡ nil_of v.key = same_Some v (nil_of v.key) (sym number.1 ∙ ap (slice_get kept.versions) (eqb-true x.version x.nil same) ∙ number.0) in
        ap (λ (u : Version). is_some u.value && not (is_written ts v)) is
        ∙ sym (ap (λ b. not b && (length (places_at users.writers x.version) == 0)) same))
    | inr differ ↦ (
        let other : ¬ (v.value ≡ None) = λ nil.
        let is : v ≡ nil_of v.key = same_version v (nil_of v.key) refl nil in
        eqb-false x.version x.nil differ (same_number kept.versions x.version x.nil v are.distinct number.1 (number.0 ∙ ap Some (sym is))) in
        ap (λ b. b && not (is_written ts v)) (some_or_none v.value other)
        ∙ written_or_not (eqb-false x.version x.nil differ)
        ∙ sym (ap (λ b. not b && (length (places_at users.writers x.version) == 0)) differ))
  ]
    where
      written_or_not : ¬ (x.version ≡ x.nil) → not (is_written ts v) ≡ (length (places_at users.writers x.version) == 0)
      written_or_not differ = elim (none_or_more (places_at users.writers x.version)) [
        | inl none ↦ ap not (unlisted_is_unwritten x.version v number.1 none) ∙ sym (ap (λ (places : List ℕ). length places == 0) none)
        | inr some ↦ elim clean [
          | inl nil ↦ absurd (differ nil)
          | inr (inr (inr has)) ↦ ap not (itself has) ∙ sym some
          | inr (inr (inl none)) ↦ absurd (false≢true (sym some ∙ ap (λ (places : List ℕ). length places == 0) none))
          | inr (inl (k, (u, b, at, has, unfailed, installs_it))) ↦ (
              let installed = installs_number ts kept k u b x.version v are at has installs_it number.1 in
              let written : is_written ts v ≡ true = any_passes (λ writer. writes writer v) u ts (in_at ts k u at) (installs_writes u v installed) in
              ap not written ∙ sym some)
        ]
      ]

  count_strays :
      (own : List Access) (named : List Version) (reads : List Access)
      → ((n : ℕ) (v : Version) → slice_get kept.versions n ≡ Some v → has_write n own ≡ true → is_written ts v ≡ true)
      → AreAccesses kept.versions named reads
      → ((x : Access) → In x reads → IsClean ts kept.accesses users.writers own x)
      → length (flat_map (λ v. one_if (is_stray ts v) v) named) ≡ unwritten users.writers reads
  count_strays own [] [] itself are_accesses clean = refl
  count_strays own [] (x ∷ reads) itself are_accesses clean = absurd are_accesses
  count_strays own (v ∷ named) [] itself are_accesses clean = absurd are_accesses
  count_strays own (v ∷ named) (x ∷ reads) itself are_accesses clean =
      count_more (is_unwritten users.writers) (is_stray ts v) v (flat_map (λ w. one_if (is_stray ts w) w) named) x reads
      (stray_by_number own v x are_accesses.0 (itself x.version v are_accesses.0.1) (clean x (inl refl)))
      (count_strays own named reads itself are_accesses.1 (λ y i. clean y (inr i)))

  -- the stray reads of a transaction that reads clean
  pub strays_counted :
      (k : ℕ) (t : Transaction) (a : TxnAccesses)
      → slice_get ts k ≡ Some t
      → slice_get kept.accesses k ≡ Some a
      → All (IsClean ts kept.accesses users.writers a.writes) a.reads
      → strays_in ts t ≡ unwritten users.writers a.reads
  strays_counted k t a at there clean =
      count_strays a.writes (read_by t) a.reads
      (λ n v number has. any_passes (λ writer. writes writer v) t ts (in_at ts k t at) (writes_itself ts kept are k t a at there n v number has))
      (accesses_here ts kept are k t a at there).reads (λ x i.
      All-contains (IsClean ts kept.accesses users.writers a.writes) a.reads x clean (Contains_from_in x a.reads i))

  no_reads : (named : List Version) (reads : List Access) → named ≡ [] → AreAccesses kept.versions named reads → reads ≡ []
  no_reads [] [] e are_accesses = refl
  no_reads [] (x ∷ reads) e are_accesses = absurd are_accesses
  no_reads (v ∷ named) reads e are_accesses = elim (none_cons v named e) [ ]
    where
      none_cons : (v : Version) (named : List Version) → v ∷ named ≡ [] → ⊥
      none_cons v named e = let n = ap length e in absurd (omega (arith, n))

  -- one that isn't ok is known to read nothing
  pub reads_none :
      (k : ℕ) (t : Transaction) (a : TxnAccesses)
      → slice_get ts k ≡ Some t
      → slice_get kept.accesses k ≡ Some a
      → is_ok t ≡ false
      → a.reads ≡ []
  reads_none k t a at there not_ok =
      no_reads (read_by t) a.reads (ap (λ ok. if ok then external_reads t else []) not_ok) (accesses_here ts kept are k t a at there).reads
