-- Points that pass by the lists of users are above what a transaction depends on, and below what depends on it.
use Rattle.std.proofs.Common.{◌≡◌, inl, inr, ℕ, ◌+◌, ◌≤◌, List, [], ◌∷◌, true, if◌then◌else◌, Some, Contains, IsTrue, slice_index, refl, sym, ◌∙◌, ap, subst, arith}
use Rattle.std.specs.Prelude.{slice_get}
use Rattle.std.proofs.lemmas.List.Elements.{All-contains}
use Rattle.std.proofs.lemmas.Option.{same_Some}
use Rattle.hist_types.specs.Transactions.{Transaction, Version, installs, is_known_to_read, writes, nodes}
use Rattle.hist_types.specs.Versions.{nil_of}
use Rattle.hist_types.proofs.Equality.{same_version}
use Rattle.hist_types.proofs.Members.{In, Contains_from_in, in_if}
use Rattle.key_versions.specs.Histories.{readers_of}
use Rattle.key_versions.specs.Kept.{KeptVersions, AreKept}
use Rattle.key_versions.specs.TxnAccesses.{TxnAccesses}
use Rattle.key_versions.specs.declared.pending.Access.{Access}
use Rattle.dep_edges.specs.Tables.{txn_at}
use Rattle.dep_edges.proofs.Lists.{all_in}
use Rattle.dep_edges.proofs.Marks.{place_in}
use Rattle.dep_edges.proofs.Places.{from_some_place}
use Rattle.dep_edges.proofs.Writers.{writer_wrote}
use Rattle.clean_order.specs.Accesses.{updates}
use Rattle.clean_order.specs.AtVersions.{IsLowerIfOther}
use Rattle.clean_order.specs.ByVersion.{Follows, IsBelow, IsBelowSuccessors}
use Rattle.clean_order.proofs.Accesses.{has_accesses, installs_writes, read_access, same_number, write_access}
use Rattle.clean_order.proofs.Dependencies.{node_among}
use Rattle.clean_order.proofs.Installed.{installer_updates}
use Rattle.serial_points.specs.Bounds.{BoundAll, FloorAll}
use Rattle.serial_points.specs.ByPlace.{AreListed, IsAboveWriter, IsAboveReaders}
use Rattle.serial_points.specs.Passing.{AllLower, AllHigher, IsAboveReadersOf, HasNilFollowers, PassesInto, PassesOutOf}
use Rattle.serial_points.specs.Users.{places_at, IsListed, AreUsers}
use Rattle.serial_points.specs.declared.users.Users.{Users}
use Rattle.serial_points.proofs.Unbounded.{reader_lower}

pub reader_at : (ts : List Transaction) (v : Version) (place : ℕ) → In place (readers_of ts v) → (t : Transaction) × (slice_get ts place ≡ Some t) × (is_known_to_read t v ≡ true)
reader_at ts v place i =
    let (j, t, get, among) = from_some_place (λ place t. if is_known_to_read t v then place ∷ [] else []) 0 ts place i in
    let (read, here) = in_if place (is_known_to_read t v) ((0 + j) ∷ []) among in
    let same : j ≡ place = elim here [ inl e ↦ omega (arith, e) | inr none ↦ elim none [ ] ] in
    (t, subst (λ n. slice_get ts n ≡ Some t) same get, read)

module _ (ts : List Transaction) (kept : KeptVersions) (users : Users) (are : AreKept ts kept) (used : AreUsers kept.accesses users) where
  -- ---- users are listed

  pub reader_listed :
      (n k : ℕ) (t : Transaction) (v : Version)
      → slice_get ts k ≡ Some t
      → is_known_to_read t v ≡ true
      → slice_get kept.versions n ≡ Some v
      → IsListed users.readers n k
  reader_listed n k t v at read number =
      let (a, there) = has_accesses ts kept k t are at in
      let (x, i, is) = read_access ts kept are k t a at there v read in
      let listed = All-contains (λ (y : Access). IsListed users.readers y.version k) a.reads x (used k a there).readers (Contains_from_in x a.reads i) in
      subst (λ m. IsListed users.readers m k) (same_number kept.versions x.version n v are.distinct is.1 number) listed

  pub writer_listed :
      (n k : ℕ) (t : Transaction) (v : Version)
      → slice_get ts k ≡ Some t
      → writes t v ≡ true
      → slice_get kept.versions n ≡ Some v
      → IsListed users.writers n k
  writer_listed n k t v at wrote number =
      let (a, there) = has_accesses ts kept k t are at in
      let (x, i, is) = write_access ts kept are k t a at there v wrote in
      let listed = All-contains (λ (y : Access). IsListed users.writers y.version k) a.writes x (used k a there).writers (Contains_from_in x a.writes i) in
      subst (λ m. IsListed users.writers m k) (same_number kept.versions x.version n v are.distinct is.1 number) listed

  key_writer_listed :
      (n k : ℕ) (t : Transaction) (w : Version)
      → slice_get ts k ≡ Some t
      → writes t w ≡ true
      → slice_get kept.versions n ≡ Some (nil_of w.key)
      → IsListed users.key_writers n k
  key_writer_listed n k t w at wrote number =
      let (a, there) = has_accesses ts kept k t are at in
      let (x, i, is) = write_access ts kept are k t a at there w wrote in
      let listed = All-contains (λ (y : Access). IsListed users.key_writers y.nil k) a.writes x (used k a there).key_writers (Contains_from_in x a.writes i) in
      subst (λ m. IsListed users.key_writers m k) (same_number kept.versions x.nil n (nil_of w.key) are.distinct is.0 number) listed

  module _ (k : ℕ) (t : Transaction) (a : TxnAccesses) (at : slice_get ts k ≡ Some t) (there : slice_get kept.accesses k ≡ Some a) where
    -- a read whose key is written has an access whose key is among those of the writes
    updated :
        (v w : Version)
        → is_known_to_read t v ≡ true
        → installs t w ≡ true
        → v.key ≡ w.key
        → ¬ (v ≡ w)
        → (x : Access) × In x a.reads × (slice_get kept.versions x.version ≡ Some v) × (updates a.writes x ≡ true)
    updated v w read installed key differ =
        let (x, i, is) = read_access ts kept are k t a at there v read in
        (x, i, is.1, installer_updates ts kept k t a x v w are at there (is.0 ∙ ap (λ c. Some (nil_of c)) key) is.1 differ installed)

  updater_listed :
      (n k : ℕ) (t : Transaction) (v w : Version)
      → slice_get ts k ≡ Some t
      → is_known_to_read t v ≡ true
      → installs t w ≡ true
      → v.key ≡ w.key
      → ¬ (v ≡ w)
      → slice_get kept.versions n ≡ Some v
      → IsListed users.updaters n k
  updater_listed n k t v w at read installed key differ number =
      let (a, there) = has_accesses ts kept k t are at in
      let (x, i, is, has) = updated k t a at there v w read installed key differ in
      let listed = All-contains (λ (y : Access). IsTrue (updates a.writes y) → IsListed users.updaters y.version k) a.reads x (used k a there).updaters (Contains_from_in x a.reads i) has in
      subst (λ m. IsListed users.updaters m k) (same_number kept.versions x.version n v are.distinct is number) listed

  -- ---- the transaction at a place

  module _ (points : List ℕ) (place : ℕ) (t : Transaction) (a : TxnAccesses) (at : slice_get ts place ≡ Some t) (there : slice_get kept.accesses place ≡ Some a) where
    readers_lower :
        (v : Version) (n : ℕ)
        → BoundAll kept.accesses points users.bounds
        → slice_get kept.versions n ≡ Some v
        → IsAboveReadersOf points users place n
        → IsAboveReaders ts points place v
    readers_lower v n bound number above =
        all_in (λ reader. IsLowerIfOther points reader place) (readers_of ts v) (λ r i.
        let (u, get, read) = reader_at ts v r i in
        let (b, here) = has_accesses ts kept r u are get in
        let (x, j, numbers) = read_access ts kept are r u b get here v read in
        reader_lower kept.accesses points users place r n b x used bound above here (Contains_from_in x b.reads j)
        (same_number kept.versions x.version n v are.distinct numbers.1 number))

    module _ (passes : PassesInto points users place a.reads a.writes) where
      pub above_writers : (v : Version) → IsTrue (is_known_to_read t v) → IsAboveWriter ts points place v
      above_writers v read w is node =
          let wrote = writer_wrote ts v w is in
          let (x, i, number) = read_access ts kept are place t a at there v read in
          let lower = All-contains (λ (y : Access). AllLower points (places_at users.writers y.version) place) a.reads x passes.writers (Contains_from_in x a.reads i) in
          All-contains (λ other. IsLowerIfOther points other place) (places_at users.writers x.version) w.txn lower
          (writer_listed x.version w.txn (txn_at ts w.txn) v wrote.place wrote.wrote number.1)

      module _ (bound : BoundAll kept.accesses points users.bounds) where
        pub above_readers : (v : Version) → Follows t v → IsAboveReaders ts points place v
        above_readers v (w, installed, key, inl nil) =
            let (x, i, number) = write_access ts kept are place t a at there w (installs_writes t w installed) in
            let is : v ≡ nil_of w.key = same_version v (nil_of w.key) key nil in
            readers_lower v x.nil bound (number.0 ∙ ap Some (sym is))
            (All-contains (λ (y : Access). IsAboveReadersOf points users place y.nil) a.writes x passes.nil_readers (Contains_from_in x a.writes i))
        above_readers v (w, installed, key, inr (read, differ)) =
            let (x, i, number, has) = updated place t a at there v w read installed key differ in
            readers_lower v x.version bound number
            (All-contains (λ (y : Access). IsTrue (updates a.writes y) → IsAboveReadersOf points users place y.version) a.reads x passes.readers (Contains_from_in x a.reads i) has)

    module _ (point : ℕ → ℕ) (listed : AreListed ts points point) (floored : FloorAll kept.accesses points users.floors) (passes : PassesOutOf points users place a.reads a.writes) where
      below_at : (u : Transaction) (k : ℕ) → slice_get ts k ≡ Some u → IsLowerIfOther points place k → IsBelow point t u
      below_at u k get lower other =
          let apart : ¬ (place ≡ k) = λ same. other (ap (λ (x : Transaction). x.invocation) (same_Some t u (sym at ∙ ap (slice_get ts) same ∙ get))) in
          let less = lower apart in
          let first = listed place t at in
          let second = listed k u get in
          omega (arith, less, first, second)

      below_readers :
          (u : Transaction) (v : Version)
          → Contains (nodes ts) u
          → IsTrue (installs t v)
          → IsTrue (is_known_to_read u v)
          → IsBelow point t u
      below_readers u v node installed read =
          let (k, get) = place_in ts u (node_among ts u node) in
          let (x, i, number) = write_access ts kept are place t a at there v (installs_writes t v installed) in
          below_at u k get
          (All-contains (λ other. IsLowerIfOther points place other) (places_at users.readers x.version) k
          (All-contains (λ (y : Access). AllHigher points (places_at users.readers y.version) place) a.writes x passes.readers (Contains_from_in x a.writes i))
          (reader_listed x.version k u v get read number.1))

      below_followers :
          (u : Transaction) (v : Version)
          → Contains (nodes ts) u
          → IsTrue (is_known_to_read t v)
          → Follows u v
          → IsBelow point t u
      below_followers u v node read (w, installed, key, inl nil) =
          let (k, get) = place_in ts u (node_among ts u node) in
          let (x, i, number) = read_access ts kept are place t a at there v read in
          let is : v ≡ nil_of v.key = same_version v (nil_of v.key) refl nil in
          let same : x.version ≡ x.nil = same_number kept.versions x.version x.nil v are.distinct number.1 (number.0 ∙ ap Some (sym is)) in
          let (places, has, higher) = All-contains (λ (y : Access). y.version ≡ y.nil → (places : List ℕ) × HasNilFollowers users y.nil (slice_index points place) places × AllHigher points places place) a.reads x passes.key_writers (Contains_from_in x a.reads i) same in
          below_at u k get
          (elim has [
            | inl all ↦
                All-contains (λ other. IsLowerIfOther points place other) places k higher
                (subst (λ ps. Contains ps k) (sym all) (key_writer_listed x.nil k u w get (installs_writes u w installed) (number.0 ∙ ap (λ c. Some (nil_of c)) key)))
            | inr (less, none) ↦ (λ apart.
                let (b, here) = has_accesses ts kept k u are get in
                let (y, j, numbers) = write_access ts kept are k u b get here w (installs_writes u w installed) in
                let one : y.nil ≡ x.nil = same_number kept.versions y.nil x.nil (nil_of w.key) are.distinct numbers.0 (number.0 ∙ ap (λ c. Some (nil_of c)) key) in
                let at_least = All-contains (λ (z : Access). slice_index users.floors z.nil ≤ slice_index points k) b.writes y (floored k b here) (Contains_from_in y b.writes j) in
                let is = ap (slice_index users.floors) one in
                omega (arith, less, at_least, is))
          ])
      below_followers u v node read (w, installed, key, inr (reads, differ)) =
          let (k, get) = place_in ts u (node_among ts u node) in
          let (x, i, number) = read_access ts kept are place t a at there v read in
          below_at u k get
          (All-contains (λ other. IsLowerIfOther points place other) (places_at users.updaters x.version) k
          (All-contains (λ (y : Access). AllHigher points (places_at users.updaters y.version) place) a.reads x passes.updaters (Contains_from_in x a.reads i))
          (updater_listed x.version k u v w get reads installed key differ number.1))

      pub below_successors : IsBelowSuccessors ts point t
      below_successors = record { readers = below_readers; followers = below_followers }
