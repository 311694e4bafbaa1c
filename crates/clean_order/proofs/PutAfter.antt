-- One more transaction that is put after all others.
use Rattle.std.proofs.Common.{◌≡◌, ◌⊎◌, inl, inr, ℕ, ◌+◌, ◌<◌, ◌≤◌, List, length, set, if◌then◌else◌, ◌==◌, All, IsTrue, IsFalse, true, false, Some, None, refl, sym, ◌∙◌, ap, subst, arith}
use Rattle.std.specs.Prelude.{slice_get}
use Rattle.std.proofs.lemmas.Bool.{cases_Bool, false≢true, eqb-true, eqb-false, eq-eqb, ne_eqb}
use Rattle.std.proofs.lemmas.List.{get_or-set_same, get_or-set_other}
use Rattle.std.proofs.lemmas.List.Elements.{All-contains}
use Rattle.std.proofs.lemmas.Option.{same_Some}
use Rattle.hist_types.specs.Transactions.{Transaction, Version, is_failed, is_known_to_read}
use Rattle.hist_types.specs.Versions.{nil_of}
use Rattle.hist_types.proofs.Equality.{same_version}
use Rattle.hist_types.proofs.Members.{Contains_from_in}
use Rattle.key_versions.specs.Kept.{KeptVersions, AreKept}
use Rattle.key_versions.specs.Numbering.{IsAccess}
use Rattle.key_versions.specs.TxnAccesses.{TxnAccesses}
use Rattle.key_versions.specs.declared.pending.Access.{Access}
use Rattle.clean_order.specs.Accesses.{updates}
use Rattle.clean_order.specs.ByVersion.{Follows}
use Rattle.clean_order.specs.Points.{IsNotBefore, IsNotAfter}
use Rattle.clean_order.specs.Replaying.{is_marked, AreStillMarked, IsReadable, AreKeysMarked, AreUpdatedMarked, MarkInstalled, IsPut, IsInstalledBelow, IsReplayingBy, IsReplaying}
use Rattle.clean_order.specs.declared.replaying.Replay.{Replay}
use Rattle.clean_order.proofs.Accesses.{installs_writes, read_access, same_number, write_access}
use Rattle.clean_order.proofs.Installed.{installer_updates, installs_number}

module _ (ts : List Transaction) (kept : KeptVersions) (are : AreKept ts kept) (before after : Replay) (point : ℕ → ℕ) (place : ℕ) (t : Transaction) (a : TxnAccesses)
    (at : slice_get ts place ≡ Some t) (there : slice_get kept.accesses place ≡ Some a)
    (unput : IsFalse (is_marked before.put.items place))
    (within : place < length before.put.items)
    (marks : after.put.items ≡ set before.put.items place true)
    (next : after.next ≡ before.next + 1)
    (unfailed : IsFalse (is_failed t))
    (begun : IsNotBefore before.next t)
    (ended : IsNotAfter before.next t)
    (readable : All (IsReadable before.written before.followed) a.reads)
    (keys : AreKeysMarked after.followed a.writes)
    (updated : AreUpdatedMarked after.followed a.reads a.writes)
    (stay : AreStillMarked before.followed after.followed)
    (written : MarkInstalled before.written after.written a.writes)
    (r : IsReplayingBy ts kept.versions before point) where
  -- the transaction gets the next point
  abbrev later : ℕ → ℕ
  later k = if k == place then before.next else point k

  -- ---- who was put

  abbrev IsNew : ℕ → Transaction → Type 0
  IsNew k u = (k ≡ place) × (t ≡ u) × (later k ≡ before.next)

  abbrev WasPut : ℕ → Transaction → Type 0
  WasPut k u = IsPut ts before k u × ¬ (k ≡ place) × (later k ≡ point k)

  other_mark : (k : ℕ) → ¬ (k ≡ place) → is_marked after.put.items k ≡ is_marked before.put.items k
  other_mark k differ = subst (λ ms. is_marked ms k ≡ is_marked before.put.items k) (sym marks) (get_or-set_other before.put.items place k true false differ)

  cases : (k : ℕ) (u : Transaction) → IsPut ts after k u → IsNew k u ⊎ WasPut k u
  cases k u (found, mark) = elim (cases_Bool (k == place)) [
    | inl same ↦ (
        let is = eqb-true k place same in
        inl (is, same_Some t u (sym at ∙ ap (slice_get ts) (sym is) ∙ found), ap (λ b. if b then before.next else point k) same))
    | inr other ↦ (
        let differ = eqb-false k place other in
        inr ((found, sym (other_mark k differ) ∙ mark), differ, ap (λ b. if b then before.next else point k) other))
  ]

  now_put : IsPut ts after place t
  now_put = (at, subst (λ ms. IsTrue (is_marked ms place)) (sym marks) (get_or-set_same before.put.items place true false within))

  point_here : later place ≡ before.next
  point_here = ap (λ b. if b then before.next else point place) (eq-eqb place place refl)

  still : (k : ℕ) (u : Transaction) → IsPut ts before k u → IsPut ts after k u × (later k ≡ point k)
  still k u (found, mark) =
      let differ : ¬ (k ≡ place) = λ same. false≢true (sym unput ∙ ap (is_marked before.put.items) (sym same) ∙ mark) in
      ((found, other_mark k differ ∙ mark), ap (λ b. if b then before.next else point k) (ne_eqb k place differ))

  still_installed : (m n : ℕ) (v : Version) → m ≤ n → IsInstalledBelow ts before point m v → IsInstalledBelow ts after later n v
  still_installed m n v above (k, u, put, less, sound, installed) =
      let (now, same) = still k u put in
      (k, u, now, omega (arith, less, same, above), sound, installed)

  -- ---- what the transaction reads and follows

  readable_here : (v : Version) → is_known_to_read t v ≡ true → (x : Access) × IsAccess kept.versions v x × IsReadable before.written before.followed x
  readable_here v read =
      let (x, i, is) = read_access ts kept are place t a at there v read in
      (x, is, All-contains (IsReadable before.written before.followed) a.reads x readable (Contains_from_in x a.reads i))

  read_installed : (v : Version) → is_known_to_read t v ≡ true → (v.value ≡ None) ⊎ IsInstalledBelow ts before point before.next v
  read_installed v read =
      let (x, is, (written_or_nil, free)) = readable_here v read in
      elim written_or_nil [
        | inl nil ↦ inl (ap (λ (w : Version). w.value) (same_Some v (nil_of v.key) (sym is.1 ∙ ap (slice_get kept.versions) nil ∙ is.0)))
        | inr mark ↦ inr (r.written x.version v is.1 mark)
      ]

  follows_marked : (number : ℕ) (v : Version) → slice_get kept.versions number ≡ Some v → Follows t v → IsTrue (is_marked after.followed number)
  follows_marked number v numbered (w, installed, key, inl nil) =
      let (x, i, is) = write_access ts kept are place t a at there w (installs_writes t w installed) in
      let of_key : v ≡ nil_of w.key = same_version v (nil_of w.key) key nil in
      subst (λ n. IsTrue (is_marked after.followed n)) (same_number kept.versions x.nil number v are.distinct (is.0 ∙ ap Some (sym of_key)) numbered)
      (All-contains (λ (y : Access). IsTrue (is_marked after.followed y.nil)) a.writes x keys (Contains_from_in x a.writes i))
  follows_marked number v numbered (w, installed, key, inr (read, differ)) =
      let (x, i, is) = read_access ts kept are place t a at there v read in
      subst (λ n. IsTrue (is_marked after.followed n)) (same_number kept.versions x.version number v are.distinct is.1 numbered)
      (All-contains (λ (y : Access). IsTrue (updates a.writes y) → IsTrue (is_marked after.followed y.version)) a.reads x updated (Contains_from_in x a.reads i)
      (installer_updates ts kept place t a x v w are at there (is.0 ∙ ap (λ c. Some (nil_of c)) key) is.1 differ installed))

  -- nobody who was put follows what it reads
  not_followed : (k : ℕ) (u : Transaction) (v : Version) → IsPut ts before k u → Follows u v → is_known_to_read t v ≡ true → ⊥
  not_followed k u v put follows read =
      let (x, is, (written_or_nil, free)) = readable_here v read in
      false≢true (sym free ∙ r.marked k x.version u v put is.1 follows)

  -- ---- what is known now

  below_now : (k : ℕ) (u : Transaction) → IsPut ts after k u → later k < after.next
  below_now k u put = elim (cases k u put) [
    | inl (is, txn, same) ↦ omega (arith, same, next)
    | inr (was, differ, same) ↦ (let less = r.below k u was in omega (arith, same, less, next))
  ]

  begun_now : (k : ℕ) (u : Transaction) → IsPut ts after k u → IsNotBefore (later k) u
  begun_now k u put = elim (cases k u put) [
    | inl (is, txn, same) ↦ subst (λ p. IsNotBefore p u) (sym same) (subst (IsNotBefore before.next) txn begun)
    | inr (was, differ, same) ↦ subst (λ p. IsNotBefore p u) (sym same) (r.begun k u was)
  ]

  ended_now : (k : ℕ) (u : Transaction) → IsPut ts after k u → IsNotAfter (later k) u
  ended_now k u put = elim (cases k u put) [
    | inl (is, txn, same) ↦ subst (λ p. IsNotAfter p u) (sym same) (subst (IsNotAfter before.next) txn ended)
    | inr (was, differ, same) ↦ subst (λ p. IsNotAfter p u) (sym same) (r.ended k u was)
  ]

  reads_now : (k : ℕ) (u : Transaction) (v : Version) → IsPut ts after k u → is_known_to_read u v ≡ true → (v.value ≡ None) ⊎ IsInstalledBelow ts after later (later k) v
  reads_now k u v put read = elim (cases k u put) [
    | inl (is, txn, same) ↦ elim (read_installed v (subst (λ w. is_known_to_read w v ≡ true) (sym txn) read)) [
      | inl nil ↦ inl nil
      | inr installed ↦ inr (still_installed before.next (later k) v (omega (arith, same)) installed)
    ]
    | inr (was, differ, same) ↦ elim (r.reads k u v was read) [
      | inl nil ↦ inl nil
      | inr installed ↦ inr (still_installed (point k) (later k) v (omega (arith, same)) installed)
    ]
  ]

  followed_now :
      (k reader : ℕ) (u w : Transaction) (v : Version)
      → IsPut ts after k u
      → IsPut ts after reader w
      → ¬ (reader ≡ k)
      → Follows u v
      → is_known_to_read w v ≡ true
      → later reader < later k
  followed_now k reader u w v put put_reader two follows read = elim (cases k u put) [
    | inl (is, txn, same) ↦ elim (cases reader w put_reader) [
      | inl (also, one, its) ↦ absurd (two (also ∙ sym is))
      | inr (was, differ, its) ↦ (let less = r.below reader w was in omega (arith, same, its, less))
    ]
    | inr (was, differ, same) ↦ elim (cases reader w put_reader) [
      | inl (also, one, its) ↦ absurd (not_followed k u v was follows (subst (λ s. is_known_to_read s v ≡ true) (sym one) read))
      | inr (earlier, other, its) ↦ (let less = r.followed k reader u w v was earlier two follows read in omega (arith, same, its, less))
    ]
  ]

  written_now : (number : ℕ) (v : Version) → slice_get kept.versions number ≡ Some v → IsTrue (is_marked after.written number) → IsInstalledBelow ts after later after.next v
  written_now number v numbered mark = elim (written number mark) [
    | inl was ↦ still_installed before.next after.next v (omega (arith, next)) (r.written number v numbered was)
    | inr installs_it ↦ (place, t, now_put, omega (arith, point_here, next), unfailed, installs_number ts kept place t a number v are at there installs_it numbered)
  ]

  marked_now : (k number : ℕ) (u : Transaction) (v : Version) → IsPut ts after k u → slice_get kept.versions number ≡ Some v → Follows u v → IsTrue (is_marked after.followed number)
  marked_now k number u v put numbered follows = elim (cases k u put) [
    | inl (is, txn, same) ↦ follows_marked number v numbered (subst (λ s. Follows s v) (sym txn) follows)
    | inr (was, differ, same) ↦ stay number (r.marked k number u v was numbered follows)
  ]

  pub put_after : IsReplaying ts kept.versions after
  put_after = (
    later,
    record {
      below = below_now;
      begun = begun_now;
      ended = ended_now;
      reads = reads_now;
      followed = followed_now;
      written = written_now;
      marked = marked_now;
    },
  )
