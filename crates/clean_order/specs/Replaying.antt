-- A replay of a history with basic keys: its transactions are put one after the other, and each
-- that is put has a point above the points of those that were put before.
use Rattle.std.specs.Prelude.{◌≡◌, ◌⊎◌, ◌<◌, ℕ, List, Bool, None, Some, false, slice_get, slice_index_or, All, IsTrue, IsFalse}
use Rattle.hist_types.specs.Transactions.{Transaction, Version, installs, is_failed, is_known_to_read}
use Rattle.key_versions.specs.declared.pending.Access.{Access}
use Rattle.clean_order.specs.Accesses.{InstallsNumber, updates}
use Rattle.clean_order.specs.ByVersion.{Follows}
use Rattle.clean_order.specs.Points.{IsNotBefore, IsNotAfter}
use Rattle.clean_order.specs.declared.replaying.Replay.{Replay}

-- ---- versions that are marked

abbrev pub is_marked : List Bool → (number : ℕ) → Bool
is_marked marks number = slice_index_or marks number false

abbrev pub AreUnmarked : List Bool → Type 0
AreUnmarked marks = (number : ℕ) → IsFalse (is_marked marks number)

-- what was marked still is
abbrev pub AreStillMarked : (before after : List Bool) → Type 0
AreStillMarked before after =
    (number : ℕ) → IsTrue (is_marked before number) → IsTrue (is_marked after number)

-- what is read is nil, or marked as written, and nobody is marked to follow it
abbrev pub IsReadable : (written followed : List Bool) → Access → Type 0
IsReadable written followed read =
    ((read.version ≡ read.nil) ⊎ IsTrue (is_marked written read.version))
    × IsFalse (is_marked followed read.version)

-- nil of each key that is written is marked
abbrev pub AreKeysMarked : List Bool → (writes : List Access) → Type 0
AreKeysMarked marks writes = All (λ (a : Access). IsTrue (is_marked marks a.nil)) writes

-- each version that is read and updated is marked
abbrev pub AreUpdatedMarked : List Bool → (reads writes : List Access) → Type 0
AreUpdatedMarked marks reads writes =
    All
    (λ (a : Access). IsTrue (updates writes a) → IsTrue (is_marked marks a.version))
    reads

-- nothing else is marked anew than what the writes install
abbrev pub MarkInstalled : (before after : List Bool) → (writes : List Access) → Type 0
MarkInstalled before after writes =
    (number : ℕ)
    → IsTrue (is_marked after number)
    → IsTrue (is_marked before number) ⊎ InstallsNumber writes number

-- ---- those that were put

-- the transaction has this place, and was put
abbrev pub IsPut : List Transaction → Replay → (place : ℕ) → Transaction → Type 0
IsPut ts replay place t = (slice_get ts place ≡ Some t) × IsTrue (is_marked replay.put.items place)

-- one that was put below this point installs the version, and didn't fail
abbrev pub IsInstalledBelow :
    List Transaction → Replay → (point : ℕ → ℕ) → (bound : ℕ) → Version → Type 0
IsInstalledBelow ts replay point bound v =
    (place : ℕ)
    × (t : Transaction)
    × IsPut ts replay place t
    × (point place < bound)
    × IsFalse (is_failed t)
    × IsTrue (installs t v)

-- Each one that was put has a point between its invocation and its completion, and below the next
-- one. What it reads is nil, or was installed before, and the others that read what it follows were
-- put before it. A version that is marked as written, by its number, was installed, and one that is
-- followed is marked.
pub record IsReplayingBy
    (ts : List Transaction) (versions : List Version) (replay : Replay) (point : ℕ → ℕ) :
    Type 0 where
  pub below : (place : ℕ) (t : Transaction) → IsPut ts replay place t → point place < replay.next
  pub begun :
      (place : ℕ) (t : Transaction) → IsPut ts replay place t → IsNotBefore (point place) t
  pub ended :
      (place : ℕ) (t : Transaction) → IsPut ts replay place t → IsNotAfter (point place) t
  pub reads :
      (place : ℕ) (t : Transaction) (v : Version)
      → IsPut ts replay place t
      → IsTrue (is_known_to_read t v)
      → (v.value ≡ None) ⊎ IsInstalledBelow ts replay point (point place) v
  pub followed :
      (place reader : ℕ) (t u : Transaction) (v : Version)
      → IsPut ts replay place t
      → IsPut ts replay reader u
      → ¬ (reader ≡ place)
      → Follows t v
      → IsTrue (is_known_to_read u v)
      → point reader < point place
  pub written :
      (number : ℕ) (v : Version)
      → slice_get versions number ≡ Some v
      → IsTrue (is_marked replay.written number)
      → IsInstalledBelow ts replay point replay.next v
  pub marked :
      (place number : ℕ) (t : Transaction) (v : Version)
      → IsPut ts replay place t
      → slice_get versions number ≡ Some v
      → Follows t v
      → IsTrue (is_marked replay.followed number)

-- there are such points, by place of transaction
abbrev pub IsReplaying : List Transaction → List Version → Replay → Type 0
IsReplaying ts versions replay = (point : ℕ → ℕ) × IsReplayingBy ts versions replay point
