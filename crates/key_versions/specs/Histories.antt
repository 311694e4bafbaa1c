-- What the transactions of a history do with a version of a key. A transaction is named by its
-- place in the history.
--
-- A history names the versions that are known so far: the nil version of each key that a
-- transaction reads or writes, each version that a transaction writes, and each version that an ok
-- transaction reads. What a read of another transaction holds is not named, since it is not known:
-- its completion may hold another value, or there is none.
--
-- A transaction that installs a version follows another version of the key, where that one is nil,
-- or where the transaction reads it. Where keys are sequential, it also follows each version from
-- which a process, its own or another one, went to the version that it installs. So a version may
-- have several followers. Which transactions are nodes is not asked here.
use Rattle.std.specs.Prelude.{ℕ, ◌+◌, List, [], ◌∷◌, ◌++◌, Bool, ◌&&◌, ◌||◌, if◌then◌else◌, Option, Some, slice_get, filter, map, flat_map}
use Rattle.std.specs.List.{list_any}
use Rattle.std.specs.Option.{is_none}
use Rattle.hist_types.specs.Operations.{Mop, read, write}
use Rattle.hist_types.specs.Transactions.{Transaction, Version, is_ok, version_eq, external_reads, installed_by, has_version, is_known_to_read, writes, wrote_intermediate}
use Rattle.hist_types.specs.Versions.{VersionPair, nil_of, pair, is_change, version_in, process_pairs}
use Rattle.hist_types.specs.declared.types.KeyOrder.{KeyOrder}
use Rattle.hist_types.specs.declared.types.KeyOrder.TheVariants.{Basic, Sequential}
use Rattle.op_view.specs.Mops.{key_of}
use Rattle.key_versions.specs.declared.types.Writer.{Writer}

-- ---- one transaction

-- the version of a micro-operation, where it is known: what it writes, or what it reads, if the
-- transaction is ok
abbrev pub known_in : (ok : Bool) → Mop → List Version
known_in ok (read key value) = if ok then record { key = key; value = value } ∷ [] else []
known_in ok (write key value) = record { key = key; value = Some value } ∷ []

-- the nil version of the key of each micro-operation, and after it the version that is known
abbrev pub named_in : (ok : Bool) → List Mop → List Version
named_in ok mops = flat_map (λ m. nil_of (key_of m) ∷ known_in ok m) mops

-- the versions that it names
abbrev pub named_by : Transaction → List Version
named_by t = named_in (is_ok t) t.mops

-- what an ok transaction reads and writes, where keys are sequential
abbrev pub seen_in : KeyOrder → Transaction → List Version
seen_in Basic t = []
seen_in Sequential t = if is_ok t then map version_in t.mops else []

-- what it reads externally; of one that is not ok nobody knows
abbrev pub read_by : Transaction → List Version
read_by t = if is_ok t then external_reads t else []

abbrev pub same_pair : VersionPair → VersionPair → Bool
same_pair p q = version_eq p.earlier q.earlier && version_eq p.later q.later

abbrev pub has_pair : List VersionPair → VersionPair → Bool
has_pair ps p = list_any (same_pair p) ps

-- whether a version that it installs follows this one, where processes took these steps
abbrev pub is_followed : (steps : List VersionPair) → Transaction → Version → Version → Bool
is_followed steps t v w =
    (has_pair steps (pair v w) || (is_none v.value || is_known_to_read t v))
    && is_change (pair v w)

abbrev pub installs_behind : (steps : List VersionPair) → Transaction → Version → List Version
installs_behind steps t v = filter (is_followed steps t v) (installed_by t)

-- ---- all transactions

-- whether one of the transactions names the version
abbrev pub is_named : List Transaction → Version → Bool
is_named ts v = list_any (λ (t : Transaction). has_version (named_by t) v) ts

-- what each transaction gives with its place, of which the first is given
abbrev pub from_place : {A : Type 0} → (ℕ → Transaction → List A) → ℕ → List Transaction → List A
from_place f place [] = []
from_place f place (t ∷ ts) = f place t ++ from_place f (place + 1) ts

abbrev pub writers_of : List Transaction → Version → List Writer
writers_of ts v =
    from_place
    (λ place t.
    if writes t v then record { txn = place; over = wrote_intermediate t v } ∷ [] else []) 0 ts

-- the first transaction that writes it; where the journal's rules are kept, there is no other
abbrev pub writer_of : List Transaction → Version → Option Writer
writer_of ts v = slice_get (writers_of ts v) 0

abbrev pub readers_of : List Transaction → Version → List ℕ
readers_of ts v = from_place (λ place t. if is_known_to_read t v then place ∷ [] else []) 0 ts

-- each transaction that installs a version after it, with that version
abbrev pub followers_of : KeyOrder → List Transaction → Version → List (ℕ × Version)
followers_of keys ts v =
    from_place (λ place t. map (λ w. (place, w)) (installs_behind (process_pairs keys ts) t v)) 0 ts
