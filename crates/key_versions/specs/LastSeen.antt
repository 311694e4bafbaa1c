-- What processes saw last of keys, as it is kept: those with one hash are linked. Places in a list
-- count from 1, so that 0 is none.
use Rattle.std.specs.Prelude.{◌≡◌, ◌<◌, ◌≤◌, ℕ, zero, suc, ◌+◌, ◌-◌, ◌*◌, ◌/◌, ◌%◌, ◌^◌, bit_and, bit_xor, min, List, length, get_or, All, Bool, ◌&&◌, ◌==◌, if◌then◌else◌, Option, Some, None}
use Rattle.key_versions.specs.declared.last_seen.Seen.{Seen}

-- what was seen, and for each hash the place of the newest that has it
pub record Linked : Type 0 where
  pub seen : List Seen
  pub newest : List ℕ

abbrev pub linked_by : List Seen → List ℕ → Linked
linked_by seen newest = record { seen = seen; newest = newest }

-- the hash of a process and a key, below n
abbrev pub mixed : ℕ → ℕ
mixed word = bit_xor word (word / 2 ^ 17)

abbrev pub hash_of : (process nil n : ℕ) → ℕ
hash_of process nil n = bit_and (mixed ((nil * 32 % 2 ^ 64 + process) % 2 ^ 64)) (n - 1)

abbrev pub nothing : Seen
nothing = record { process = 0; nil = 0; version = 0; next = 0 }

abbrev pub is_of : (process nil : ℕ) → Seen → Bool
is_of process nil s = (s.process == process) && (s.nil == nil)

-- The index of what a process saw of a key, among those that are linked from a place on. A link
-- leads to a lower place.
abbrev pub index_from : (links place : ℕ) → (process nil : ℕ) → List Seen → Option ℕ
index_from zero place process nil seen = None
index_from (suc links) zero process nil seen = None
index_from (suc links) (suc index) process nil seen =
    if is_of process nil (get_or seen index nothing)
    then Some index
    else index_from links (min (get_or seen index nothing).next index) process nil seen

abbrev pub place_of : Linked → (process nil : ℕ) → ℕ
place_of linked process nil =
    get_or linked.newest (hash_of process nil (length linked.newest)) 0

abbrev pub version_at : List Seen → Option ℕ → Option ℕ
version_at seen None = None
version_at seen (Some index) = Some (get_or seen index nothing).version

-- the index of what a process saw of a key
abbrev pub index_of : Linked → (process nil : ℕ) → Option ℕ
index_of linked process nil =
    let place = place_of linked process nil in
    index_from place place process nil linked.seen

-- the last version of a key that a process saw
abbrev pub last_seen : Linked → (process nil : ℕ) → Option ℕ
last_seen linked process nil = version_at linked.seen (index_of linked process nil)

-- what is at an index is found by its process and its key
abbrev pub IsFound : Linked → (index : ℕ) → Type 0
IsFound linked index =
    let s = get_or linked.seen index nothing in
    index_of linked s.process s.nil ≡ Some index

-- places are none, or where something is, and all that was seen is found
pub record AreLinked (seen : List Seen) (newest : List ℕ) : Type 0 where
  pub some : 0 < length newest
  pub places : All (λ place. place ≤ length seen) newest
  pub found : (index : ℕ) → index < length seen → IsFound (linked_by seen newest) index

-- that of any process and key, once a process saw a version of a key
abbrev pub seen_with : (one key version : ℕ) → (process nil : ℕ) → Option ℕ → Option ℕ
seen_with one key version process nil before =
    if (one == process) && (key == nil) then Some version else before
