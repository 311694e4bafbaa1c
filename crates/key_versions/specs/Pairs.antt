-- The version pairs of a history, by the followers of its versions.
--
-- Where keys are basic, a node installs the later version of each pair. Where they are sequential,
-- a process may also have gone to a version that no node installs: one that its transaction wrote
-- over, or that nobody wrote.
use Rattle.std.specs.Prelude.{◌≡◌, ℕ, List, Some, slice_get, Contains, IsTrue}
use Rattle.hist_types.specs.Transactions.{Transaction, is_node, nodes, installs}
use Rattle.hist_types.specs.Versions.{VersionPair, version_pairs}
use Rattle.hist_types.specs.declared.types.KeyOrder.{KeyOrder}
use Rattle.key_versions.specs.Histories.{followers_of}
use Rattle.key_versions.specs.Tables.{Table}
use Rattle.key_versions.specs.declared.types.Follower.{Follower}

-- the pair is one of the history, and a node installs the later version
abbrev pub IsInstalledPair : KeyOrder → List Transaction → VersionPair → Type 0
IsInstalledPair keys ts p =
    Contains (version_pairs keys ts) p
    × (t : Transaction)
    × Contains (nodes ts) t
    × IsTrue (installs t p.later)

-- the transaction at the place is a node
abbrev pub IsNodeAt : List Transaction → ℕ → Type 0
IsNodeAt ts place = (t : Transaction) × (slice_get ts place ≡ Some t) × IsTrue (is_node ts t)

-- one of the earlier version's followers is a node that installs the later version
abbrev pub IsFollowedByNode : KeyOrder → List Transaction → VersionPair → Type 0
IsFollowedByNode keys ts p =
    (place : ℕ) × IsNodeAt ts place × Contains (followers_of keys ts p.earlier) (place, p.later)

-- so says the table: the earlier version has a number, and one of the followers with that number
-- is a node that installs the later version
abbrev pub IsPairByTable : List Transaction → Table → VersionPair → Type 0
IsPairByTable ts table p =
    (number : ℕ)
    × (followers : List Follower)
    × (f : Follower)
    × (slice_get table.versions number ≡ Some p.earlier)
    × (slice_get table.followers number ≡ Some followers)
    × Contains followers f
    × IsNodeAt ts f.txn
    × (slice_get table.versions f.version ≡ Some p.later)
