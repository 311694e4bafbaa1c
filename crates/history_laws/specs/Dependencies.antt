-- Pairs of versions and dependency edges by who reads and who installs a version: the words of the
-- laws about them.
use Rattle.std.specs.Prelude.{◌≡◌, ◌↔◌, List, Contains, IsTrue, ◌⊎◌}
use Rattle.hist_types.specs.Transactions.{Transaction, nodes, is_known_to_read, installs}
use Rattle.hist_types.specs.Edges.{Label, realtime, Edge, edge, ww, wr, rw, process, dependency_labels}
use Rattle.hist_types.specs.Versions.{VersionPair, pair, nil_of, process_pairs, version_pairs}
use Rattle.hist_types.specs.declared.types.KeyOrder.{KeyOrder}

-- the earlier version is nil, and a node installs the later one
abbrev pub IsNilPair : List Transaction → VersionPair → Type 0
IsNilPair ts p =
    (p.earlier ≡ nil_of p.later.key)
    × (t : Transaction)
    × Contains (nodes ts) t
    × IsTrue (installs t p.later)

-- one transaction reads the earlier version and installs the later one, another of the same key
abbrev pub IsUpdatePair : List Transaction → VersionPair → Type 0
IsUpdatePair ts p =
    (p.earlier.key ≡ p.later.key)
    × ¬ (p.earlier ≡ p.later)
    × (t : Transaction)
    × Contains ts t
    × IsTrue (is_known_to_read t p.earlier)
    × IsTrue (installs t p.later)

-- where keys are sequential, a process went from the earlier version to the later one
abbrev pub IsProcessPair : KeyOrder → List Transaction → VersionPair → Type 0
IsProcessPair keys ts p = Contains (process_pairs keys ts) p

abbrev pub IsVersionPair : KeyOrder → List Transaction → VersionPair → Type 0
IsVersionPair keys ts p = IsNilPair ts p ⊎ IsUpdatePair ts p ⊎ IsProcessPair keys ts p

-- the second transaction depends on the first one as the label says (in Adya's words it
-- anti-depends on it by an rw)
abbrev pub Depends : KeyOrder → List Transaction → Transaction → Transaction → Label → Type 0
Depends keys ts t u (ww earlier later) =
    Contains (version_pairs keys ts) (pair earlier later)
    × IsTrue (installs t earlier)
    × IsTrue (installs u later)
Depends keys ts t u (wr version) = IsTrue (installs t version) × IsTrue (is_known_to_read u version)
Depends keys ts t u (rw earlier later) =
    Contains (version_pairs keys ts) (pair earlier later)
    × IsTrue (is_known_to_read t earlier)
    × IsTrue (installs u later)
Depends keys ts t u (process p) = ⊥
Depends keys ts t u (realtime completion invocation) = ⊥

-- the labels from one transaction to another are those by which the second depends on the first
abbrev pub LabelsAreDependencies : KeyOrder → List Transaction → Type 0
LabelsAreDependencies keys ts =
    (t u : Transaction) (label : Label)
    → Contains (dependency_labels (version_pairs keys ts) t u) label ↔ Depends keys ts t u label

-- the edge is of two different nodes, of which one so depends on the other
abbrev pub IsDependency : KeyOrder → List Transaction → Edge → Type 0
IsDependency keys ts e =
    (t : Transaction)
    × (u : Transaction)
    × Contains (nodes ts) t
    × Contains (nodes ts) u
    × ¬ (t.invocation ≡ u.invocation)
    × (e ≡ edge t u e.label)
    × Depends keys ts t u e.label
