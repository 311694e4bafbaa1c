-- Two transactions that depend on each other at the level plain, and the versions by way of which
-- they do.
use Rattle.std.specs.Prelude.{◌≡◌, ◌⊎◌, ◌||◌, IsTrue, ℕ, List, [], map, slice_index, slice_index_or, Contains, Option, ⊤}
use Rattle.hist_types.specs.Edges.{Edge}
use Rattle.hist_types.specs.Transactions.{Version, installed_by}
use Rattle.hist_types.specs.declared.types.Phenomenon.{Phenomenon}
use Rattle.key_versions.specs.Histories.{readers_of, followers_of}
use Rattle.key_versions.specs.declared.types.Follower.{Follower}
use Rattle.dep_edges.specs.Histories.{History}
use Rattle.dep_edges.specs.Tables.{IsPlace, IsNumber, txn_at, version_at}
use Rattle.edge_graph.specs.Kinds.{has_ww, has_wr, has_rw}
use Rattle.edge_graph.specs.declared.types.Dependencies.{Dependencies}
use Rattle.edge_graph.specs.declared.types.Dependencies.TheVariants as dependencies
use Rattle.cycle_find.specs.Dependencies.{needed, direct_back}
use Rattle.cycle_find.specs.Found.{NeedsMoreThan, ShowsByFewest}
use Rattle.cycle_find.specs.Single.{AreMutual, AreTwoOr}
use Rattle.cycle_find.specs.declared.two_dependencies.Marks.{Marks}
use Rattle.cycle_find.specs.declared.two_dependencies.Mutual.{Mutual}
use Rattle.cycle_find.specs.declared.two_dependencies.Mutual.TheVariants.{Found, Nowhere, Unknown}
use Rattle.cycle_find.specs.declared.two_dependencies.TwoDependencies.{TwoDependencies}

-- ---- what a search promises

-- a walk that shows the phenomenon with two edges, or there is none with fewer than three
abbrev pub IsMutual : Phenomenon → List Edge → Mutual → Type 0
IsMutual phenomenon es (Found walk) = ShowsByFewest phenomenon es walk
IsMutual phenomenon es Nowhere = NeedsMoreThan 2 phenomenon es
IsMutual phenomenon es Unknown = ⊤

abbrev pub IsTwoOr : TwoDependencies → Type 0 → Option (List Edge) → Type 0
IsTwoOr search = AreTwoOr search.phenomenon search.deps.now

-- an edge that the phenomenon needs leads from the one transaction to the other, and one of these
-- back
abbrev pub IsPair : TwoDependencies → (back : Dependencies) → (from to : ℕ) → Type 0
IsPair search back = AreMutual search.deps.now (needed search.phenomenon) back

abbrev pub NoPair : TwoDependencies → (back : Dependencies) → Type 0
NoPair search back = (from to : ℕ) → ¬ IsPair search back from to

-- ---- edges by way of a version

abbrev pub IsReader : History → (version place : ℕ) → Type 0
IsReader h version place = Contains (readers_of h.txns (version_at h.table version)) place

abbrev pub IsFollower : History → (version place : ℕ) → Type 0
IsFollower h version place =
    (later : Version)
    × Contains (followers_of h.table.keys h.txns (version_at h.table version)) (place, later)

abbrev pub IsInstaller : History → (version place : ℕ) → Type 0
IsInstaller h version place =
    IsPlace h.txns place × Contains (installed_by (txn_at h.txns place)) (version_at h.table version)

-- such edges leave the transaction
abbrev pub IsStart : History → Dependencies → (version place : ℕ) → Type 0
IsStart h dependencies.None = IsInstaller h
IsStart h dependencies.Ww = IsInstaller h
IsStart h dependencies.Wr = IsInstaller h
IsStart h dependencies.Rw = IsReader h
IsStart h dependencies.WrAndWw = IsInstaller h
IsStart h dependencies.All = IsInstaller h

-- they lead to it
abbrev pub IsEnd : History → Dependencies → (version place : ℕ) → Type 0
IsEnd h kind version place =
    (IsTrue (has_wr kind) × IsReader h version place)
    ⊎ (IsTrue (has_ww kind || has_rw kind) × IsFollower h version place)

abbrev pub IsSource : TwoDependencies → (version place : ℕ) → Type 0
IsSource search = IsStart search.deps.now (needed search.phenomenon)

-- they lead from the one transaction to another one
pub record IsWay (h : History) (kind : Dependencies) (from version to : ℕ) : Type 0 where
  pub number : IsNumber h.table version
  pub start : IsStart h kind version from
  pub end : IsEnd h kind version to
  pub other : ¬ (from ≡ to)

abbrev place_of : Follower → ℕ
place_of f = f.txn

abbrev pub places_of : List Follower → List ℕ
places_of followers = map place_of followers

-- ---- marks

abbrev pub IsIn : Marks → (number : ℕ) → Type 0
IsIn marks number = slice_index marks.marks.items number ≡ marks.mark

abbrev pub KeepsMarks : (before after : Marks) → Type 0
KeepsMarks before after = (number : ℕ) → IsIn before number → IsIn after number

-- ---- a needed edge by way of a version, and a ww or wr edge back

abbrev pub NoneBackBy : TwoDependencies → Marks → (version to : ℕ) → Type 0
NoneBackBy search marks version to =
    (from : ℕ)
    → IsIn marks from
    → IsEnd search.deps.now (direct_back search.phenomenon) version from
    → ¬ IsPair search (direct_back search.phenomenon) from to

abbrev pub NoneBackFrom : TwoDependencies → Marks → (to : ℕ) → Type 0
NoneBackFrom search marks to =
    (version from : ℕ)
    → IsIn marks from
    → IsWay search.deps.now (direct_back search.phenomenon) to version from
    → ¬ IsPair search (direct_back search.phenomenon) from to

-- from one that needed edges leave by way of the version
abbrev pub NoneBackWay : TwoDependencies → (version to : ℕ) → Type 0
NoneBackWay search version to =
    (other from : ℕ)
    → IsSource search version from
    → IsWay search.deps.now (direct_back search.phenomenon) to other from
    → ¬ IsPair search (direct_back search.phenomenon) from to

abbrev pub NoneBy : TwoDependencies → (version : ℕ) → Type 0
NoneBy search version =
    (other from to : ℕ)
    → IsWay search.deps.now (needed search.phenomenon) from version to
    → IsWay search.deps.now (direct_back search.phenomenon) to other from
    → ¬ IsPair search (direct_back search.phenomenon) from to

-- ---- two rw edges by way of versions

abbrev pub NoneByBoth : TwoDependencies → (version from other : ℕ) → Type 0
NoneByBoth search version from other =
    (to : ℕ)
    → IsWay search.deps.now dependencies.Rw from version to
    → IsWay search.deps.now dependencies.Rw to other from
    → ¬ IsPair search dependencies.Rw from to

abbrev pub NoneByMarked : TwoDependencies → Marks → (version from other : ℕ) → Type 0
NoneByMarked search read version from other =
    IsNumber search.deps.now.table other → IsIn read other → NoneByBoth search version from other

abbrev pub NoneByTwoFrom : TwoDependencies → (version from : ℕ) → Type 0
NoneByTwoFrom search version from = (other : ℕ) → NoneByBoth search version from other

abbrev pub NoneByTwo : TwoDependencies → (version : ℕ) → Type 0
NoneByTwo search version = (from : ℕ) → NoneByTwoFrom search version from

-- for each transaction, the versions that it follows
abbrev pub AreFollowed : TwoDependencies → List (List ℕ) → Type 0
AreFollowed search followed =
    (version place : ℕ)
    → IsNumber search.deps.now.table version
    → IsFollower search.deps.now version place
    → Contains (slice_index_or followed place []) version

-- the version's followers, with the version
abbrev pub HasFollowers : TwoDependencies → (version : ℕ) → List (ℕ × ℕ) → Type 0
HasFollowers search version pairs =
    (place : ℕ) → IsFollower search.deps.now version place → Contains pairs (place, version)

-- what the transaction reads is marked
abbrev pub IsReadMarked : TwoDependencies → (place : ℕ) → Marks → Type 0
IsReadMarked search place read =
    (version : ℕ)
    → IsNumber search.deps.now.table version
    → IsReader search.deps.now version place
    → IsIn read version

-- so is what a follower of the version reads
abbrev pub AreReadMarked : TwoDependencies → (version : ℕ) → Marks → Type 0
AreReadMarked search version read =
    (place : ℕ) → IsFollower search.deps.now version place → IsReadMarked search place read
