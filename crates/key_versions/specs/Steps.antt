-- The steps that processes take from one version of a key to another, over numbers alone: versions
-- go by number, keys by their nil versions. A step is written with its later version first.
use Rattle.std.specs.Prelude.{◌≡◌, ◌<◌, ◌≤◌, ℕ, suc, ◌+◌, List, [], ◌∷◌, ◌++◌, Bool, true, not, ◌&&◌, ◌==◌, if◌then◌else◌, Option, Some, None, All, fold, filter, flat_map, length, get_or}
use Rattle.std.specs.List.{list_any}
use Rattle.std.specs.Option.{option_or}
use Rattle.key_versions.specs.declared.types.Follower.{Follower}
use Rattle.key_versions.specs.declared.pending.Access.{Access}
use Rattle.key_versions.specs.Rows.{Accessed, Known, has_nil, lasts}

-- ---- what processes saw

-- the last version of a key among these
abbrev pub last_number : (nil : ℕ) → List Access → Option ℕ
last_number nil [] = None
last_number nil (a ∷ accesses) =
    option_or (last_number nil accesses) (if a.nil == nil then Some a.version else None)

-- that of any process, once one process saw these
abbrev pub seen_after : (one : ℕ) → List Access → (process nil : ℕ) → Option ℕ → Option ℕ
seen_after one accesses process nil before =
    if one == process then option_or (last_number nil accesses) before else before

-- that of any process, once one process saw these, as far as they are of the same keys as others
abbrev pub seen_so_far : (one : ℕ) → (met seen : List Access) → (process nil : ℕ) → Option ℕ
    → Option ℕ
seen_so_far one met seen process nil before =
    if (one == process) && has_nil nil met then last_number nil seen else before

-- ---- steps

-- the accesses with one more, unless there is one of its key
abbrev pub with_first : List Access → Access → List Access
with_first met access = if has_nil access.nil met then met else met ++ access ∷ []

-- the first of each key among the reads and then the installs of a transaction
abbrev pub firsts : (reads writes : List Access) → List Access
firsts reads writes = fold with_first (fold with_first [] reads) (lasts writes)

-- these are of the same keys
abbrev pub AreOfSameKeys : List Access → List Access → Type 0
AreOfSameKeys accesses others = (nil : ℕ) → has_nil nil accesses ≡ has_nil nil others

-- from a version, if there is one, to another that isn't nil
abbrev pub step_from : Option ℕ → Access → List (ℕ × ℕ)
step_from None access = []
step_from (Some earlier) access =
    if not (access.version == earlier) && not (access.version == access.nil)
    then (access.version, earlier) ∷ []
    else []

-- the steps of a process to these versions
abbrev pub steps_to : (seen : ℕ → Option ℕ) → List Access → List (ℕ × ℕ)
steps_to seen met = flat_map (λ (a : Access). step_from (seen a.nil) a) met

-- each of these is of the same key as one of the others
abbrev pub AreOfKeys : List Access → List Access → Type 0
AreOfKeys accesses others = (nil : ℕ) → has_nil nil accesses ≡ true → has_nil nil others ≡ true

-- what was taken and seen last before a process went on to these versions, and what is now
pub record AreTaken (process : ℕ) (met seen : List Access) (before : List (ℕ × ℕ))
    (last_before : ℕ → ℕ → Option ℕ) (taken : List (ℕ × ℕ)) (last : ℕ → ℕ → Option ℕ) : Type 0 where
  pub steps : taken ≡ before ++ steps_to (last_before process) met
  pub versions :
      (one nil : ℕ) → last one nil ≡ seen_so_far process met seen one nil (last_before one nil)

-- ---- followers by steps, which are given by the number of their later version

-- whether one of them follows the version with this number
abbrev pub has_earlier : ℕ → List (ℕ × Follower) → Bool
has_earlier number followers = list_any (λ (p : ℕ × Follower). p.0 == number) followers

-- a follower more behind the version with this number, unless its transaction is known to follow it
abbrev pub behind_once : Follower → (known : List (ℕ × Follower)) → ℕ → List (ℕ × Follower)
behind_once follower known number =
    if has_earlier number known then known else known ++ (number, follower) ∷ []

-- behind each of these versions
abbrev pub behind_all : Follower → (known : List (ℕ × Follower)) → (earlier : List ℕ)
    → List (ℕ × Follower)
behind_all follower known earlier = fold (behind_once follower) known earlier

-- the followers of a transaction: those that are known, and what it installs behind the earlier
-- versions of the steps to it
abbrev pub behind_steps : (steps : List (List ℕ)) → (place : ℕ) → (known : List (ℕ × Follower))
    → (installs : List ℕ) → List (ℕ × Follower)
behind_steps steps place known installs =
    fold
    (λ all version. behind_all (record { txn = place; version = version }) all
    (get_or steps version [])) known installs

-- the followers of a transaction among these
abbrev pub of_place : ℕ → List (ℕ × Follower) → List (ℕ × Follower)
of_place place followers = filter (λ (p : ℕ × Follower). p.1.txn == place) followers

-- how many followers, from the first on, are of the transaction
abbrev pub run_of : (place : ℕ) → List (ℕ × Follower) → ℕ
run_of place [] = 0
run_of place (p ∷ followers) = if p.1.txn == place then suc (run_of place followers) else 0

-- the followers of each transaction from a place on
abbrev pub followers_from : (steps : List (List ℕ)) → List (ℕ × Follower) → (place : ℕ)
    → List Accessed → List (ℕ × Follower)
followers_from steps followers place [] = []
followers_from steps followers place (a ∷ accesses) =
    behind_steps steps place (of_place place followers) a.installs
    ++ followers_from steps followers (place + 1) accesses

abbrev pub AreBelow : (versions : ℕ) → List ℕ → Type 0
AreBelow versions numbers = All (λ number. number < versions) numbers

-- a version has this mark exactly if one of these follows it, and no mark is higher
pub record AreMarked (mark : ℕ) (followers : List (ℕ × Follower)) (marks : List ℕ) : Type 0 where
  pub marked :
      (number : ℕ)
      → number < length marks
      → (get_or marks number 0 == mark) ≡ has_earlier number followers
  pub most : AreBelow (mark + 1) marks

-- the last of the followers are a transaction's own, and the versions that these follow are marked
pub record AreFollowers (mark : ℕ) (before own followers : List (ℕ × Follower))
    (marks : List ℕ) : Type 0 where
  pub all : followers ≡ before ++ own
  pub marked : AreMarked mark own marks

-- ---- rows

-- whether a step leads from the version with the number to the other one
abbrev pub is_step : (steps : List (List ℕ)) → (number version : ℕ) → Bool
is_step steps number version =
    list_any (λ earlier. earlier == number) (get_or steps version [])

-- these, or the one where there are none
abbrev pub or_one : List Follower → Follower → List Follower
or_one [] follower = follower ∷ []
or_one (first ∷ others) follower = first ∷ others

-- the followers of a version in one place: those that are known, or else one by a step
abbrev pub followed_at : (steps : List (List ℕ)) → (number place : ℕ) → (known : List Follower)
    → (installs : List ℕ) → List Follower
followed_at steps number place known installs =
    fold
    (λ followers version. if is_step steps number version
    then or_one followers (record { txn = place; version = version })
    else followers) known installs

-- one place after the other
abbrev pub followers_by : (steps : List (List ℕ)) → (number : ℕ) → List Follower → (place : ℕ)
    → List Accessed → List Follower
followers_by steps number followers place [] = []
followers_by steps number followers place (a ∷ accesses) =
    followed_at steps number place (filter (λ (f : Follower). f.txn == place) followers) a.installs
    ++ followers_by steps number followers (place + 1) accesses

-- the rows of the versions from a number on
abbrev pub stepped_rows : (steps : List (List ℕ)) → List Accessed → (number : ℕ) → List Known
    → List Known
stepped_rows steps accesses number [] = []
stepped_rows steps accesses number (row ∷ rows) =
    record {
      writer = row.writer;
      readers = row.readers;
      followers = followers_by steps number row.followers 0 accesses;
    }
    ∷ stepped_rows steps accesses (number + 1) rows

-- ---- what is in range

-- the transactions that follow are at this place or before it
abbrev pub FollowersAreUpTo : (place : ℕ) → Known → Type 0
FollowersAreUpTo place row = All (λ (f : Follower). f.txn ≤ place) row.followers

abbrev pub InstallsAreBelow : (versions : ℕ) → Accessed → Type 0
InstallsAreBelow versions a = All (λ version. version < versions) a.installs
