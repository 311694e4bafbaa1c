-- A table of the versions that a history names. A version is named by its place among the versions.
use Rattle.std.specs.Prelude.{◌≡◌, ℕ, List, Bool, Option, Some, slice_get, map}
use Rattle.atom_index.specs.Numbers.{AreNumbered}
use Rattle.hist_types.specs.Transactions.{Transaction, Version, version_eq, has_version, installed_by}
use Rattle.hist_types.specs.declared.types.KeyOrder.{KeyOrder}
use Rattle.key_versions.specs.Histories.{read_by, is_named, writer_of, readers_of, followers_of}
use Rattle.key_versions.specs.declared.types.Writer.{Writer}
use Rattle.key_versions.specs.declared.types.Follower.{Follower}

pub record Table : Type 0 where
  -- how the versions of each key are ordered
  pub keys : KeyOrder
  -- by number of version
  pub versions : List Version
  pub writers : List (Option Writer)
  pub readers : List (List ℕ)
  pub followers : List (List Follower)
  -- by place of transaction
  pub reads : List (List ℕ)
  pub installs : List (List ℕ)

-- the versions with these numbers
abbrev pub versions_at : List Version → List ℕ → List (Option Version)
versions_at versions numbers = map (slice_get versions) numbers

abbrev pub followers_at : List Version → List Follower → List (ℕ × Option Version)
followers_at versions followers =
    map (λ (f : Follower). (f.txn, slice_get versions f.version)) followers

-- The versions are those of which this is true, no two of them equal. Of each one the table tells
-- the writer, the readers and the followers, and of each transaction what it reads externally, if
-- it is ok, and what it installs.
pub record IsTableWith (is_there : Version → Bool) (keys : KeyOrder) (ts : List Transaction)
    (table : Table) : Type 0 where
  pub distinct : AreNumbered version_eq table.versions
  pub named : (v : Version) → has_version table.versions v ≡ is_there v
  pub writers : table.writers ≡ map (writer_of ts) table.versions
  pub readers : table.readers ≡ map (readers_of ts) table.versions
  pub followers :
      map (followers_at table.versions) table.followers
      ≡ map (λ v. map (λ p. (p.0, Some p.1)) (followers_of keys ts v)) table.versions
  pub reads : map (versions_at table.versions) table.reads ≡ map (λ t. map Some (read_by t)) ts
  pub installs :
      map (versions_at table.versions) table.installs ≡ map (λ t. map Some (installed_by t)) ts

-- the table of a history, which has the versions that the history names
abbrev pub IsTableOf : KeyOrder → List Transaction → Table → Type 0
IsTableOf keys ts table = IsTableWith (is_named ts) keys ts table
