-- What a table of versions says of a history, by place of transaction and by number of version.
use Rattle.std.specs.Prelude.{◌<◌, ◌≡◌, ℕ, List, [], pos, Option, Some, None, IsSome, unwrap_or, slice_get, length}
use Rattle.hist_types.specs.Atoms.{integer}
use Rattle.hist_types.specs.Transactions.{Transaction, Version, Open}
use Rattle.hist_types.specs.Versions.{nil_of}
use Rattle.key_versions.specs.Tables.{Table}
use Rattle.key_versions.specs.declared.types.Writer.{Writer}
use Rattle.key_versions.specs.declared.types.Follower.{Follower}

abbrev pub IsPlace : List Transaction → ℕ → Type 0
IsPlace ts place = place < length ts

abbrev pub IsNumber : Table → ℕ → Type 0
IsNumber table number = number < length table.versions

-- the transaction at a place
abbrev pub txn_at : List Transaction → ℕ → Transaction
txn_at ts place =
    unwrap_or (slice_get ts place)
    (record { process = 0; invocation = 0; completion = None; status = Open; mops = [] })

-- the version of a number
abbrev pub version_at : Table → ℕ → Version
version_at table number = unwrap_or (slice_get table.versions number) (nil_of (integer (pos 0)))

-- the version isn't nil
abbrev pub IsWritten : Table → ℕ → Type 0
IsWritten table number = IsSome (version_at table number).value

-- no version has two numbers
abbrev pub AreNamedOnce : Table → Type 0
AreNamedOnce table =
    (m n : ℕ)
    → IsNumber table m
    → IsNumber table n
    → version_at table m ≡ version_at table n
    → m ≡ n

-- a transaction that wrote a version, if there is one
abbrev pub IsWriterPlace : List Transaction → Option Writer → Type 0
IsWriterPlace ts None = Unit {0}
IsWriterPlace ts (Some w) = IsPlace ts w.txn

abbrev pub later_in : Table → Follower → ℕ × Version
later_in table f = (f.txn, version_at table f.version)

-- a transaction installs a version after this one: of the same key, and not nil
pub record IsBehind (ts : List Transaction) (table : Table) (v : Version)
    (f : Follower) : Type 0 where
  pub place : IsPlace ts f.txn
  pub number : IsNumber table f.version
  pub key : (version_at table f.version).key ≡ v.key
  pub written : IsSome (version_at table f.version).value
