-- Versions that have numbers before any transaction is taken: those that the journal numbered when
-- they were written, and the nil versions of their keys. The transactions name all of them, but
-- while some are not taken yet, the table has versions that no taken one names.
use Rattle.std.specs.Prelude.{◌≡◌, ◌+◌, ℕ, List, slice_get, Some, Bool, ◌||◌, IsTrue, ⊤}
use Rattle.std.specs.List.{list_any}
use Rattle.atom_index.specs.Numbers.{AreNumbered}
use Rattle.hist_types.specs.Journal.{Write}
use Rattle.hist_types.specs.Transactions.{Transaction, Version, version_eq, version_of, has_version}
use Rattle.hist_types.specs.Versions.{nil_of}
use Rattle.hist_types.specs.declared.types.KeyOrder.TheVariants.{Basic}
use Rattle.key_versions.specs.Histories.{is_named}
use Rattle.key_versions.specs.Kept.{KeptVersions, HaveAccesses}
use Rattle.key_versions.specs.Tables.{Table, IsTableWith}
use Rattle.key_versions.specs.declared.write_numbers.WriteNumbers.{WriteNumbers}
use Rattle.key_versions.specs.declared.write_numbers.WriteNumbers.TheVariants.{Unknown, Consecutive, Invoked}

-- whether the write names the version: it is what is written, or the nil version of the key
abbrev pub names : Version → Write → Bool
names v w = version_eq v (version_of w) || version_eq v (nil_of w.key)

-- No two of the versions are equal, and each is named by one of the writes.
pub record AreGiven (writes : List Write) (versions : List Version) : Type 0 where
  pub distinct : AreNumbered version_eq versions
  pub named : (v : Version) → IsTrue (has_version versions v) → IsTrue (list_any (names v) writes)

-- the transactions name each of the versions
abbrev pub AreNamed : List Transaction → List Version → Type 0
AreNamed ts versions = (v : Version) → IsTrue (has_version versions v) → IsTrue (is_named ts v)

-- a table of keys that are basic, which has these versions besides those that the transactions name
abbrev pub IsTableBeside : (given : List Version) → List Transaction → Table → Type 0
IsTableBeside given ts table =
    IsTableWith (λ v. has_version given v || is_named ts v) Basic ts table

-- what is kept of transactions, where these versions have numbers besides those that they name
pub record AreKeptBeside (given : List Version) (ts : List Transaction) (kept : KeptVersions) :
    Type 0 where
  pub distinct : AreNumbered version_eq kept.versions
  pub named : (v : Version) → has_version kept.versions v ≡ (has_version given v || is_named ts v)
  pub accesses : HaveAccesses kept.keys kept.versions ts kept.accesses

-- Where a transaction's writes have consecutive numbers, the version that is written after so many
-- others has the number that is as far from the first one. Otherwise nothing is known for sure.
abbrev pub HasNumber : WriteNumbers → List Version → (place : ℕ) → Version → Type 0
HasNumber Unknown versions place v = ⊤
HasNumber (Consecutive first) versions place v = slice_get versions (first + place) ≡ Some v
HasNumber (Invoked writes) versions place v = ⊤

-- the versions of these writes, one after the other, have the numbers that are known of them
abbrev pub HaveNumbers : WriteNumbers → List Version → List Write → Type 0
HaveNumbers numbers versions writes =
    (place : ℕ) (w : Write)
    → slice_get writes place ≡ Some w
    → HasNumber numbers versions place (version_of w)

-- what is known of the numbers of the writes after n
abbrev pub numbers_after : WriteNumbers → (n : ℕ) → WriteNumbers
numbers_after Unknown n = Unknown
numbers_after (Consecutive first) n = Consecutive (first + n)
numbers_after (Invoked writes) n = Unknown
