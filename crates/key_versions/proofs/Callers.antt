-- What a table tells of one version, and of one transaction.
use Rattle.std.proofs.Common.{◌≡◌, ℕ, List, map, Option, Some, option_map, sym, ◌∙◌, ap}
use Rattle.std.specs.Prelude.{slice_get}
use Rattle.std.proofs.lemmas.Option.{slice_get-map}
use Rattle.hist_types.specs.Transactions.{Transaction, Version, installed_by}
use Rattle.hist_types.specs.declared.types.KeyOrder.{KeyOrder}
use Rattle.key_versions.specs.Histories.{read_by, writer_of, readers_of, followers_of}
use Rattle.key_versions.specs.Tables.{Table, IsTableOf, versions_at, followers_at}
use Rattle.key_versions.specs.declared.types.Writer.{Writer}
use Rattle.key_versions.specs.declared.types.Follower.{Follower}
use Rattle.key_versions.proofs.Lists.{agree_at}
use Rattle.key_versions.proofs.Places.{same_item}

module _ (keys : KeyOrder) (ts : List Transaction) (table : Table) (is : IsTableOf keys ts table) where
  module _ (n : ℕ) (v : Version) (at : slice_get table.versions n ≡ Some v) where
    pub writer_told : (writer : Option Writer) → slice_get table.writers n ≡ Some writer → writer ≡ writer_of ts v
    writer_told writer h =
        same_item writer (writer_of ts v)
        (sym h ∙ ap (λ (xs : List (Option Writer)). slice_get xs n) is.writers ∙ slice_get-map (writer_of ts) table.versions n ∙ ap (option_map (writer_of ts)) at)

    pub readers_told : (readers : List ℕ) → slice_get table.readers n ≡ Some readers → readers ≡ readers_of ts v
    readers_told readers h =
        same_item readers (readers_of ts v)
        (sym h ∙ ap (λ (xs : List (List ℕ)). slice_get xs n) is.readers ∙ slice_get-map (readers_of ts) table.versions n ∙ ap (option_map (readers_of ts)) at)

    pub followers_told :
        (followers : List Follower) → slice_get table.followers n ≡ Some followers
        → followers_at table.versions followers ≡ map (λ p. (p.0, Some p.1)) (followers_of keys ts v)
    followers_told followers h = agree_at (followers_at table.versions) (λ u. map (λ p. (p.0, Some p.1)) (followers_of keys ts u)) table.followers table.versions is.followers n followers v h at

  module _ (place : ℕ) (t : Transaction) (at : slice_get ts place ≡ Some t) where
    pub reads_told : (reads : List ℕ) → slice_get table.reads place ≡ Some reads → versions_at table.versions reads ≡ map Some (read_by t)
    reads_told reads h = agree_at (versions_at table.versions) (λ u. map Some (read_by u)) table.reads ts is.reads place reads t h at

    pub installs_told : (installs : List ℕ) → slice_get table.installs place ≡ Some installs → versions_at table.versions installs ≡ map Some (installed_by t)
    installs_told installs h = agree_at (versions_at table.versions) (λ u. map Some (installed_by u)) table.installs ts is.installs place installs t h at
