-- The table that numbered versions and rows make.
use Rattle.std.specs.Prelude.{◌≡◌, List, map, length, ℕ, Option}
use Rattle.hist_types.specs.Atoms.{Atom, atom_eq}
use Rattle.hist_types.specs.Transactions.{Version}
use Rattle.hist_types.specs.declared.types.KeyOrder.{KeyOrder}
use Rattle.hist_types.specs.declared.types.KeyOrder.TheVariants.{Basic}
use Rattle.atom_index.specs.Numbers.{AreNumbered}
use Rattle.key_versions.specs.Numbering.{AreInRange}
use Rattle.key_versions.specs.Rows.{Known, Accessed}
use Rattle.key_versions.specs.Tables.{Table}
use Rattle.key_versions.specs.Pending.{writer_in}
use Rattle.key_versions.specs.declared.pending.Written.{Written}
use Rattle.key_versions.specs.declared.types.Follower.{Follower}

abbrev pub table_by : List Version → List Known → List Accessed → Table
table_by versions rows accesses =
    record {
      keys = Basic;
      versions = versions;
      writers = map (λ (r : Known). r.writer) rows;
      readers = map (λ (r : Known). r.readers) rows;
      followers = map (λ (r : Known). r.followers) rows;
      reads = map (λ (a : Accessed). a.reads) accesses;
      installs = map (λ (a : Accessed). a.installs) accesses;
    }

-- the table, of keys of this order
abbrev pub with_order : Table → KeyOrder → Table
with_order table keys =
    record {
      keys = keys;
      versions = table.versions;
      writers = table.writers;
      readers = table.readers;
      followers = table.followers;
      reads = table.reads;
      installs = table.installs;
    }

-- the table that is put together
abbrev pub table_of : KeyOrder → List Version → List Written → List (List ℕ) → List (List Follower)
    → List Accessed → Table
table_of keys versions writers readers followers accesses =
    record {
      keys = keys;
      versions = versions;
      writers = map writer_in writers;
      readers = readers;
      followers = followers;
      reads = map (λ (a : Accessed). a.reads) accesses;
      installs = map (λ (a : Accessed). a.installs) accesses;
    }

-- versions of numbered keys and values, no two keys equal, and what is known of each version
pub record AreVersions (keys values : List Atom) (pairs : List (ℕ × Option ℕ))
    (writers : List Written) (readers : List (List ℕ))
    (followers : List (List Follower)) : Type 0 where
  pub keys_numbered : AreNumbered atom_eq keys
  pub in_range : AreInRange keys values pairs
  pub writer_of_each : length writers ≡ length pairs
  pub readers_of_each : length readers ≡ length pairs
  pub followers_of_each : length followers ≡ length pairs
