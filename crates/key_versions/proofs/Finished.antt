-- The table that is put together from what is known.
use Rattle.std.proofs.Common.{◌≡◌, ℕ, List, length, map, Option, sym, ◌∙◌, ap, subst}
use Rattle.std.proofs.lemmas.List.{length-map}
use Rattle.hist_types.specs.Atoms.{Atom, atom_eq}
use Rattle.hist_types.specs.Transactions.{Transaction, Version}
use Rattle.hist_types.specs.declared.types.KeyOrder.{KeyOrder}
use Rattle.atom_index.specs.Numbers.{AreNumbered}
use Rattle.key_versions.specs.declared.pending.Written.{Written}
use Rattle.key_versions.specs.declared.types.Writer.{Writer}
use Rattle.key_versions.specs.declared.types.Follower.{Follower}
use Rattle.key_versions.specs.Histories.{writer_of}
use Rattle.key_versions.specs.Kept.{KeptVersions}
use Rattle.key_versions.specs.Numbering.{AreInRange, version_by, versions_in}
use Rattle.key_versions.specs.Pending.{writer_in}
use Rattle.key_versions.specs.Rows.{Known, Accessed}
use Rattle.key_versions.specs.Tables.{Table, IsTableOf}
use Rattle.key_versions.specs.Views.{table_by, table_of, with_order, AreVersions}

abbrev table_with : KeyOrder → List Version → List (Option Writer) → List (List ℕ) → List (List Follower) → List Accessed → Table
table_with order versions writers readers followers accesses =
    record {
      keys = order;
      versions = versions;
      writers = writers;
      readers = readers;
      followers = followers;
      reads = map (λ (a : Accessed). a.reads) accesses;
      installs = map (λ (a : Accessed). a.installs) accesses;
    }

-- the parts of a table hold what is known of versions
pub record IsKnown (keys values : List Atom) (pairs : List (ℕ × Option ℕ)) (vs : List Version) (rows : List Known) (ws : List Written) (rs : List (List ℕ)) (fs : List (List Follower)) : Type 0 where
  pub versions : versions_in keys values pairs ≡ vs
  pub writers : map writer_in ws ≡ map (λ (k : Known). k.writer) rows
  pub readers : rs ≡ map (λ (k : Known). k.readers) rows
  pub followers : fs ≡ map (λ (k : Known). k.followers) rows

-- a table says the same of the transactions, whatever order of keys it bears
same_table : (keys order : KeyOrder) (ts : List Transaction) (table : Table) → IsTableOf keys ts table → IsTableOf keys ts (with_order table order)
same_table keys order ts table is =
    record {
      distinct = is.distinct;
      named = is.named;
      writers = is.writers;
      readers = is.readers;
      followers = is.followers;
      reads = is.reads;
      installs = is.installs;
    }

module _ {keys values : List Atom} {pairs : List (ℕ × Option ℕ)} {versions : List Version} {rows : List Known} {writers : List Written} {readers : List (List ℕ)} {followers : List (List Follower)} (known : IsKnown keys values pairs versions rows writers readers followers) (kept : KeptVersions) (same : versions ≡ kept.versions) (txns : List Transaction) (accesses : List Accessed) (is : IsTableOf kept.keys txns (table_by kept.versions rows accesses)) where
  pub are_versions : AreNumbered atom_eq keys → AreInRange keys values pairs → AreVersions keys values pairs writers readers followers
  are_versions apart within =
      let count : length (map (λ (k : Known). k.writer) rows) ≡ length versions =
      ap length is.writers ∙ length-map kept.versions (writer_of txns) ∙ ap length (sym same) in
      let count_rows : length rows ≡ length pairs =
      sym (length-map rows (λ (k : Known). k.writer)) ∙ count ∙ sym (ap length known.versions) ∙ length-map pairs (version_by keys values) in
      record {
        keys_numbered = apart;
        in_range = within;
        writer_of_each = sym (length-map writers writer_in) ∙ ap length known.writers ∙ length-map rows (λ (k : Known). k.writer) ∙ count_rows;
        readers_of_each = ap length known.readers ∙ length-map rows (λ (k : Known). k.readers) ∙ count_rows;
        followers_of_each = ap length known.followers ∙ length-map rows (λ (k : Known). k.followers) ∙ count_rows;
      }

  table_same : (order : KeyOrder) → table_of order (versions_in keys values pairs) writers readers followers accesses ≡ with_order (table_by kept.versions rows accesses) order
  table_same order =
      ap (λ vs. table_with order vs (map writer_in writers) readers followers accesses) (known.versions ∙ same)
      ∙ ap (λ ws. table_with order kept.versions ws readers followers accesses) known.writers
      ∙ ap (λ rs. table_with order kept.versions (map (λ (k : Known). k.writer) rows) rs followers accesses) known.readers
      ∙ ap (λ fs. table_with order kept.versions (map (λ (k : Known). k.writer) rows) (map (λ (k : Known). k.readers) rows) fs accesses) known.followers

  pub is_table : {ts : List Transaction} {order : KeyOrder} {table : Table} → txns ≡ ts → table ≡ table_of order (versions_in keys values pairs) writers readers followers accesses → IsTableOf kept.keys ts table
  is_table {order = order} {table = table} of made =
      subst (λ (us : List Transaction). IsTableOf kept.keys us table) of
      (subst (IsTableOf kept.keys txns) (sym (made ∙ table_same order)) (same_table kept.keys order txns (table_by kept.versions rows accesses) is))
