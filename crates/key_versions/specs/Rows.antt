-- What is known of each version, over numbers alone: versions go by number, transactions by place.
use Rattle.std.specs.Prelude.{◌<◌, ℕ, suc, zero, ◌-◌, List, [], ◌∷◌, ◌++◌, Bool, not, ◌&&◌, ◌==◌, if◌then◌else◌, Option, Some, None, filter, map, length, replicate}
use Rattle.std.specs.List.{list_any}
use Rattle.std.specs.Option.{option_or}
use Rattle.key_versions.specs.declared.types.Writer.{Writer}
use Rattle.key_versions.specs.declared.types.Follower.{Follower}
use Rattle.key_versions.specs.declared.pending.Access.{Access}

-- the versions of an access are below n
abbrev pub IsWithin : ℕ → Access → Type 0
IsWithin n a = (a.nil < n) × (a.version < n)

-- what is known of a version
pub record Known : Type 0 where
  pub writer : Option Writer
  pub readers : List ℕ
  pub followers : List Follower

-- what a transaction reads and installs
pub record Accessed : Type 0 where
  pub reads : List ℕ
  pub installs : List ℕ

abbrev pub unknown : Known
unknown = record { writer = None; readers = []; followers = [] }

-- a list with one of its items changed
abbrev pub change : {A : Type 0} → (A → A) → ℕ → List A → List A
change f n [] = []
change f zero (x ∷ xs) = f x ∷ xs
change f (suc n) (x ∷ xs) = x ∷ change f n xs

-- ---- micro-operations

abbrev pub with_access : (adds : Bool) → Access → List Access → List Access
with_access adds access accesses = if adds then accesses ++ access ∷ [] else accesses

-- ---- writes

abbrev pub with_writer : Writer → Known → Known
with_writer w known =
    record {
      writer = option_or known.writer (Some w);
      readers = known.readers;
      followers = known.followers;
    }

-- whether one of them is of the key with this nil version
abbrev pub is_of_key : ℕ → Access → Bool
is_of_key nil access = access.nil == nil

abbrev pub has_nil : ℕ → List Access → Bool
has_nil nil accesses = list_any (is_of_key nil) accesses

-- the external reads after a micro-operation, where these were the writes before it
abbrev pub with_read : (is_write : Bool) → Access → (writes reads : List Access) → List Access
with_read is_write access writes reads =
    with_access (not is_write && not (has_nil access.nil writes)) access reads

-- the writes with no later one of their key
abbrev pub lasts : List Access → List Access
lasts [] = []
lasts (w ∷ ws) = if has_nil w.nil ws then lasts ws else w ∷ lasts ws

-- the rows after the writes of a transaction
abbrev pub written_rows : ℕ → List Known → List Access → List Known
written_rows place rows [] = rows
written_rows place rows (w ∷ ws) =
    written_rows place
    (change (with_writer (record { txn = place; over = has_nil w.nil ws })) w.version rows) ws

-- ---- installs

abbrev pub follower : ℕ → Access → Follower
follower place access = record { txn = place; version = access.version }

abbrev pub with_follower : Follower → Known → Known
with_follower f known =
    record { writer = known.writer; readers = known.readers; followers = known.followers ++ f ∷ [] }

-- the rows after the installs of a transaction, each of which follows the nil version of its key
abbrev pub installed_rows : ℕ → List Known → List Access → List Known
installed_rows place rows [] = rows
installed_rows place rows (w ∷ ws) =
    installed_rows place (change (with_follower (follower place w)) w.nil rows) ws

-- ---- reads

-- whether an install follows what is read, where that is not nil
abbrev pub is_behind : Access → Access → Bool
is_behind r w = (not (r.version == r.nil) && (w.nil == r.nil)) && not (w.version == r.version)

-- the transaction at the place is one reader more
abbrev pub with_place : ℕ → Known → Known
with_place place known =
    record {
      writer = known.writer;
      readers = known.readers ++ place ∷ [];
      followers = known.followers;
    }

abbrev pub with_reader : ℕ → Access → List Access → Known → Known
with_reader place r installs known =
    record {
      writer = known.writer;
      readers = known.readers ++ place ∷ [];
      followers = known.followers ++ map (follower place) (filter (is_behind r) installs);
    }

abbrev pub has_number : ℕ → List Access → Bool
has_number number accesses = list_any (λ (a : Access). a.version == number) accesses

-- the rows after reads of a transaction, of which those before have been there
abbrev pub read_rows : ℕ → List Access → List Known → (before : List Access) → List Access
    → List Known
read_rows place installs rows before [] = rows
read_rows place installs rows before (r ∷ rs) =
    let next =
    if has_number r.version before
    then rows
    else change (with_reader place r installs) r.version rows in
    read_rows place installs next (before ++ r ∷ []) rs

-- ---- a transaction

abbrev pub numbers_of : List Access → List ℕ
numbers_of accesses = map (λ (a : Access). a.version) accesses

-- what transactions read and install, with one transaction more
abbrev pub with_accessed : List Accessed → List Access → List Access → List Accessed
with_accessed transactions reads installs =
    transactions ++ record { reads = numbers_of reads; installs = numbers_of installs } ∷ []

abbrev pub accessed : List Access → List Access → Accessed
accessed reads writes = record { reads = numbers_of reads; installs = numbers_of (lasts writes) }

-- the rows after a transaction
abbrev pub rows_after : ℕ → List Access → List Access → List Known → List Known
rows_after place reads writes rows =
    let installs = lasts writes in
    let written = written_rows place rows writes in
    read_rows place installs (installed_rows place written installs) [] reads

-- rows for n versions
abbrev pub grown : ℕ → List Known → List Known
grown n rows = rows ++ replicate (n - length rows) unknown
