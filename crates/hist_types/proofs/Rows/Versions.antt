-- Which versions of keys a transaction reads, installs and writes over, and what becomes of a read by who wrote its version.
use Rattle.std.proofs.Common.{◌≡◌, List, [], ◌∷◌, true, false, Some, None, map, refl}
use Rattle.hist_types.specs.Operations.{Mop, Operation}
use Rattle.hist_types.specs.Transactions.{Transaction, transactions_of, installed_by, is_known_to_read, installs, writes, wrote_intermediate}
use Rattle.hist_types.specs.Versions.{nil_of, update_pairs, version_pairs}
use Rattle.hist_types.specs.Edges.{dependency_edges}
use Rattle.hist_types.specs.Phenomena.{g1a, g1b, stray_reads, stray}
use Rattle.hist_types.specs.declared.types.KeyOrder.TheVariants.{Basic}
use Rattle.hist_types.proofs.Rows.History.{x, y, sets, gets, finds_nil, invoke, ok, fail, info, committed, unknown, version, nil_then, wr_edge, IsLegal}

-- ---- one transaction

-- It reads one key, writes it twice and reads it again, and reads another key.
abbrev reads_and_writes : List Mop
reads_and_writes = finds_nil x ∷ sets x 1 ∷ sets x 2 ∷ gets x 2 ∷ gets y 5 ∷ []

abbrev ended_ok : Transaction
ended_ok = committed 0 0 1 reads_and_writes

-- It reads what it found, and not what it wrote itself.
reads-of_ok : map (is_known_to_read ended_ok) (nil_of x ∷ version y 5 ∷ version x 2 ∷ nil_of y ∷ []) ≡ true ∷ true ∷ false ∷ false ∷ []
reads-of_ok = refl

-- It installs its last write of the key, and never nil; a version is of its key.
installs-of_ok : map (installs ended_ok) (version x 2 ∷ version x 1 ∷ version y 2 ∷ nil_of x ∷ []) ≡ true ∷ false ∷ false ∷ false ∷ []
installs-of_ok = refl

-- It writes both, and writes the first one over.
writes-of_ok :
    (map (writes ended_ok) (version x 1 ∷ version x 2 ∷ version y 5 ∷ nil_of x ∷ []) ≡ true ∷ true ∷ false ∷ false ∷ [])
    × (map (wrote_intermediate ended_ok) (version x 1 ∷ version x 2 ∷ []) ≡ true ∷ false ∷ [])
writes-of_ok = (refl, refl)

-- What it read of the key comes before what it installs there; the other key's version is in no pair.
pairs-of_ok : update_pairs ended_ok ≡ nil_then x 2 ∷ []
pairs-of_ok = refl

-- Had nobody seen its end, it would install the same, and read nothing.
abbrev ended_unknown : Transaction
ended_unknown = unknown 0 0 1 reads_and_writes

reads_nothing-of_unknown :
    (map (is_known_to_read ended_unknown) (nil_of x ∷ version y 5 ∷ []) ≡ false ∷ false ∷ [])
    × (installed_by ended_unknown ≡ version x 2 ∷ [])
reads_nothing-of_unknown = (refl, refl)

-- ---- a value of two keys

-- One number is written to two keys, and written over at one of them.
abbrev one_number : List Operation
one_number =
    invoke 0 (sets x 1 ∷ sets x 2 ∷ sets y 1 ∷ [])
    ∷ ok 0 (sets x 1 ∷ sets x 2 ∷ sets y 1 ∷ [])
    ∷ invoke 1 (finds_nil y ∷ [])
    ∷ ok 1 (gets y 1 ∷ [])
    ∷ []

-- It keeps the rules of the journal, and is what the journal then holds.
one_number-legal : IsLegal one_number
one_number-legal = (refl, refl)

-- The read is of the version that wasn't written over.
one_number-found : (g1b (transactions_of one_number) ≡ None) × (dependency_edges Basic (transactions_of one_number) ≡ wr_edge 0 2 y 1 ∷ [])
one_number-found = (refl, refl)

-- ---- a write to another key than was read

-- A transaction reads one key and writes the other.
abbrev other_key : List Operation
other_key =
    invoke 0 (sets x 1 ∷ [])
    ∷ ok 0 (sets x 1 ∷ [])
    ∷ invoke 1 (finds_nil x ∷ sets y 2 ∷ [])
    ∷ ok 1 (gets x 1 ∷ sets y 2 ∷ [])
    ∷ []

-- It keeps the rules of the journal, and is what the journal then holds.
other_key-legal : IsLegal other_key
other_key-legal = (refl, refl)

-- Its write follows nil alone, and no ww edge leads to it.
other_key-pairs :
    (version_pairs Basic (transactions_of other_key) ≡ nil_then x 1 ∷ nil_then y 2 ∷ [])
    × (dependency_edges Basic (transactions_of other_key) ≡ wr_edge 0 2 x 1 ∷ [])
other_key-pairs = (refl, refl)

-- ---- versions that nobody wrote

-- Values of a failed, an unknown and no writer are read, and nil.
abbrev four_reads : List Operation
four_reads =
    invoke 0 (sets x 1 ∷ [])
    ∷ fail 0
    ∷ invoke 1 (sets x 2 ∷ [])
    ∷ info 1
    ∷ invoke 2 (finds_nil x ∷ finds_nil x ∷ finds_nil y ∷ finds_nil y ∷ [])
    ∷ ok 2 (gets x 1 ∷ gets x 2 ∷ gets y 1 ∷ finds_nil y ∷ [])
    ∷ []

-- It keeps the rules of the journal, and is what the journal then holds.
four_reads-legal : IsLegal four_reads
four_reads-legal = (refl, refl)

-- One of them is stray: what was written to another key doesn't count.
four_reads-stray : (stray_reads (transactions_of four_reads) ≡ version y 1 ∷ []) × (stray (transactions_of four_reads) ≡ 1)
four_reads-stray = (refl, refl)

-- The failed writer's is an aborted read, and no writer wrote anything over.
four_reads-found :
    (g1a (transactions_of four_reads) ≡ Some (record { reader = 4; version = version x 1; writer = 0 }))
    × (g1b (transactions_of four_reads) ≡ None)
four_reads-found = (refl, refl)
