-- Which transactions are nodes, and which of their reads and writes make version pairs and edges.
use Rattle.std.proofs.Common.{◌≡◌, List, [], ◌∷◌, refl}
use Rattle.hist_types.specs.Operations.{Operation}
use Rattle.hist_types.specs.Transactions.{transactions_of, nodes}
use Rattle.hist_types.specs.Versions.{version_pairs}
use Rattle.hist_types.specs.Edges.{dependency_edges}
use Rattle.hist_types.specs.declared.types.KeyOrder.TheVariants.{Basic}
use Rattle.hist_types.proofs.Rows.History.{x, sets, gets, finds_nil, invoke, ok, info, nil_then, pair, ww_edge, wr_edge, rw_nil_edge, rw_edge, names, IsLegal}

-- ---- which transactions are nodes

-- A write ends with an info, and nobody reads its value.
abbrev unread_unknown_write : List Operation
unread_unknown_write =
    invoke 0 (sets x 1 ∷ [])
    ∷ info 0
    ∷ invoke 1 (finds_nil x ∷ [])
    ∷ ok 1 (finds_nil x ∷ [])
    ∷ []

-- It keeps the rules of the journal, and is what the journal then holds.
unread_unknown_write-legal : IsLegal unread_unknown_write
unread_unknown_write-legal = (refl, refl)

-- The unknown writer is no node.
unread_unknown_write-nodes : names (nodes (transactions_of unread_unknown_write)) ≡ 2 ∷ []
unread_unknown_write-nodes = refl

-- So its write is no version,
unread_unknown_write-pairs : version_pairs Basic (transactions_of unread_unknown_write) ≡ []
unread_unknown_write-pairs = refl

-- and the read of nil came before nothing.
unread_unknown_write-edges : dependency_edges Basic (transactions_of unread_unknown_write) ≡ []
unread_unknown_write-edges = refl

-- The same, and its value is read.
abbrev read_unknown_write : List Operation
read_unknown_write =
    invoke 0 (sets x 1 ∷ [])
    ∷ info 0
    ∷ invoke 1 (finds_nil x ∷ [])
    ∷ ok 1 (gets x 1 ∷ [])
    ∷ []

-- It keeps the rules of the journal, and is what the journal then holds.
read_unknown_write-legal : IsLegal read_unknown_write
read_unknown_write-legal = (refl, refl)

-- The unknown writer is a node.
read_unknown_write-nodes : names (nodes (transactions_of read_unknown_write)) ≡ 0 ∷ 2 ∷ []
read_unknown_write-nodes = refl

-- Its write is a version,
read_unknown_write-pairs : version_pairs Basic (transactions_of read_unknown_write) ≡ nil_then x 1 ∷ []
read_unknown_write-pairs = refl

-- which was read.
read_unknown_write-edges : dependency_edges Basic (transactions_of read_unknown_write) ≡ wr_edge 0 2 x 1 ∷ []
read_unknown_write-edges = refl

-- The value is read by a transaction that ended with an info.
abbrev unknown_write_read_by_an_unknown : List Operation
unknown_write_read_by_an_unknown =
    invoke 0 (sets x 1 ∷ [])
    ∷ info 0
    ∷ invoke 1 (gets x 1 ∷ [])
    ∷ info 1
    ∷ []

-- It keeps the rules of the journal, and is what the journal then holds.
unknown_write_read_by_an_unknown-legal : IsLegal unknown_write_read_by_an_unknown
unknown_write_read_by_an_unknown-legal = (refl, refl)

-- Only what an ok transaction reads makes a node.
unknown_write_read_by_an_unknown-nodes : names (nodes (transactions_of unknown_write_read_by_an_unknown)) ≡ []
unknown_write_read_by_an_unknown-nodes = refl

-- An unknown writer's first value is read, and it wrote over that.
abbrev overwritten_unknown_write : List Operation
overwritten_unknown_write =
    invoke 0 (sets x 1 ∷ sets x 2 ∷ [])
    ∷ info 0
    ∷ invoke 1 (finds_nil x ∷ [])
    ∷ ok 1 (gets x 1 ∷ [])
    ∷ []

-- It keeps the rules of the journal, and is what the journal then holds.
overwritten_unknown_write-legal : IsLegal overwritten_unknown_write
overwritten_unknown_write-legal = (refl, refl)

-- Any write that was read makes a node, also one written over.
overwritten_unknown_write-nodes : names (nodes (transactions_of overwritten_unknown_write)) ≡ 0 ∷ 2 ∷ []
overwritten_unknown_write-nodes = refl

-- Its last write alone is a version,
overwritten_unknown_write-pairs : version_pairs Basic (transactions_of overwritten_unknown_write) ≡ nil_then x 2 ∷ []
overwritten_unknown_write-pairs = refl

-- so the read of the first one makes no edge.
overwritten_unknown_write-edges : dependency_edges Basic (transactions_of overwritten_unknown_write) ≡ []
overwritten_unknown_write-edges = refl

-- ---- values that were written over

-- A value that was written over is read twice, once by a transaction that writes the key.
abbrev read_before_a_write : List Operation
read_before_a_write =
    invoke 0 (sets x 1 ∷ sets x 2 ∷ [])
    ∷ ok 0 (sets x 1 ∷ sets x 2 ∷ [])
    ∷ invoke 1 (finds_nil x ∷ sets x 3 ∷ [])
    ∷ ok 1 (gets x 1 ∷ sets x 3 ∷ [])
    ∷ invoke 2 (finds_nil x ∷ [])
    ∷ ok 2 (gets x 1 ∷ [])
    ∷ []

-- It keeps the rules of the journal, and is what the journal then holds.
read_before_a_write-legal : IsLegal read_before_a_write
read_before_a_write-legal = (refl, refl)

-- The write follows the read, whatever the read returned.
read_before_a_write-pairs :
    version_pairs Basic (transactions_of read_before_a_write) ≡ nil_then x 2 ∷ nil_then x 3 ∷ pair x 1 3 ∷ []
read_before_a_write-pairs = refl

-- No wr and no ww edge leads from the first writer, but the second reader read 1, which came before the first reader's
-- write.
read_before_a_write-edges : dependency_edges Basic (transactions_of read_before_a_write) ≡ rw_edge 4 2 x 1 3 ∷ []
read_before_a_write-edges = refl

-- ---- several reads of one key

-- A transaction reads a key twice, with two values, and writes it.
abbrev two_values_of_a_key : List Operation
two_values_of_a_key =
    invoke 0 (sets x 1 ∷ [])
    ∷ ok 0 (sets x 1 ∷ [])
    ∷ invoke 1 (finds_nil x ∷ finds_nil x ∷ sets x 2 ∷ [])
    ∷ ok 1 (gets x 1 ∷ finds_nil x ∷ sets x 2 ∷ [])
    ∷ []

-- It keeps the rules of the journal, and is what the journal then holds.
two_values_of_a_key-legal : IsLegal two_values_of_a_key
two_values_of_a_key-legal = (refl, refl)

-- The write follows both reads.
two_values_of_a_key-pairs :
    version_pairs Basic (transactions_of two_values_of_a_key) ≡ nil_then x 1 ∷ nil_then x 2 ∷ pair x 1 2 ∷ nil_then x 2 ∷ []
two_values_of_a_key-pairs = refl

-- Both reads count: one came from the first transaction, and the other one missed it.
two_values_of_a_key-edges :
    dependency_edges Basic (transactions_of two_values_of_a_key)
    ≡ ww_edge 0 2 x 1 2
    ∷ wr_edge 0 2 x 1
    ∷ rw_nil_edge 2 0 x 1
    ∷ []
two_values_of_a_key-edges = refl
