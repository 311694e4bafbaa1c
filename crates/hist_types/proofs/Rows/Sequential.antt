-- Histories of sequential keys, whose processes order the versions that they see; and what they show where keys are basic.
use Rattle.std.proofs.Common.{◌≡◌, List, [], ◌∷◌, None, refl}
use Rattle.hist_types.specs.Operations.{Operation}
use Rattle.hist_types.specs.Journal.{first_broken}
use Rattle.hist_types.specs.Transactions.{transactions_of}
use Rattle.hist_types.specs.Versions.{process_pairs, version_pairs}
use Rattle.hist_types.specs.Edges.{Edge, dependency_edges}
use Rattle.hist_types.specs.Witness.{IsWitness}
use Rattle.hist_types.specs.declared.types.KeyOrder.TheVariants.{Basic, Sequential}
use Rattle.hist_types.specs.declared.types.Level.TheVariants.{Realtime}
use Rattle.hist_types.specs.declared.types.Phenomenon.TheVariants.{GSingle, G2Item}
use Rattle.hist_types.proofs.Rows.History.{x, y, sets, gets, finds_nil, invoke, ok, fail, info, nil_then, pair, ww_edge, wr_edge, rw_edge, realtime_edge, witness}

-- ---- two writes of one process, and a late read of the first one

abbrev pub late_read : List Operation
late_read =
    invoke 0 (sets x 1 ∷ [])
    ∷ ok 0 (sets x 1 ∷ [])
    ∷ invoke 0 (sets x 2 ∷ [])
    ∷ ok 0 (sets x 2 ∷ [])
    ∷ invoke 1 (finds_nil x ∷ [])
    ∷ ok 1 (gets x 1 ∷ [])
    ∷ []

-- It keeps the rules of the journal.
late_read-legal : first_broken [] late_read ≡ None
late_read-legal = refl

-- The process wrote one after the other, which orders the two where keys are sequential.
late_read-pairs :
    (version_pairs Basic (transactions_of late_read) ≡ nil_then x 1 ∷ nil_then x 2 ∷ [])
    × (version_pairs Sequential (transactions_of late_read) ≡ nil_then x 1 ∷ nil_then x 2 ∷ pair x 1 2 ∷ [])
late_read-pairs = (refl, refl)

late_read-edges :
    (dependency_edges Basic (transactions_of late_read) ≡ wr_edge 0 4 x 1 ∷ [])
    × (dependency_edges Sequential (transactions_of late_read) ≡ ww_edge 0 2 x 1 2 ∷ wr_edge 0 4 x 1 ∷ rw_edge 4 2 x 1 2 ∷ [])
late_read-edges = (refl, refl)

-- from the second write to the read that came after it and missed it
abbrev late_read_walk : List Edge
late_read_walk = realtime_edge 2 4 3 4 ∷ rw_edge 4 2 x 1 2 ∷ []

late_read-witness :
    IsWitness Sequential GSingle Realtime (transactions_of late_read) late_read_walk
    × IsWitness Sequential G2Item Realtime (transactions_of late_read) late_read_walk
late_read-witness = (
  witness Sequential GSingle Realtime (transactions_of late_read) (5 ∷ 2 ∷ []) late_read_walk (refl, refl) (refl, refl, (refl, refl, tt)) refl refl refl refl,
  witness Sequential G2Item Realtime (transactions_of late_read) (5 ∷ 2 ∷ []) late_read_walk (refl, refl) (refl, refl, (refl, refl, tt)) refl refl refl refl,
)

-- ---- three writes of one process

abbrev three_writes : Operation → List Operation
three_writes end =
    invoke 0 (sets x 1 ∷ [])
    ∷ ok 0 (sets x 1 ∷ [])
    ∷ invoke 0 (sets x 2 ∷ [])
    ∷ end
    ∷ invoke 0 (sets x 3 ∷ [])
    ∷ ok 0 (sets x 3 ∷ [])
    ∷ []

-- Each follows the one before it, and no closure is taken.
three_writes-edges : dependency_edges Sequential (transactions_of (three_writes (ok 0 (sets x 2 ∷ [])))) ≡ ww_edge 0 2 x 1 2 ∷ ww_edge 2 4 x 2 3 ∷ []
three_writes-edges = refl

-- One that failed between two others doesn't interrupt them.
three_writes-failed : dependency_edges Sequential (transactions_of (three_writes (fail 0))) ≡ ww_edge 0 4 x 1 3 ∷ []
three_writes-failed = refl

-- ---- what a transaction is seen to read and to leave

-- The second transaction reads the key and writes it; the third one writes it twice and reads what it wrote itself.
abbrev reads_first : List Operation
reads_first =
    invoke 0 (sets x 1 ∷ [])
    ∷ ok 0 (sets x 1 ∷ [])
    ∷ invoke 0 (finds_nil x ∷ finds_nil x ∷ sets x 3 ∷ finds_nil x ∷ [])
    ∷ ok 0 (gets x 2 ∷ gets x 4 ∷ sets x 3 ∷ gets x 5 ∷ [])
    ∷ invoke 0 (sets x 6 ∷ sets x 7 ∷ finds_nil x ∷ [])
    ∷ ok 0 (sets x 6 ∷ sets x 7 ∷ gets x 7 ∷ [])
    ∷ []

-- It keeps the rules of the journal.
reads_first-legal : first_broken [] reads_first ≡ None
reads_first-legal = refl

-- The first external read counts, even where the key is written too, and the last value is that of an internal read. Of two
-- writes the last one counts.
reads_first-pairs : process_pairs Sequential (transactions_of reads_first) ≡ pair x 1 2 ∷ pair x 5 7 ∷ []
reads_first-pairs = refl

-- ---- what gives no pair

-- A process reads a value again, then nil, and then another key; another process writes; one whose outcome nobody knows ends it.
abbrev no_steps : List Operation
no_steps =
    invoke 0 (sets x 1 ∷ [])
    ∷ ok 0 (sets x 1 ∷ [])
    ∷ invoke 0 (finds_nil x ∷ [])
    ∷ ok 0 (gets x 1 ∷ [])
    ∷ invoke 0 (finds_nil x ∷ [])
    ∷ ok 0 (finds_nil x ∷ [])
    ∷ invoke 0 (finds_nil y ∷ [])
    ∷ ok 0 (gets y 2 ∷ [])
    ∷ invoke 1 (sets x 3 ∷ [])
    ∷ ok 1 (sets x 3 ∷ [])
    ∷ invoke 0 (sets y 4 ∷ [])
    ∷ info 0
    ∷ []

-- It keeps the rules of the journal.
no_steps-legal : first_broken [] no_steps ≡ None
no_steps-legal = refl

-- A version is no step from itself, none leads to nil, and none from one process to another or to what may not have happened.
no_steps-pairs : process_pairs Sequential (transactions_of no_steps) ≡ []
no_steps-pairs = refl

-- From nil there are steps.
abbrev from_nil : List Operation
from_nil =
    invoke 0 (finds_nil x ∷ [])
    ∷ ok 0 (finds_nil x ∷ [])
    ∷ invoke 0 (finds_nil x ∷ [])
    ∷ ok 0 (gets x 1 ∷ [])
    ∷ []

from_nil-pairs : process_pairs Sequential (transactions_of from_nil) ≡ nil_then x 1 ∷ []
from_nil-pairs = refl
