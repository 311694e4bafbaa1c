-- Histories whose cycles need an order between transactions: that of real time, or that of one process.
use Rattle.std.proofs.Common.{◌≡◌, List, [], ◌∷◌, Some, None, codes, refl}
use Rattle.std.specs.Fmt.{digits}
use Rattle.hist_types.specs.Operations.{Operation}
use Rattle.hist_types.specs.Transactions.{transactions_of}
use Rattle.hist_types.specs.Edges.{Edge, order_edges, edges_at}
use Rattle.hist_types.specs.ThinnedOrder.{thinned_edges}
use Rattle.hist_types.specs.Phenomena.{g1a}
use Rattle.hist_types.specs.Witness.{IsWitness}
use Rattle.hist_types.specs.Texts.{finding_lines}
use Rattle.hist_types.specs.declared.types.Level.TheVariants.{Plain, Process, Realtime}
use Rattle.hist_types.specs.declared.types.Phenomenon.TheVariants.{G0, G1c}
use Rattle.hist_types.specs.declared.types.KeyOrder.TheVariants.{Basic}
use Rattle.hist_types.proofs.Rows.History.{x, y, sets, gets, finds_nil, invoke, ok, info, committed, unknown, nil_then, pair, ww_edge, wr_edge, rw_nil_edge, process_edge, realtime_edge, witness, HasAccount, AreWitnesses, witnesses, ArePrinted}

-- ---- a write, and a later read that misses it

-- One process has written, and then another one reads nil.
abbrev pub stale_read : List Operation
stale_read =
    invoke 0 (sets x 1 ∷ [])
    ∷ ok 0 (sets x 1 ∷ [])
    ∷ invoke 1 (finds_nil x ∷ [])
    ∷ ok 1 (finds_nil x ∷ [])
    ∷ []

-- It keeps the rules of the journal, and is what the journal then holds.
stale_read-account : HasAccount stale_read (record {
  -- The write is over before the read begins.
  transactions = committed 0 0 1 (sets x 1 ∷ []) ∷ committed 1 2 3 (finds_nil x ∷ []) ∷ [];
  -- Both are nodes.
  nodes = 0 ∷ 2 ∷ [];
  -- nil comes before the write.
  pairs = nil_then x 1 ∷ [];
  -- The reader read nil, which came before the write. Nothing leads back.
  edges = rw_nil_edge 2 0 x 1 ∷ [];
})
stale_read-account = ((refl, refl), refl)

-- In real time the write comes before the read: it was over at 1, and the read began at 2.
stale_read-order : order_edges Realtime (transactions_of stale_read) ≡ realtime_edge 0 2 1 2 ∷ []
stale_read-order = refl

-- Nothing stands between them, so thinning leaves the edge.
stale_read-thinned : thinned_edges Realtime (transactions_of stale_read) ≡ realtime_edge 0 2 1 2 ∷ []
stale_read-thinned = refl

-- They are of two processes, so there is no process edge.
stale_read-no_process : order_edges Process (transactions_of stale_read) ≡ []
stale_read-no_process = refl

-- A plain cycle may use no order edge at all.
stale_read-no_plain : order_edges Plain (transactions_of stale_read) ≡ []
stale_read-no_plain = refl

-- So the cycles at the levels plain and process are over dependency edges alone.
stale_read-lower : (edges_at Basic Plain (transactions_of stale_read) ≡ rw_nil_edge 2 0 x 1 ∷ []) × (edges_at Basic Process (transactions_of stale_read) ≡ rw_nil_edge 2 0 x 1 ∷ [])
stale_read-lower = (refl, refl)

-- forth in real time, and back since the read missed the write
abbrev pub stale_read_walk : List Edge
stale_read_walk = realtime_edge 0 2 1 2 ∷ rw_nil_edge 2 0 x 1 ∷ []

-- A cycle with one rw edge is a G-single and a G2-item, here of real time.
pub stale_read-witness : AreWitnesses Realtime stale_read stale_read_walk
stale_read-witness = witnesses Realtime stale_read (1 ∷ 0 ∷ []) stale_read_walk (refl, refl) (refl, refl, (refl, refl, tt)) refl refl refl refl refl

-- It is printed so, and as a G2-item alike.
stale_read-witness-lines : ArePrinted Realtime stale_read_walk (codes "realtime\n  T0 -realtime 1 2-> T2\n  T2 -rw :x nil 1-> T0\n")
unfolding digits
stale_read-witness-lines = (refl, refl)

-- ---- the same within one process

-- A process has written, and then reads nil itself.
abbrev pub own_stale_read : List Operation
own_stale_read =
    invoke 0 (sets x 1 ∷ [])
    ∷ ok 0 (sets x 1 ∷ [])
    ∷ invoke 0 (finds_nil x ∷ [])
    ∷ ok 0 (finds_nil x ∷ [])
    ∷ []

-- It keeps the rules of the journal, and is what the journal then holds.
own_stale_read-account : HasAccount own_stale_read (record {
  -- Both transactions are of one process.
  transactions = committed 0 0 1 (sets x 1 ∷ []) ∷ committed 0 2 3 (finds_nil x ∷ []) ∷ [];
  -- Both are nodes.
  nodes = 0 ∷ 2 ∷ [];
  -- nil comes before the write.
  pairs = nil_then x 1 ∷ [];
  -- The reader read nil, which came before the write.
  edges = rw_nil_edge 2 0 x 1 ∷ [];
})
own_stale_read-account = ((refl, refl), refl)

-- The process edge tells the process.
own_stale_read-order : order_edges Process (transactions_of own_stale_read) ≡ process_edge 0 2 0 ∷ []
own_stale_read-order = refl

-- In real time the same pair is told by its indexes; the level realtime has no process edges.
own_stale_read-realtime : order_edges Realtime (transactions_of own_stale_read) ≡ realtime_edge 0 2 1 2 ∷ []
own_stale_read-realtime = refl

-- Thinning leaves both, each at its level.
own_stale_read-thinned :
    (thinned_edges Process (transactions_of own_stale_read) ≡ process_edge 0 2 0 ∷ [])
    × (thinned_edges Realtime (transactions_of own_stale_read) ≡ realtime_edge 0 2 1 2 ∷ [])
own_stale_read-thinned = (refl, refl)

-- forth within the process, and back since the read missed the write
abbrev pub own_stale_read_walk : List Edge
own_stale_read_walk = process_edge 0 2 0 ∷ rw_nil_edge 2 0 x 1 ∷ []

-- The same cycle is found at the level process.
pub own_stale_read-witness : AreWitnesses Process own_stale_read own_stale_read_walk
own_stale_read-witness = witnesses Process own_stale_read (1 ∷ 0 ∷ []) own_stale_read_walk (refl, refl) (refl, refl, (refl, refl, tt)) refl refl refl refl refl

-- It is printed so, and as a G2-item alike.
own_stale_read-witness-lines : ArePrinted Process own_stale_read_walk (codes "process\n  T0 -process 0-> T2\n  T2 -rw :x nil 1-> T0\n")
unfolding digits
own_stale_read-witness-lines = (refl, refl)

-- ---- a process that reads what it writes only later

-- The first transaction reads 1 and writes 2; the next one of the process writes 1.
abbrev read_of_own_future : List Operation
read_of_own_future =
    invoke 0 (finds_nil x ∷ sets x 2 ∷ [])
    ∷ ok 0 (gets x 1 ∷ sets x 2 ∷ [])
    ∷ invoke 0 (sets x 1 ∷ [])
    ∷ ok 0 (sets x 1 ∷ [])
    ∷ []

-- It keeps the rules of the journal, and is what the journal then holds.
read_of_own_future-account : HasAccount read_of_own_future (record {
  -- The read's value is that of the completion.
  transactions = committed 0 0 1 (gets x 1 ∷ sets x 2 ∷ []) ∷ committed 0 2 3 (sets x 1 ∷ []) ∷ [];
  -- Both are nodes.
  nodes = 0 ∷ 2 ∷ [];
  -- nil comes before both writes, and 1 before 2, since 2 was written behind a read of 1.
  pairs = nil_then x 2 ∷ nil_then x 1 ∷ pair x 1 2 ∷ [];
  -- The later transaction's write comes before the earlier one's, which read it.
  edges = ww_edge 2 0 x 1 2 ∷ wr_edge 2 0 x 1 ∷ [];
})
read_of_own_future-account = ((refl, refl), refl)

-- One process runs them one after the other, and thinning leaves that.
read_of_own_future-order :
    (order_edges Process (transactions_of read_of_own_future) ≡ process_edge 0 2 0 ∷ [])
    × (thinned_edges Process (transactions_of read_of_own_future) ≡ process_edge 0 2 0 ∷ [])
read_of_own_future-order = (refl, refl)

-- back over the writes
abbrev written_before_walk : List Edge
written_before_walk = process_edge 0 2 0 ∷ ww_edge 2 0 x 1 2 ∷ []

-- A cycle of a ww edge and order edges is a G0.
read_of_own_future-g0 : IsWitness Basic G0 Process (transactions_of read_of_own_future) written_before_walk
read_of_own_future-g0 =
    witness Basic G0 Process (transactions_of read_of_own_future) (2 ∷ 0 ∷ []) written_before_walk (refl, refl) (refl, refl, (refl, refl, tt)) refl refl refl refl

-- It is printed so.
read_of_own_future-g0-lines : finding_lines (codes "G0") (Some (record { level = Process; walk = written_before_walk })) ≡ codes "G0 process\n  T0 -process 0-> T2\n  T2 -ww :x 1 2-> T0\n"
unfolding digits
read_of_own_future-g0-lines = refl

-- back over the read
abbrev read_before_walk : List Edge
read_before_walk = process_edge 0 2 0 ∷ wr_edge 2 0 x 1 ∷ []

-- A cycle of a wr edge and order edges is a G1c, and no G0.
read_of_own_future-g1c : IsWitness Basic G1c Process (transactions_of read_of_own_future) read_before_walk
read_of_own_future-g1c =
    witness Basic G1c Process (transactions_of read_of_own_future) (2 ∷ 1 ∷ []) read_before_walk (refl, refl) (refl, refl, (refl, refl, tt)) refl refl refl refl

-- It is printed so.
read_of_own_future-g1c-lines : finding_lines (codes "G1c") (Some (record { level = Process; walk = read_before_walk })) ≡ codes "G1c process\n  T0 -process 0-> T2\n  T2 -wr :x 1-> T0\n"
unfolding digits
read_of_own_future-g1c-lines = refl

-- ---- a write that nobody knows of, read once and then missed

-- The write ended with an info, one read returned its value, and the next read of that process nil.
abbrev pub unknown_write : List Operation
unknown_write =
    invoke 0 (sets x 1 ∷ [])
    ∷ info 0
    ∷ invoke 1 (finds_nil x ∷ [])
    ∷ ok 1 (gets x 1 ∷ [])
    ∷ invoke 1 (finds_nil x ∷ [])
    ∷ ok 1 (finds_nil x ∷ [])
    ∷ []

-- It keeps the rules of the journal, and is what the journal then holds.
unknown_write-account : HasAccount unknown_write (record {
  -- The writer's status is unknown, and its micro-operations are those of its invocation.
  transactions =
      unknown 0 0 1 (sets x 1 ∷ [])
      ∷ committed 1 2 3 (gets x 1 ∷ [])
      ∷ committed 1 4 5 (finds_nil x ∷ [])
      ∷ [];
  -- The writer is a node, since its value was read by an ok transaction.
  nodes = 0 ∷ 2 ∷ 4 ∷ [];
  -- nil comes before the write, since its writer is a node.
  pairs = nil_then x 1 ∷ [];
  -- The first read saw the write, and the second one missed it.
  edges = wr_edge 0 2 x 1 ∷ rw_nil_edge 4 0 x 1 ∷ [];
})
unknown_write-account = ((refl, refl), refl)

-- The two reads are of one process.
unknown_write-order : order_edges Process (transactions_of unknown_write) ≡ process_edge 2 4 1 ∷ []
unknown_write-order = refl

-- An info tells nothing of when the write happened: no order edge begins at it.
unknown_write-realtime : order_edges Realtime (transactions_of unknown_write) ≡ realtime_edge 2 4 3 4 ∷ []
unknown_write-realtime = refl

-- Thinning leaves both, each at its level.
unknown_write-thinned :
    (thinned_edges Process (transactions_of unknown_write) ≡ process_edge 2 4 1 ∷ [])
    × (thinned_edges Realtime (transactions_of unknown_write) ≡ realtime_edge 2 4 3 4 ∷ [])
unknown_write-thinned = (refl, refl)

-- from the write to its reader, on to the next read, and back
abbrev pub unknown_write_walk : List Edge
unknown_write_walk = wr_edge 0 2 x 1 ∷ process_edge 2 4 1 ∷ rw_nil_edge 4 0 x 1 ∷ []

-- The cycle with one rw edge is a G-single and a G2-item.
pub unknown_write-witness : AreWitnesses Process unknown_write unknown_write_walk
unknown_write-witness = witnesses Process unknown_write (0 ∷ 2 ∷ 1 ∷ []) unknown_write_walk (refl, (refl, refl)) (refl, refl, (refl, refl, (refl, refl, tt))) refl refl refl refl refl

-- It is printed so, and as a G2-item alike.
unknown_write-witness-lines : ArePrinted Process unknown_write_walk (codes "process\n  T0 -wr :x 1-> T2\n  T2 -process 1-> T4\n  T4 -rw :x nil 1-> T0\n")
unfolding digits
unknown_write-witness-lines = (refl, refl)

-- A value of an unknown writer is no aborted read.
unknown_write-no_g1a : g1a (transactions_of unknown_write) ≡ None
unknown_write-no_g1a = refl

-- ---- an unknown write of two keys, of which one was read

-- The writer is a node by one key, and is missed at the other.
abbrev unknown_pair : List Operation
unknown_pair =
    invoke 0 (sets x 1 ∷ sets y 1 ∷ [])
    ∷ info 0
    ∷ invoke 1 (finds_nil x ∷ [])
    ∷ ok 1 (gets x 1 ∷ [])
    ∷ invoke 1 (finds_nil y ∷ [])
    ∷ ok 1 (finds_nil y ∷ [])
    ∷ []

-- It keeps the rules of the journal, and is what the journal then holds.
unknown_pair-account : HasAccount unknown_pair (record {
  -- The writer's status is unknown.
  transactions =
      unknown 0 0 1 (sets x 1 ∷ sets y 1 ∷ [])
      ∷ committed 1 2 3 (gets x 1 ∷ [])
      ∷ committed 1 4 5 (finds_nil y ∷ [])
      ∷ [];
  -- The writer is a node.
  nodes = 0 ∷ 2 ∷ 4 ∷ [];
  -- nil comes before both writes, also at the key that made no node.
  pairs = nil_then x 1 ∷ nil_then y 1 ∷ [];
  -- One read saw the write of x, the other one missed that of y.
  edges = wr_edge 0 2 x 1 ∷ rw_nil_edge 4 0 y 1 ∷ [];
})
unknown_pair-account = ((refl, refl), refl)

-- The two reads are of one process, and thinning leaves them in order.
unknown_pair-order :
    (order_edges Process (transactions_of unknown_pair) ≡ process_edge 2 4 1 ∷ [])
    × (thinned_edges Process (transactions_of unknown_pair) ≡ process_edge 2 4 1 ∷ [])
unknown_pair-order = (refl, refl)

-- from one key to the other
abbrev unknown_pair_walk : List Edge
unknown_pair_walk = wr_edge 0 2 x 1 ∷ process_edge 2 4 1 ∷ rw_nil_edge 4 0 y 1 ∷ []

-- The cycle goes over both keys.
unknown_pair-witness : AreWitnesses Process unknown_pair unknown_pair_walk
unknown_pair-witness = witnesses Process unknown_pair (0 ∷ 2 ∷ 1 ∷ []) unknown_pair_walk (refl, (refl, refl)) (refl, refl, (refl, refl, (refl, refl, tt))) refl refl refl refl refl

-- It is printed so, and as a G2-item alike.
unknown_pair-witness-lines : ArePrinted Process unknown_pair_walk (codes "process\n  T0 -wr :x 1-> T2\n  T2 -process 1-> T4\n  T4 -rw :y nil 1-> T0\n")
unfolding digits
unknown_pair-witness-lines = (refl, refl)
