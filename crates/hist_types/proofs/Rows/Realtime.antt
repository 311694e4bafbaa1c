-- Order edges and what is left of them when they are thinned.
use Rattle.std.proofs.Common.{◌≡◌, List, [], ◌∷◌, ◌++◌, None, true, false, codes, refl}
use Rattle.std.specs.Fmt.{digits}
use Rattle.hist_types.specs.Operations.{Operation}
use Rattle.hist_types.specs.Journal.{first_broken}
use Rattle.hist_types.specs.Transactions.{transactions_of}
use Rattle.hist_types.specs.Edges.{Edge, order_edges, all_order_edges}
use Rattle.hist_types.specs.ThinnedOrder.{thinned_edges, all_thinned_edges}
use Rattle.hist_types.specs.Phenomena.{makes}
use Rattle.hist_types.specs.Witness.{alternates, ends_in_order, begins_least, stations}
use Rattle.hist_types.specs.declared.types.Level.TheVariants.{Process, Realtime}
use Rattle.hist_types.specs.declared.types.Phenomenon.TheVariants.{GSingle}
use Rattle.hist_types.proofs.Rows.History.{x, y, sets, finds_nil, invoke, ok, fail, committed, aborted, unfinished, nil_then, rw_nil_edge, process_edge, realtime_edge, HasAccount, AreWitnesses, witnesses, ArePrinted}

-- ---- a write, a transaction between, and a read that misses the write

-- An ok transaction lies between the write and the read.
abbrev pub missed_write : List Operation
missed_write =
    invoke 0 (sets x 1 ∷ [])
    ∷ ok 0 (sets x 1 ∷ [])
    ∷ invoke 1 (sets y 1 ∷ [])
    ∷ ok 1 (sets y 1 ∷ [])
    ∷ invoke 2 (finds_nil x ∷ [])
    ∷ ok 2 (finds_nil x ∷ [])
    ∷ []

-- It keeps the rules of the journal, and is what the journal then holds.
missed_write-account : HasAccount missed_write (record {
  -- There are three transactions.
  transactions =
      committed 0 0 1 (sets x 1 ∷ [])
      ∷ committed 1 2 3 (sets y 1 ∷ [])
      ∷ committed 2 4 5 (finds_nil x ∷ [])
      ∷ [];
  -- All three are ok.
  nodes = 0 ∷ 2 ∷ 4 ∷ [];
  -- nil comes before both writes.
  pairs = nil_then x 1 ∷ nil_then y 1 ∷ [];
  -- Only the read that missed the write makes an edge.
  edges = rw_nil_edge 4 0 x 1 ∷ [];
})
missed_write-account = ((refl, refl), refl)

-- Each of the three was over before the next one began, and all pairs are meant.
missed_write-order :
    order_edges Realtime (transactions_of missed_write)
    ≡ realtime_edge 0 2 1 2
    ∷ realtime_edge 0 4 1 4
    ∷ realtime_edge 2 4 3 4
    ∷ []
missed_write-order = refl

-- Thinned, the pair from the first to the last is left out: the one between is ok and lies wholly between them.
missed_write-thinned :
    thinned_edges Realtime (transactions_of missed_write) ≡ realtime_edge 0 2 1 2 ∷ realtime_edge 2 4 3 4 ∷ []
missed_write-thinned = refl

-- No two are of one process.
missed_write-no_process : order_edges Process (transactions_of missed_write) ≡ []
missed_write-no_process = refl

-- forth in real time, and back since the read missed the write
abbrev missed_write_walk : List Edge
missed_write_walk = realtime_edge 0 4 1 4 ∷ rw_nil_edge 4 0 x 1 ∷ []

-- A witness tells one order edge, also where thinned edges need two for it.
missed_write-witness : AreWitnesses Realtime missed_write missed_write_walk
missed_write-witness = witnesses Realtime missed_write (2 ∷ 0 ∷ []) missed_write_walk (refl, refl) (refl, refl, (refl, refl, tt)) refl refl refl refl refl

-- It is printed so, and as a G2-item alike.
missed_write-witness-lines : ArePrinted Realtime missed_write_walk (codes "realtime\n  T0 -realtime 1 4-> T4\n  T4 -rw :x nil 1-> T0\n")
unfolding digits
missed_write-witness-lines = (refl, refl)

-- the same cycle, with both thinned edges in it
abbrev thinned_walk : List Edge
thinned_walk = realtime_edge 0 2 1 2 ∷ realtime_edge 2 4 3 4 ∷ rw_nil_edge 4 0 x 1 ∷ []

-- That walk shows the phenomenon too, but it is no witness, since two order edges stand side by side in it.
missed_write-thinned_walk : (makes GSingle thinned_walk ≡ true) × (alternates (ends_in_order thinned_walk) thinned_walk ≡ false)
missed_write-thinned_walk = (refl, refl)

-- the same cycle, told from the read, with its order edges at its two ends
abbrev turned_walk : List Edge
turned_walk = realtime_edge 2 4 3 4 ∷ rw_nil_edge 4 0 x 1 ∷ realtime_edge 0 2 1 2 ∷ []

-- Order edges at both ends stand side by side as well, and a witness is told from its least transaction.
missed_write-turned_walk : (alternates (ends_in_order turned_walk) turned_walk ≡ false) × (begins_least (stations turned_walk) ≡ false)
missed_write-turned_walk = (refl, refl)

-- The transaction between has failed.
abbrev missed_write_past_a_fail : List Operation
missed_write_past_a_fail =
    invoke 0 (sets x 1 ∷ [])
    ∷ ok 0 (sets x 1 ∷ [])
    ∷ invoke 1 (sets y 1 ∷ [])
    ∷ fail 1
    ∷ invoke 2 (finds_nil x ∷ [])
    ∷ ok 2 (finds_nil x ∷ [])
    ∷ []

-- It keeps the rules of the journal, and is what the journal then holds.
missed_write_past_a_fail-account : HasAccount missed_write_past_a_fail (record {
  -- The one between has failed.
  transactions =
      committed 0 0 1 (sets x 1 ∷ [])
      ∷ aborted 1 2 3 (sets y 1 ∷ [])
      ∷ committed 2 4 5 (finds_nil x ∷ [])
      ∷ [];
  -- The failed one is no node.
  nodes = 0 ∷ 4 ∷ [];
  -- A failed transaction's write is no version.
  pairs = nil_then x 1 ∷ [];
  -- Only the read that missed the write makes an edge.
  edges = rw_nil_edge 4 0 x 1 ∷ [];
})
missed_write_past_a_fail-account = ((refl, refl), refl)

-- The failed one has no edge.
missed_write_past_a_fail-order :
    order_edges Realtime (transactions_of missed_write_past_a_fail) ≡ realtime_edge 0 4 1 4 ∷ []
missed_write_past_a_fail-order = refl

-- A failed transaction thins nothing.
missed_write_past_a_fail-thinned :
    thinned_edges Realtime (transactions_of missed_write_past_a_fail) ≡ realtime_edge 0 4 1 4 ∷ []
missed_write_past_a_fail-thinned = refl

-- As if every transaction were a node, an edge leads to the failed one, and none leads from it.
missed_write_past_a_fail-all_thinned :
    all_thinned_edges Realtime (transactions_of missed_write_past_a_fail)
    ≡ realtime_edge 0 2 1 2
    ∷ realtime_edge 0 4 1 4
    ∷ []
missed_write_past_a_fail-all_thinned = refl

-- forth in real time, and back since the read missed the write
abbrev missed_write_past_a_fail_walk : List Edge
missed_write_past_a_fail_walk = realtime_edge 0 4 1 4 ∷ rw_nil_edge 4 0 x 1 ∷ []

-- The witness is alike.
missed_write_past_a_fail-witness : AreWitnesses Realtime missed_write_past_a_fail missed_write_past_a_fail_walk
missed_write_past_a_fail-witness = witnesses Realtime missed_write_past_a_fail (1 ∷ 0 ∷ []) missed_write_past_a_fail_walk (refl, refl) (refl, refl, (refl, refl, tt)) refl refl refl refl refl

-- It is printed so, and as a G2-item alike.
missed_write_past_a_fail-witness-lines : ArePrinted Realtime missed_write_past_a_fail_walk (codes "realtime\n  T0 -realtime 1 4-> T4\n  T4 -rw :x nil 1-> T0\n")
unfolding digits
missed_write_past_a_fail-witness-lines = (refl, refl)

-- The transaction between is still open.
abbrev missed_write_past_an_open_one : List Operation
missed_write_past_an_open_one =
    invoke 0 (sets x 1 ∷ [])
    ∷ ok 0 (sets x 1 ∷ [])
    ∷ invoke 1 (sets y 1 ∷ [])
    ∷ invoke 2 (finds_nil x ∷ [])
    ∷ ok 2 (finds_nil x ∷ [])
    ∷ []

-- It keeps the rules of the journal, and is what the journal then holds.
missed_write_past_an_open_one-account : HasAccount missed_write_past_an_open_one (record {
  -- The one between has no completion, and keeps its place among the events.
  transactions =
      committed 0 0 1 (sets x 1 ∷ [])
      ∷ unfinished 1 2 (sets y 1 ∷ [])
      ∷ committed 2 3 4 (finds_nil x ∷ [])
      ∷ [];
  -- The open one is no node, since nobody read what it wrote.
  nodes = 0 ∷ 3 ∷ [];
  -- The open one's write is no version, since it is no node.
  pairs = nil_then x 1 ∷ [];
  -- Only the read that missed the write makes an edge.
  edges = rw_nil_edge 3 0 x 1 ∷ [];
})
missed_write_past_an_open_one-account = ((refl, refl), refl)

-- The open one is no node, so it has no edge.
missed_write_past_an_open_one-order :
    order_edges Realtime (transactions_of missed_write_past_an_open_one) ≡ realtime_edge 0 3 1 3 ∷ []
missed_write_past_an_open_one-order = refl

-- An open transaction thins nothing.
missed_write_past_an_open_one-thinned :
    thinned_edges Realtime (transactions_of missed_write_past_an_open_one) ≡ realtime_edge 0 3 1 3 ∷ []
missed_write_past_an_open_one-thinned = refl

-- As if every transaction were a node, an edge leads to the open one, and none leads from it.
missed_write_past_an_open_one-all_thinned :
    all_thinned_edges Realtime (transactions_of missed_write_past_an_open_one)
    ≡ realtime_edge 0 2 1 2
    ∷ realtime_edge 0 3 1 3
    ∷ []
missed_write_past_an_open_one-all_thinned = refl

-- forth in real time, and back since the read missed the write
abbrev missed_write_past_an_open_one_walk : List Edge
missed_write_past_an_open_one_walk = realtime_edge 0 3 1 3 ∷ rw_nil_edge 3 0 x 1 ∷ []

-- The witness is alike.
missed_write_past_an_open_one-witness : AreWitnesses Realtime missed_write_past_an_open_one missed_write_past_an_open_one_walk
missed_write_past_an_open_one-witness = witnesses Realtime missed_write_past_an_open_one (1 ∷ 0 ∷ []) missed_write_past_an_open_one_walk (refl, refl) (refl, refl, (refl, refl, tt)) refl refl refl refl refl

-- It is printed so, and as a G2-item alike.
missed_write_past_an_open_one-witness-lines : ArePrinted Realtime missed_write_past_an_open_one_walk (codes "realtime\n  T0 -realtime 1 3-> T3\n  T3 -rw :x nil 1-> T0\n")
unfolding digits
missed_write_past_an_open_one-witness-lines = (refl, refl)

-- ---- three transactions that are open at once, and what comes after them

-- three processes begin, and then all three end
abbrev three_at_once : List Operation
three_at_once = invoke 0 [] ∷ invoke 1 [] ∷ invoke 2 [] ∷ ok 0 [] ∷ ok 1 [] ∷ ok 2 [] ∷ []

-- One more transaction runs alone, and then one begins.
abbrev then_one : List Operation
then_one = three_at_once ++ invoke 3 [] ∷ ok 3 [] ∷ invoke 0 [] ∷ []

-- It keeps the rules.
then_one-legal : first_broken [] then_one ≡ None
then_one-legal = refl

-- Thinned, the three lead to the one that ran alone, and that one leads to the last.
then_one-thinned :
    all_thinned_edges Realtime (transactions_of then_one)
    ≡ realtime_edge 0 6 3 6
    ∷ realtime_edge 1 6 4 6
    ∷ realtime_edge 2 6 5 6
    ∷ realtime_edge 6 8 7 8
    ∷ []
then_one-thinned = refl

-- Within one process the one that ran alone thins nothing.
then_one-process : all_thinned_edges Process (transactions_of then_one) ≡ process_edge 0 8 0 ∷ []
then_one-process = refl

-- Not thinned, each that completed leads to each that began later.
then_one-all :
    all_order_edges Realtime (transactions_of then_one)
    ≡ realtime_edge 0 6 3 6
    ∷ realtime_edge 0 8 3 8
    ∷ realtime_edge 1 6 4 6
    ∷ realtime_edge 1 8 4 8
    ∷ realtime_edge 2 6 5 6
    ∷ realtime_edge 2 8 5 8
    ∷ realtime_edge 6 8 7 8
    ∷ []
then_one-all = refl

-- The transaction that runs alone fails.
abbrev then_a_fail : List Operation
then_a_fail = three_at_once ++ invoke 3 [] ∷ fail 3 ∷ invoke 0 [] ∷ []

-- It keeps the rules.
then_a_fail-legal : first_broken [] then_a_fail ≡ None
then_a_fail-legal = refl

-- The three lead also to the last one, since the failed one thins nothing.
then_a_fail-thinned :
    all_thinned_edges Realtime (transactions_of then_a_fail)
    ≡ realtime_edge 0 6 3 6
    ∷ realtime_edge 0 8 3 8
    ∷ realtime_edge 1 6 4 6
    ∷ realtime_edge 1 8 4 8
    ∷ realtime_edge 2 6 5 6
    ∷ realtime_edge 2 8 5 8
    ∷ []
then_a_fail-thinned = refl

-- The process edge is the same.
then_a_fail-process : all_thinned_edges Process (transactions_of then_a_fail) ≡ process_edge 0 8 0 ∷ []
then_a_fail-process = refl

-- Not thinned, each that completed leads to each that began later.
then_a_fail-all :
    all_order_edges Realtime (transactions_of then_a_fail)
    ≡ realtime_edge 0 6 3 6
    ∷ realtime_edge 0 8 3 8
    ∷ realtime_edge 1 6 4 6
    ∷ realtime_edge 1 8 4 8
    ∷ realtime_edge 2 6 5 6
    ∷ realtime_edge 2 8 5 8
    ∷ []
then_a_fail-all = refl

-- The transaction behind the three is still open, and so is one more.
abbrev then_an_open_one : List Operation
then_an_open_one = three_at_once ++ invoke 3 [] ∷ invoke 4 [] ∷ invoke 0 [] ∷ []

-- It keeps the rules.
then_an_open_one-legal : first_broken [] then_an_open_one ≡ None
then_an_open_one-legal = refl

-- The three lead to each of those that began after them.
then_an_open_one-thinned :
    all_thinned_edges Realtime (transactions_of then_an_open_one)
    ≡ realtime_edge 0 6 3 6
    ∷ realtime_edge 0 7 3 7
    ∷ realtime_edge 0 8 3 8
    ∷ realtime_edge 1 6 4 6
    ∷ realtime_edge 1 7 4 7
    ∷ realtime_edge 1 8 4 8
    ∷ realtime_edge 2 6 5 6
    ∷ realtime_edge 2 7 5 7
    ∷ realtime_edge 2 8 5 8
    ∷ []
then_an_open_one-thinned = refl

-- The process edge is the same.
then_an_open_one-process : all_thinned_edges Process (transactions_of then_an_open_one) ≡ process_edge 0 8 0 ∷ []
then_an_open_one-process = refl

-- Not thinned, each that completed leads to each that began later.
then_an_open_one-all :
    all_order_edges Realtime (transactions_of then_an_open_one)
    ≡ realtime_edge 0 6 3 6
    ∷ realtime_edge 0 7 3 7
    ∷ realtime_edge 0 8 3 8
    ∷ realtime_edge 1 6 4 6
    ∷ realtime_edge 1 7 4 7
    ∷ realtime_edge 1 8 4 8
    ∷ realtime_edge 2 6 5 6
    ∷ realtime_edge 2 7 5 7
    ∷ realtime_edge 2 8 5 8
    ∷ []
then_an_open_one-all = refl

-- ---- nodes and order edges

-- Behind an ok transaction two are open that wrote nothing.
abbrev only_open_ones_behind : List Operation
only_open_ones_behind =
    invoke 0 []
    ∷ ok 0 []
    ∷ invoke 0 []
    ∷ invoke 1 []
    ∷ []

-- It keeps the rules.
only_open_ones_behind-legal : first_broken [] only_open_ones_behind ≡ None
only_open_ones_behind-legal = refl

-- The open ones are no nodes, so nothing is ordered,
only_open_ones_behind-order : (order_edges Process (transactions_of only_open_ones_behind) ≡ []) × (order_edges Realtime (transactions_of only_open_ones_behind) ≡ [])
only_open_ones_behind-order = (refl, refl)

-- until one of them is ok.
only_open_ones_behind-then_ok :
    (order_edges Process (transactions_of (only_open_ones_behind ++ ok 0 [] ∷ [])) ≡ process_edge 0 2 0 ∷ [])
    × (order_edges Realtime (transactions_of (only_open_ones_behind ++ ok 0 [] ∷ [])) ≡ realtime_edge 0 2 1 2 ∷ [])
only_open_ones_behind-then_ok = (refl, refl)
