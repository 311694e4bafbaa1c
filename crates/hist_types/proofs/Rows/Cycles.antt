-- Histories whose cycles are made of dependency edges alone, and one with no cycle.
use Rattle.std.proofs.Common.{◌≡◌, List, [], ◌∷◌, Some, false, codes, refl}
use Rattle.std.specs.Fmt.{digits}
use Rattle.hist_types.specs.Operations.{Operation}
use Rattle.hist_types.specs.Transactions.{transactions_of}
use Rattle.hist_types.specs.Edges.{Edge}
use Rattle.hist_types.specs.Phenomena.{makes}
use Rattle.hist_types.specs.Witness.{IsWitness}
use Rattle.hist_types.specs.Reports.{edges_report}
use Rattle.hist_types.specs.Texts.{edges_text, finding_lines}
use Rattle.hist_types.specs.declared.types.Level.TheVariants.{Plain}
use Rattle.hist_types.specs.declared.types.Phenomenon.TheVariants.{G0, G1c, GSingle, G2Item}
use Rattle.hist_types.specs.declared.types.KeyOrder.TheVariants.{Basic}
use Rattle.hist_types.proofs.Rows.History.{x, y, sets, gets, finds_nil, invoke, ok, committed, nil_then, pair, ww_edge, wr_edge, rw_nil_edge, witness, HasAccount}

-- ---- two transactions that read each other's writes

-- Each writes one key and reads what the other wrote to the other key.
abbrev pub crossed_reads : List Operation
crossed_reads =
    invoke 0 (sets x 1 ∷ finds_nil y ∷ [])
    ∷ invoke 1 (sets y 1 ∷ finds_nil x ∷ [])
    ∷ ok 0 (sets x 1 ∷ gets y 1 ∷ [])
    ∷ ok 1 (sets y 1 ∷ gets x 1 ∷ [])
    ∷ []

-- It keeps the rules of the journal, and is what the journal then holds.
crossed_reads-account : HasAccount crossed_reads (record {
  -- There are two transactions, open at once; their micro-operations are those of their completions.
  transactions =
      committed 0 0 2 (sets x 1 ∷ gets y 1 ∷ [])
      ∷ committed 1 1 3 (sets y 1 ∷ gets x 1 ∷ [])
      ∷ [];
  -- Both are ok, so both are nodes.
  nodes = 0 ∷ 1 ∷ [];
  -- nil comes before each of the two writes, and nothing else is known of the versions.
  pairs = nil_then x 1 ∷ nil_then y 1 ∷ [];
  -- Each reads what the other wrote. Neither reads nil, so there is no rw edge.
  edges = wr_edge 0 1 x 1 ∷ wr_edge 1 0 y 1 ∷ [];
})
crossed_reads-account = ((refl, refl), refl)

-- from one to the other and back
abbrev pub crossed_reads_walk : List Edge
crossed_reads_walk = wr_edge 0 1 x 1 ∷ wr_edge 1 0 y 1 ∷ []

-- A cycle of wr edges is a G1c with no order between transactions needed.
pub crossed_reads-witness : IsWitness Basic G1c Plain (transactions_of crossed_reads) crossed_reads_walk
crossed_reads-witness =
    witness Basic G1c Plain (transactions_of crossed_reads) (0 ∷ 1 ∷ []) crossed_reads_walk (refl, refl) (refl, refl, (refl, refl, tt)) refl refl refl refl

-- It is printed so.
crossed_reads-witness-lines : finding_lines (codes "G1c") (Some (record { level = Plain; walk = crossed_reads_walk })) ≡ codes "G1c plain\n  T0 -wr :x 1-> T1\n  T1 -wr :y 1-> T0\n"
unfolding digits
crossed_reads-witness-lines = refl

-- With no ww edge in it, it is no G0; with no rw edge, neither a G-single nor a G2-item.
crossed_reads-others : (makes G0 crossed_reads_walk ≡ false) × (makes GSingle crossed_reads_walk ≡ false) × (makes G2Item crossed_reads_walk ≡ false)
crossed_reads-others = (refl, refl, refl)

-- ---- two transactions that read nil and write the same key

-- Both read nil and write the key that they read.
abbrev pub updates_of_nil : List Operation
updates_of_nil =
    invoke 0 (finds_nil x ∷ sets x 1 ∷ [])
    ∷ invoke 1 (finds_nil x ∷ sets x 2 ∷ [])
    ∷ ok 0 (finds_nil x ∷ sets x 1 ∷ [])
    ∷ ok 1 (finds_nil x ∷ sets x 2 ∷ [])
    ∷ []

-- It keeps the rules of the journal, and is what the journal then holds.
updates_of_nil-account : HasAccount updates_of_nil (record {
  -- Both are open at once, and both complete.
  transactions =
      committed 0 0 2 (finds_nil x ∷ sets x 1 ∷ [])
      ∷ committed 1 1 3 (finds_nil x ∷ sets x 2 ∷ [])
      ∷ [];
  -- Both are nodes.
  nodes = 0 ∷ 1 ∷ [];
  -- nil comes before each write, once since each is a node's, and once since each follows its reader's nil.
  pairs = nil_then x 1 ∷ nil_then x 2 ∷ nil_then x 1 ∷ nil_then x 2 ∷ [];
  -- Each read nil, which came before the other's write. That nil came before its own write makes no edge. (Each rw edge
  -- stands twice in the list, as its version pair does; a list of edges is printed with each once.)
  edges = rw_nil_edge 0 1 x 2 ∷ rw_nil_edge 0 1 x 2 ∷ rw_nil_edge 1 0 x 1 ∷ rw_nil_edge 1 0 x 1 ∷ [];
})
updates_of_nil-account = ((refl, refl), refl)

-- Each of the two edges is printed once.
updates_of_nil-text : edges_text (edges_report Basic updates_of_nil) ≡ codes "prefix 4\ntxns 2\nT0 -rw :x nil 2-> T1\nT1 -rw :x nil 1-> T0\nedges 2\n"
unfolding digits
updates_of_nil-text = refl

-- from one to the other and back
abbrev pub updates_of_nil_walk : List Edge
updates_of_nil_walk = rw_nil_edge 0 1 x 2 ∷ rw_nil_edge 1 0 x 1 ∷ []

-- A cycle with rw edges is a G2-item.
pub updates_of_nil-witness : IsWitness Basic G2Item Plain (transactions_of updates_of_nil) updates_of_nil_walk
updates_of_nil-witness =
    witness Basic G2Item Plain (transactions_of updates_of_nil) (0 ∷ 2 ∷ []) updates_of_nil_walk (refl, refl) (refl, refl, (refl, refl, tt)) refl refl refl refl

-- It is printed so.
updates_of_nil-witness-lines : finding_lines (codes "G2-item") (Some (record { level = Plain; walk = updates_of_nil_walk })) ≡ codes "G2-item plain\n  T0 -rw :x nil 2-> T1\n  T1 -rw :x nil 1-> T0\n"
unfolding digits
updates_of_nil-witness-lines = refl

-- With two rw edges it is no G-single, which has exactly one.
updates_of_nil-not_single : makes GSingle updates_of_nil_walk ≡ false
updates_of_nil-not_single = refl

-- ---- two transactions that read each other's first writes and write over them

-- Each writes one key, reads the other key with what the other one wrote, and writes over that.
abbrev pub crossed_updates : List Operation
crossed_updates =
    invoke 0 (sets x 1 ∷ finds_nil y ∷ sets y 2 ∷ [])
    ∷ invoke 1 (sets y 1 ∷ finds_nil x ∷ sets x 2 ∷ [])
    ∷ ok 0 (sets x 1 ∷ gets y 1 ∷ sets y 2 ∷ [])
    ∷ ok 1 (sets y 1 ∷ gets x 1 ∷ sets x 2 ∷ [])
    ∷ []

-- It keeps the rules of the journal, and is what the journal then holds.
crossed_updates-account : HasAccount crossed_updates (record {
  -- Both are open at once, and both complete.
  transactions =
      committed 0 0 2 (sets x 1 ∷ gets y 1 ∷ sets y 2 ∷ [])
      ∷ committed 1 1 3 (sets y 1 ∷ gets x 1 ∷ sets x 2 ∷ [])
      ∷ [];
  -- Both are nodes.
  nodes = 0 ∷ 1 ∷ [];
  -- nil comes before all four writes. A write follows what its transaction read of its key: 1 comes before 2 at both
  -- keys.
  pairs = nil_then x 1 ∷ nil_then y 2 ∷ nil_then y 1 ∷ nil_then x 2 ∷ pair y 1 2 ∷ pair x 1 2 ∷ [];
  -- At x the first one's write comes before the second one's, which also read it; at y it is the other way round.
  edges = ww_edge 0 1 x 1 2 ∷ wr_edge 0 1 x 1 ∷ ww_edge 1 0 y 1 2 ∷ wr_edge 1 0 y 1 ∷ [];
})
crossed_updates-account = ((refl, refl), refl)

-- The edges are printed so: by transactions, and ww before wr.
crossed_updates-text : edges_text (edges_report Basic crossed_updates) ≡ codes "prefix 4\ntxns 2\nT0 -ww :x 1 2-> T1\nT0 -wr :x 1-> T1\nT1 -ww :y 1 2-> T0\nT1 -wr :y 1-> T0\nedges 4\n"
unfolding digits
crossed_updates-text = refl

-- over the writes alone
abbrev pub ww_walk : List Edge
ww_walk = ww_edge 0 1 x 1 2 ∷ ww_edge 1 0 y 1 2 ∷ []

-- A cycle of ww edges is a G0.
pub crossed_updates-g0 : IsWitness Basic G0 Plain (transactions_of crossed_updates) ww_walk
crossed_updates-g0 =
    witness Basic G0 Plain (transactions_of crossed_updates) (0 ∷ 2 ∷ []) ww_walk (refl, refl) (refl, refl, (refl, refl, tt)) refl refl refl refl

-- It is printed so.
crossed_updates-g0-lines : finding_lines (codes "G0") (Some (record { level = Plain; walk = ww_walk })) ≡ codes "G0 plain\n  T0 -ww :x 1 2-> T1\n  T1 -ww :y 1 2-> T0\n"
unfolding digits
crossed_updates-g0-lines = refl

-- It is no G1c, which asks for a wr edge.
crossed_updates-g0_only : makes G1c ww_walk ≡ false
crossed_updates-g0_only = refl

-- back over a read
abbrev pub read_back_walk : List Edge
read_back_walk = ww_edge 0 1 x 1 2 ∷ wr_edge 1 0 y 1 ∷ []

-- With a wr edge the cycle is a G1c.
pub crossed_updates-read_back : IsWitness Basic G1c Plain (transactions_of crossed_updates) read_back_walk
crossed_updates-read_back =
    witness Basic G1c Plain (transactions_of crossed_updates) (0 ∷ 3 ∷ []) read_back_walk (refl, refl) (refl, refl, (refl, refl, tt)) refl refl refl refl

-- It is printed so.
crossed_updates-read_back-lines : finding_lines (codes "G1c") (Some (record { level = Plain; walk = read_back_walk })) ≡ codes "G1c plain\n  T0 -ww :x 1 2-> T1\n  T1 -wr :y 1-> T0\n"
unfolding digits
crossed_updates-read_back-lines = refl

-- forth over a read
abbrev read_forth_walk : List Edge
read_forth_walk = wr_edge 0 1 x 1 ∷ ww_edge 1 0 y 1 2 ∷ []

-- With a wr edge the cycle is a G1c.
crossed_updates-read_forth : IsWitness Basic G1c Plain (transactions_of crossed_updates) read_forth_walk
crossed_updates-read_forth =
    witness Basic G1c Plain (transactions_of crossed_updates) (1 ∷ 2 ∷ []) read_forth_walk (refl, refl) (refl, refl, (refl, refl, tt)) refl refl refl refl

-- It is printed so.
crossed_updates-read_forth-lines : finding_lines (codes "G1c") (Some (record { level = Plain; walk = read_forth_walk })) ≡ codes "G1c plain\n  T0 -wr :x 1-> T1\n  T1 -ww :y 1 2-> T0\n"
unfolding digits
crossed_updates-read_forth-lines = refl

-- over reads alone
abbrev read_both_ways_walk : List Edge
read_both_ways_walk = wr_edge 0 1 x 1 ∷ wr_edge 1 0 y 1 ∷ []

-- With a wr edge the cycle is a G1c.
crossed_updates-read_both_ways : IsWitness Basic G1c Plain (transactions_of crossed_updates) read_both_ways_walk
crossed_updates-read_both_ways =
    witness Basic G1c Plain (transactions_of crossed_updates) (1 ∷ 3 ∷ []) read_both_ways_walk (refl, refl) (refl, refl, (refl, refl, tt)) refl refl refl refl

-- It is printed so.
crossed_updates-read_both_ways-lines : finding_lines (codes "G1c") (Some (record { level = Plain; walk = read_both_ways_walk })) ≡ codes "G1c plain\n  T0 -wr :x 1-> T1\n  T1 -wr :y 1-> T0\n"
unfolding digits
crossed_updates-read_both_ways-lines = refl

-- A walk with a wr edge is no G0.
crossed_updates-not_g0 : (makes G0 read_back_walk ≡ false) × (makes G0 read_forth_walk ≡ false) × (makes G0 read_both_ways_walk ≡ false)
crossed_updates-not_g0 = (refl, refl, refl)

-- ---- an update that is read by the next one

-- One reads nil and writes, and the next one reads that and writes again.
abbrev pub chained_updates : List Operation
chained_updates =
    invoke 0 (finds_nil x ∷ sets x 1 ∷ [])
    ∷ ok 0 (finds_nil x ∷ sets x 1 ∷ [])
    ∷ invoke 1 (finds_nil x ∷ sets x 2 ∷ [])
    ∷ ok 1 (gets x 1 ∷ sets x 2 ∷ [])
    ∷ []

-- It keeps the rules of the journal, and is what the journal then holds.
chained_updates-account : HasAccount chained_updates (record {
  -- The first one is over before the second one begins.
  transactions =
      committed 0 0 1 (finds_nil x ∷ sets x 1 ∷ [])
      ∷ committed 1 2 3 (gets x 1 ∷ sets x 2 ∷ [])
      ∷ [];
  -- Both are nodes.
  nodes = 0 ∷ 2 ∷ [];
  -- nil comes before both writes, twice before the first one, whose writer read nil; and 1 comes before 2.
  pairs = nil_then x 1 ∷ nil_then x 2 ∷ nil_then x 1 ∷ pair x 1 2 ∷ [];
  -- All edges lead to the second one. The first one read nil and wrote 1, so nil before 1 would join it to itself, which
  -- is no edge.
  edges = ww_edge 0 2 x 1 2 ∷ wr_edge 0 2 x 1 ∷ rw_nil_edge 0 2 x 2 ∷ [];
})
chained_updates-account = ((refl, refl), refl)

-- The edges are printed so, each once.
chained_updates-text : edges_text (edges_report Basic chained_updates) ≡ codes "prefix 4\ntxns 2\nT0 -ww :x 1 2-> T2\nT0 -wr :x 1-> T2\nT0 -rw :x nil 2-> T2\nedges 3\n"
unfolding digits
chained_updates-text = refl
