-- Walks that carry over from one set of edges to another, with as many ww, wr and rw edges: the
-- words of the laws about them.
use Rattle.std.specs.Prelude.{◌≡◌, ℕ, List, ◌++◌, All, Contains, count_by}
use Rattle.hist_types.specs.Operations.{Operation}
use Rattle.hist_types.specs.Transactions.{Transaction, transactions_of}
use Rattle.hist_types.specs.Edges.{Edge}
use Rattle.hist_types.specs.declared.types.Level.{Level}
use Rattle.hist_types.specs.Phenomena.{Leads, IsClosedWalk, is_ww, is_wr, is_rw}
use Rattle.history_laws.specs.Paths.{IncludesAllOk, order_edges_between, thinned_edges_between}

-- as many edges of each dependency kind
pub record SameCounts (walk other : List Edge) : Type 0 where
  pub ww : count_by is_ww walk ≡ count_by is_ww other
  pub wr : count_by is_wr walk ≡ count_by is_wr other
  pub rw : count_by is_rw walk ≡ count_by is_rw other

-- some walk along these edges, from one transaction to the other, has the same counts
abbrev pub HasLikeWalk : List Edge → (from to : ℕ) → List Edge → Type 0
HasLikeWalk es from to walk =
    (other : List Edge) × Leads from other to × All (Contains es) other × SameCounts walk other

-- some closed walk along these edges has the same counts
abbrev pub HasLikeClosedWalk : List Edge → List Edge → Type 0
HasLikeClosedWalk es walk =
    (other : List Edge) × IsClosedWalk other × All (Contains es) other × SameCounts walk other

-- Each walk along these edges has one along the others with the same ends and the same counts, and
-- each closed walk has a closed one.
pub record WalksCarryOver (es others : List Edge) : Type 0 where
  pub walks :
      (from to : ℕ) (walk : List Edge)
      → Leads from walk to
      → All (Contains es) walk
      → HasLikeWalk others from to walk
  pub closed :
      (walk : List Edge)
      → IsClosedWalk walk
      → All (Contains es) walk
      → HasLikeClosedWalk others walk

-- walks carry over from the first edges to the second, with any other edges beside both
abbrev pub WalksCarryOverBeside : List Edge → List Edge → Type 0
WalksCarryOverBeside es more = (others : List Edge) → WalksCarryOver (others ++ es) (others ++ more)

-- from order edges between nodes with all ok transactions of the history to thinned ones
abbrev pub WalksCarryToThinned : Level → List Operation → Type 0
WalksCarryToThinned level events =
    let ts = transactions_of events in
    (ns : List Transaction)
    → IncludesAllOk ts ns
    → WalksCarryOverBeside (order_edges_between level ns) (thinned_edges_between level ts ns)

-- from thinned edges between any transactions to order edges
abbrev pub WalksCarryToOrder : Level → List Transaction → Type 0
WalksCarryToOrder level ts =
    (ns : List Transaction)
    → WalksCarryOverBeside (thinned_edges_between level ts ns) (order_edges_between level ns)

-- from order edges of the lower level to those of the higher one
abbrev pub WalksCarryUp : (lower higher : Level) → Type 0
WalksCarryUp lower higher =
    (ns : List Transaction)
    → WalksCarryOverBeside (order_edges_between lower ns) (order_edges_between higher ns)
