-- What comes before each transaction, and the order edges that this gives.
use Rattle.std.specs.Prelude.{◌≡◌, nat_eq, ℕ, unwrap_or, slice_get, List, [], map, flat_map, fold, All, Contains, ◌↔◌}
use Rattle.std.specs.List.{IsDistinct}
use Rattle.std.specs.List.Sorted.{IsStrictlyIncreasing}
use Rattle.hist_types.specs.Operations.{Operation}
use Rattle.hist_types.specs.Lists.{HasExactly}
use Rattle.hist_types.specs.Transactions.{Transaction, transactions_of}
use Rattle.hist_types.specs.Edges.{process, realtime, Edge, all_order_edges}
use Rattle.hist_types.specs.ThinnedOrder.{all_thinned_edges}
use Rattle.hist_types.specs.declared.types.Level.{Level}
use Rattle.hist_types.specs.declared.types.Level.TheVariants.{Plain, Process, Realtime}
use Rattle.order_frontier.specs.declared.types.Predecessor.{Predecessor}
use Rattle.order_frontier.specs.Completions.{all_completed, frontier_of}

-- a transaction, by its process and the index of its invocation, and what comes before it in its
-- process and in real time
pub record Before : Type 0 where
  pub process : ℕ
  pub invocation : ℕ
  pub in_process : List Predecessor
  pub in_realtime : List Predecessor

-- the one at a place
abbrev pub before_at : List Before → ℕ → Before
before_at order place =
    unwrap_or (slice_get order place)
    (record { process = 0; invocation = 0; in_process = []; in_realtime = [] })

abbrev pub process_edge : (process invocation : ℕ) → Predecessor → Edge
process_edge number invocation p =
    record { from = p.invocation; to = invocation; label = process number }

abbrev pub realtime_edge : (invocation : ℕ) → Predecessor → Edge
realtime_edge invocation p =
    record { from = p.invocation; to = invocation; label = realtime p.completion invocation }

-- the edges of the level from a transaction's predecessors to it
abbrev pub edges_to : Level → Before → List Edge
edges_to Plain u = []
edges_to Process u = map (process_edge u.process u.invocation) u.in_process
edges_to Realtime u = map (realtime_edge u.invocation) u.in_realtime

abbrev pub edges_of : Level → List Before → List Edge
edges_of level order = flat_map (edges_to level) order

-- exactly these edges, at each level
abbrev pub HasEdges : List Before → (Level → List Edge) → Type 0
HasEdges order edges =
    (level : Level) (e : Edge) → Contains (edges_of level order) e ↔ Contains (edges level) e

-- all order edges of the transactions, or the thinned ones, as if every transaction were a node
abbrev pub HasOrderEdges : List Transaction → List Before → Type 0
HasOrderEdges ts order = HasEdges order (λ level. all_order_edges level ts)

abbrev pub HasThinnedEdges : List Transaction → List Before → Type 0
HasThinnedEdges ts order = HasEdges order (λ level. all_thinned_edges level ts)

-- what comes before the last transaction in real time
abbrev pub last_realtime : List Before → List Predecessor
last_realtime order = fold (λ ps (u : Before). u.in_realtime) [] order

-- exactly the thinned edges to the one transaction
abbrev pub HasThinned : List Transaction → Before → Type 0
HasThinned ts u =
    (level : Level) (e : Edge)
    → Contains (edges_to level u) e
    ↔ (Contains (all_thinned_edges level ts) e × (e.to ≡ u.invocation))

abbrev pub AreDistinct : List Predecessor → Type 0
AreDistinct ps = IsDistinct nat_eq (map (λ (p : Predecessor). p.invocation) ps)

-- no predecessor is listed twice
abbrev pub NoPredecessorTwice : Before → Type 0
NoPredecessorTwice u = AreDistinct u.in_process × AreDistinct u.in_realtime

-- a transaction's process and the index of its invocation
abbrev pub name_of : Transaction → ℕ × ℕ
name_of t = (t.process, t.invocation)

abbrev pub names : List Before → List (ℕ × ℕ)
names order = map (λ (u : Before). (u.process, u.invocation)) order

-- the thinned order of the transactions, with each predecessor once
abbrev pub IsThinnedOrder : List Transaction → List Before → Type 0
IsThinnedOrder ts order =
    HasThinnedEdges ts order × All NoPredecessorTwice order × (names order ≡ map name_of ts)

-- the transactions are those of some events
abbrev pub AreOfEvents : List Transaction → Type 0
AreOfEvents ts = (events : List Operation) × (ts ≡ transactions_of events)

-- each completed before the next
abbrev pub AreCompletedInOrder : List Predecessor → Type 0
AreCompletedInOrder ps = IsStrictlyIncreasing (map (λ (p : Predecessor). p.completion) ps)

-- exactly the ok transactions that none of them has passed, each once and in the order of their
-- completions
pub record AreFrontier (ts : List Transaction) (ps : List Predecessor) : Type 0 where
  pub members : HasExactly ps (Contains (frontier_of (all_completed ts)))
  pub order : AreCompletedInOrder ps
