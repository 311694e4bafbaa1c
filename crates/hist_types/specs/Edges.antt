-- Edges between transactions (Adya's dependencies, over inferred version orders as in Elle; order
-- edges are this project's own).
--
-- They lie between different nodes only:
--     wr         from T to U   T installs a version that U reads
--     ww         from T to U   T installs the earlier version of a pair, and U the later one
--     rw         from T to U   T reads the earlier version of a pair, and U installs the later one
--     process    from T to U   T is ok and completed before U was invoked, both in one process
--     realtime   from T to U   T is ok and completed before U was invoked, in one process or in two
-- All pairs of transactions are meant: nothing is thinned, and nothing closed.
use Rattle.std.specs.Prelude.{ℕ, List, [], ◌∷◌, ◌++◌, Bool, false, ◌&&◌, ◌==◌, nat_lt, if◌then◌else◌, Option, Some, None, filter, map, flat_map}
use Rattle.std.specs.Option.{option_map_or}
use Rattle.hist_types.specs.Transactions.{Transaction, Version, is_ok, nodes, installed_by, is_known_to_read, installs}
use Rattle.hist_types.specs.Versions.{VersionPair, version_pairs}
use Rattle.hist_types.specs.declared.types.Level.{Level}
use Rattle.hist_types.specs.declared.types.Level.TheVariants.{Plain, Process, Realtime}
use Rattle.hist_types.specs.declared.types.KeyOrder.{KeyOrder}

-- why there is an edge
pub data Label : Type 0 where
  ww : (earlier later : Version) → Label
  wr : (version : Version) → Label
  rw : (earlier later : Version) → Label
  process : (process : ℕ) → Label
  -- the index of the first one's completion, and of the second one's invocation
  realtime : (completion invocation : ℕ) → Label

-- an edge between two transactions, named by the indexes of their invocations
pub record Edge : Type 0 where
  pub from : ℕ
  pub to : ℕ
  pub label : Label

abbrev pub edge : Transaction → Transaction → Label → Edge
edge t u label = record { from = t.invocation; to = u.invocation; label = label }

-- ---- dependency edges, from a transaction to another one

abbrev pub wr_labels : Transaction → Transaction → List Label
wr_labels t u = map wr (filter (is_known_to_read u) (installed_by t))

-- (nobody installs nil, so it is the earlier version of no ww edge)
abbrev pub ww_labels : List VersionPair → Transaction → Transaction → List Label
ww_labels pairs t u =
    map (λ (p : VersionPair). ww p.earlier p.later)
    (filter (λ p. installs t p.earlier && installs u p.later) pairs)

abbrev pub rw_labels : List VersionPair → Transaction → Transaction → List Label
rw_labels pairs t u =
    map (λ (p : VersionPair). rw p.earlier p.later)
    (filter (λ p. is_known_to_read t p.earlier && installs u p.later) pairs)

abbrev pub dependency_labels : List VersionPair → Transaction → Transaction → List Label
dependency_labels pairs t u = ww_labels pairs t u ++ wr_labels t u ++ rw_labels pairs t u

-- what f gives for each two different transactions, in both orders
abbrev pub between_each : List Transaction → (Transaction → Transaction → List Label) → List Edge
between_each ts f =
    flat_map (λ (t : Transaction). flat_map (λ (u : Transaction).
    if t.invocation == u.invocation then [] else map (edge t u) (f t u)) ts) ts

abbrev pub dependency_edges : KeyOrder → List Transaction → List Edge
dependency_edges keys ts = between_each (nodes ts) (dependency_labels (version_pairs keys ts))

-- ---- order edges

abbrev pub completed_before : Transaction → Transaction → Bool
completed_before t u =
    option_map_or (λ completion. nat_lt completion u.invocation) t.completion false

abbrev pub is_ok_before : Transaction → Transaction → Bool
is_ok_before t u = is_ok t && completed_before t u

abbrev pub same_process : Transaction → Transaction → Bool
same_process t u = t.process == u.process

abbrev pub process_labels : Transaction → Transaction → List Label
process_labels t u = if is_ok_before t u && same_process t u then process t.process ∷ [] else []

abbrev pub realtime_label : Option ℕ → ℕ → List Label
realtime_label None invocation = []
realtime_label (Some completion) invocation = realtime completion invocation ∷ []

abbrev pub realtime_labels : Transaction → Transaction → List Label
realtime_labels t u = if is_ok_before t u then realtime_label t.completion u.invocation else []

-- which order edges a level has
abbrev pub order_labels : Level → Transaction → Transaction → List Label
order_labels Plain t u = []
order_labels Process t u = process_labels t u
order_labels Realtime t u = realtime_labels t u

-- the order edges as if every transaction were a node
abbrev pub all_order_edges : Level → List Transaction → List Edge
all_order_edges level ts = between_each ts (order_labels level)

-- their first ends are ok and so are nodes
abbrev pub order_edges : Level → List Transaction → List Edge
order_edges level ts = between_each (nodes ts) (order_labels level)

-- all edges that a cycle at the level may use
abbrev pub edges_at : KeyOrder → Level → List Transaction → List Edge
edges_at keys level ts = dependency_edges keys ts ++ order_edges level ts
