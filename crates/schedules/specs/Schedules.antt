-- Schedules (starts and commits as in Adya's thesis; the form is this project's own).
--
-- A schedule gives each transaction a start, when it takes its snapshot, and a commit, which is not
-- before the start. It keeps a ww or wr edge if the first transaction commits before the second one
-- starts, and an rw edge if the first one starts before the second one commits.
--
-- It keeps order edges by a clock that never goes back: no node starts before what the clock shows
-- at its invocation, and an ok transaction commits before what it shows after its completion. So
-- what completed before a node was invoked commits before that node starts.
--
-- A schedule is serial if each transaction commits when it starts.
use Rattle.std.specs.Prelude.{◌≡◌, ◌<◌, ◌≤◌, ℕ, ◌+◌, List, if◌then◌else◌, Bool, Some, Contains, IsTrue}
use Rattle.hist_types.specs.Edges.{Label, ww, wr, rw, process, realtime, Edge, dependency_edges}
use Rattle.hist_types.specs.Phenomena.{is_rw}
use Rattle.hist_types.specs.Transactions.{Transaction, is_ok, nodes}
use Rattle.hist_types.specs.declared.types.KeyOrder.{KeyOrder}
use Rattle.schedules.specs.declared.types.EdgeKinds.{EdgeKinds}

pub record Schedule : Type 0 where
  -- of a transaction, by the index of its invocation
  pub start : ℕ → ℕ
  pub commit : ℕ → ℕ
  -- what the clock shows after so many events
  pub clock : ℕ → ℕ

-- an edge leaves a transaction at its commit, and an rw edge at its start
abbrev pub leaves : Schedule → Edge → ℕ
leaves s e = if is_rw e then s.start e.from else s.commit e.from

-- it arrives at the other one's start, and an rw edge at its commit
abbrev pub arrives : Schedule → Edge → ℕ
arrives s e = if is_rw e then s.commit e.to else s.start e.to

abbrev pub IsKept : Schedule → Edge → Type 0
IsKept s e = leaves s e < arrives s e

-- whether edges with the label are of one of these kinds
abbrev pub is_of : EdgeKinds → Label → Bool
is_of kinds (ww earlier later) = kinds.ww
is_of kinds (wr version) = kinds.wr
is_of kinds (rw earlier later) = kinds.rw
is_of kinds (process p) = kinds.order
is_of kinds (realtime completion invocation) = kinds.order

pub record IsInTime (ts : List Transaction) (s : Schedule) : Type 0 where
  pub clock : (m n : ℕ) → m ≤ n → s.clock m ≤ s.clock n
  pub begun :
      (t : Transaction)
      → Contains (nodes ts) t
      → s.clock t.invocation ≤ s.start t.invocation
  pub ended :
      (t : Transaction)
      → Contains (nodes ts) t
      → (completion : ℕ)
      → IsTrue (is_ok t)
      → t.completion ≡ Some completion
      → s.commit t.invocation < s.clock (completion + 1)

-- the schedule keeps the history's edges of these kinds
pub record Keeps (keys : KeyOrder) (kinds : EdgeKinds) (ts : List Transaction) (s : Schedule) :
    Type 0 where
  pub first : (n : ℕ) → s.start n ≤ s.commit n
  pub dependencies :
      (e : Edge)
      → Contains (dependency_edges keys ts) e
      → IsTrue (is_of kinds e.label)
      → IsKept s e
  pub order : IsTrue kinds.order → IsInTime ts s

abbrev pub IsSerial : Schedule → Type 0
IsSerial s = (n : ℕ) → s.commit n ≤ s.start n
