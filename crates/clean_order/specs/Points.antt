-- Serialization points (after Herlihy and Wing's linearization points; the form is this project's
-- own).
--
-- Each transaction has a point, at which it starts and commits: that of a node not before its
-- invocation and, if it is ok, not after its completion, so that each edge leads to a later point. So
-- a history with such points has no cycle at any level.
--
-- An event has 2 ^ 32 points, from its index times 2 ^ 32 on, so that many transactions may have
-- theirs between it and the next event.
use Rattle.std.specs.Prelude.{◌≡◌, ◌≤◌, ◌<◌, ℕ, ◌+◌, ◌*◌, ◌^◌, List, Some, IsTrue}
use Rattle.hist_types.specs.Transactions.{Transaction, is_ok}
use Rattle.hist_types.specs.declared.types.KeyOrder.{KeyOrder}
use Rattle.schedules.specs.Schedules.{Schedule, Keeps}
use Rattle.schedules.specs.declared.types.TheConstants.EdgeKinds.{ALL}

-- the first point of the event with this index
abbrev pub point_at : (index : ℕ) → ℕ
point_at index = index * 2 ^ 32

-- the point is not before the transaction's invocation
abbrev pub IsNotBefore : (point : ℕ) → Transaction → Type 0
IsNotBefore point t = point_at t.invocation ≤ point

-- if the transaction is ok, the point is not after its completion
abbrev pub IsNotAfter : (point : ℕ) → Transaction → Type 0
IsNotAfter point t =
    (completion : ℕ)
    → IsTrue (is_ok t)
    → t.completion ≡ Some completion
    → point < point_at (completion + 1)

-- the serial schedule by points, which are those of transactions by the index of their invocations
abbrev pub at_points : (point : ℕ → ℕ) → Schedule
at_points point = record { start = point; commit = point; clock = point_at }

-- it keeps each edge
abbrev pub ArePoints : KeyOrder → List Transaction → (point : ℕ → ℕ) → Type 0
ArePoints keys ts point = Keeps keys ALL ts (at_points point)
