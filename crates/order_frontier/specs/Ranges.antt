-- Predecessors, as ranges of lists.
use mathlib.Core.List.{IsSuffix}
use Rattle.std.specs.Prelude.{◌≡◌, ◌≤◌, List, length, slice_range, map, All}
use Rattle.order_frontier.specs.declared.types.Predecessor.{Predecessor}
use Rattle.order_frontier.specs.declared.types.Span.{Span}
use Rattle.order_frontier.specs.declared.types.Row.{Row}
use Rattle.order_frontier.specs.Predecessors.{Before, last_realtime}

-- those of a range
abbrev pub between : List Predecessor → Span → List Predecessor
between items s = slice_range items s.start s.end

-- a transaction, with what comes before it in two lists: one for its process and one for real time
abbrev pub before_in : List Predecessor → List Predecessor → Row → Before
before_in own others r =
    record {
      process = r.process;
      invocation = r.invocation;
      in_process = between own r.in_process;
      in_realtime = between others r.in_realtime;
    }

pub record IsSpanOf (items : List Predecessor) (s : Span) : Type 0 where
  pub rising : s.start ≤ s.end
  pub within : s.end ≤ length items

-- in range, and these
abbrev pub IsRangeOf : List Predecessor → Span → List Predecessor → Type 0
IsRangeOf items s ps = IsSpanOf items s × (between items s ≡ ps)

abbrev pub IsRowIn : List Predecessor → List Predecessor → Row → Type 0
IsRowIn own others r = IsSpanOf own r.in_process × IsSpanOf others r.in_realtime

-- the row has ranges of the lists, and says what comes before this transaction
abbrev pub IsRowOf : List Predecessor → List Predecessor → Row → Before → Type 0
IsRowOf own others r u = IsRowIn own others r × (before_in own others r ≡ u)

-- rows of the lists, of which the one for real time ends with what the last row has
pub record AreRowsOf (own others : List Predecessor) (rows : List Row) : Type 0 where
  pub ranges : All (IsRowIn own others) rows
  pub end : IsSuffix (last_realtime (map (before_in own others) rows)) others
