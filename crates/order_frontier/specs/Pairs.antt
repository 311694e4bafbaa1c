-- All that comes before a transaction.
use Rattle.std.specs.Prelude.{List, Bool, not, ◌&&◌, ◌==◌, nat_lt, map, filter}
use Rattle.hist_types.specs.Transactions.{Transaction}
use Rattle.order_frontier.specs.declared.types.Completed.{Completed}
use Rattle.order_frontier.specs.Completions.{predecessor_of}
use Rattle.order_frontier.specs.Predecessors.{Before}

-- whether another transaction completed before one was invoked
abbrev pub is_earlier : Transaction → Completed → Bool
is_earlier u d = nat_lt d.completion u.invocation && not (d.invocation == u.invocation)

abbrev pub all_before : List Completed → Transaction → Before
all_before done u =
    record {
      process = u.process;
      invocation = u.invocation;
      in_process = map predecessor_of
          (filter (λ (d : Completed). is_earlier u d && (d.process == u.process)) done);
      in_realtime = map predecessor_of (filter (is_earlier u) done);
    }
