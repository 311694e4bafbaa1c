-- What comes before a transaction that is invoked now.
use Rattle.std.specs.Prelude.{ℕ, List}
use Rattle.process_map.specs.Values.{value_of}
use Rattle.std.specs.Option.{option_to_list}
use Rattle.order_frontier.specs.declared.types.Predecessor.{Predecessor}
use Rattle.order_frontier.specs.Predecessors.{Before}

-- the last ok one of its process, and in real time all that none has passed
abbrev pub before_next :
    (recent : List Predecessor) (last : List (ℕ × Predecessor)) (process invocation : ℕ) → Before
before_next recent last process invocation =
    record {
      process = process;
      invocation = invocation;
      in_process = option_to_list (value_of last process);
      in_realtime = recent;
    }
