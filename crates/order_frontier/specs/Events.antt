-- The ok transactions of events, and what each process has open, event by event.
use Rattle.std.specs.Prelude.{◌≡◌, ℕ, ◌+◌, List, [], ◌∷◌, ◌++◌, ◌==◌, if◌then◌else◌, Option, Some, None, fold}
use Rattle.hist_types.specs.Operations.{Mop, Operation}
use Rattle.hist_types.specs.Journal.{is_invoke}
use Rattle.hist_types.specs.declared.types.OpKind.{OpKind}
use Rattle.hist_types.specs.declared.types.OpKind.TheVariants as kinds
use Rattle.order_frontier.specs.declared.types.Predecessor.{Predecessor}
use Rattle.order_frontier.specs.declared.types.Completed.{Completed}
use Rattle.order_frontier.specs.Completions.{AreKept}

pub record State : Type 0 where
  pub index : ℕ
  -- the invocation that a process has open
  pub opened : ℕ → Option ℕ
  pub done : List Completed

-- the ok transaction that an event with this index completes
abbrev pub done_by : OpKind → (process index : ℕ) → (invocation : Option ℕ) → List Completed
done_by kinds.Ok process index (Some invocation) =
    record { completion = index; invocation = invocation; process = process } ∷ []
done_by kind process index invocation = []

abbrev pub after : State → Operation → State
after s e =
    if is_invoke e.kind
    then record {
      index = s.index + 1;
      opened = λ p. if e.process == p then Some s.index else s.opened p;
      done = s.done;
    }
    else record {
      index = s.index + 1;
      opened = λ p. if e.process == p then None else s.opened p;
      done = s.done ++ done_by e.kind e.process s.index (s.opened e.process);
    }

abbrev pub start : State
start = record { index = 0; opened = λ p. None; done = [] }

abbrev pub state_of : List Operation → State
state_of events = fold after start events

abbrev pub event_of : OpKind → (process : ℕ) → List Mop → Operation
event_of kind process mops = record { kind = kind; process = process; mops = mops }

-- what is kept is the state after the events
pub record IsStateOf (events : List Operation) (opened : ℕ → Option ℕ) (recent : List Predecessor)
    (last : ℕ → Option Predecessor) : Type 0 where
  pub invocations : (process : ℕ) → opened process ≡ (state_of events).opened process
  pub kept : AreKept (state_of events).done recent last
