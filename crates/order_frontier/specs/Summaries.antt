-- What a frontier keeps of events: in place of their list, what the events to come need of it.
use Rattle.std.specs.Prelude.{◌≡◌, nat_eq, ℕ, List, [], ◌∷◌, ◌++◌, length}
use Rattle.std.specs.Map.{lookup}
use Rattle.hist_types.specs.Operations.{Mop, Operation}
use Rattle.hist_types.specs.Transactions.{transactions_of}
use Rattle.hist_types.specs.declared.types.OpKind.{OpKind}
use Rattle.hist_types.specs.declared.types.OpKind.TheVariants as kinds
use Rattle.order_frontier.specs.declared.types.Predecessor.{Predecessor}
use Rattle.order_frontier.specs.Events.{IsStateOf, event_of}
use Rattle.order_frontier.specs.Predecessors.{Before, HasThinned, NoPredecessorTwice, AreFrontier}

pub record Summary : Type 0 where
  -- how many events there were
  pub events : ℕ
  -- processes, each with the invocation that it has open
  pub opened : List (ℕ × ℕ)
  -- the ok transactions that none has passed
  pub recent : List Predecessor
  -- processes, each with its last ok transaction
  pub last : List (ℕ × Predecessor)

pub record IsSummaryOf (events : List Operation) (s : Summary) : Type 0 where
  pub count : s.events ≡ length events
  pub state :
      IsStateOf events (λ p. lookup (nat_eq p) s.opened) s.recent (λ p. lookup (nat_eq p) s.last)

-- whatever the events, these and one more of the process
abbrev pub IsNext : OpKind → (process : ℕ) → Summary → Summary → Type 0
IsNext kind process s next =
    (events : List Operation) (mops : List Mop)
    → IsSummaryOf events s
    → IsSummaryOf (events ++ event_of kind process mops ∷ []) next

-- whatever the events, the same ones
abbrev pub IsOfSame : Summary → Summary → Type 0
IsOfSame s other = (events : List Operation) → IsSummaryOf events s → IsSummaryOf events other

-- whatever the events, the ok transactions of these that none has passed, in order
abbrev pub AreFrontierOf : Summary → List Predecessor → Type 0
AreFrontierOf s ps =
    (events : List Operation) → IsSummaryOf events s → AreFrontier (transactions_of events) ps

-- whatever the events, the thinned predecessors of a transaction that the process invokes next,
-- each once
abbrev pub AreThinnedNext : Summary → (process : ℕ) → Before → Type 0
AreThinnedNext s process before =
    (events : List Operation) (mops : List Mop) → IsSummaryOf events s
    → HasThinned (transactions_of (events ++ event_of kinds.Invoke process mops ∷ [])) before
    × NoPredecessorTwice before
