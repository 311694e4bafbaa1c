-- The thinned order of events so far, kept while more of them come.
--
-- What comes before a transaction in thinned order is settled when it is invoked: whether another
-- one completed before that as an ok, and whether one passed it, is known by then, and no later
-- event changes it.
use Rattle.std.specs.Prelude.{◌≡◌, ℕ, List, [], ◌∷◌, ◌++◌, length, map, All, Contains, Some, IsTrue}
use Rattle.process_map.specs.Values.{value_of}
use Rattle.hist_types.specs.Operations.{Operation}
use Rattle.hist_types.specs.Transactions.{Transaction, is_ok, transactions_of}
use Rattle.order_frontier.specs.declared.types.Predecessor.{Predecessor}
use Rattle.order_frontier.specs.Completions.{AreKept}
use Rattle.order_frontier.specs.Events.{state_of}
use Rattle.order_frontier.specs.Latest.{before_next}
use Rattle.order_frontier.specs.Predecessors.{Before, HasThinned, NoPredecessorTwice, name_of, names}

pub record Thinned : Type 0 where
  -- the ok transactions that none has passed
  pub recent : List Predecessor
  -- processes, each with its last ok transaction
  pub last : List (ℕ × Predecessor)
  -- each transaction, with what comes before it
  pub order : List Before

-- this is the thinned order of the events so far, and what the events to come need of it
pub record IsThinningOf (events : List Operation) (s : Thinned) : Type 0 where
  pub kept : AreKept (state_of events).done s.recent (value_of s.last)
  pub thinned : All (HasThinned (transactions_of events)) s.order
  pub once : All NoPredecessorTwice s.order
  pub names : names s.order ≡ map name_of (transactions_of events)

-- with one more transaction, which is invoked now
abbrev pub with_begun : Thinned → Transaction → Thinned
with_begun s t =
    record {
      recent = s.recent;
      last = s.last;
      order = s.order ++ before_next s.recent s.last t.process t.invocation ∷ [];
    }

-- the transaction is one of these events and one more, which invoked it
abbrev pub IsBegunBy : List Operation → Operation → Transaction → Type 0
IsBegunBy events e t =
    Contains (transactions_of (events ++ e ∷ [])) t × (t.invocation ≡ length events)

-- the transaction is one of these events and one more, which completed it as an ok
abbrev pub IsCompletedBy : List Operation → Operation → Transaction → Type 0
IsCompletedBy events e t =
    Contains (transactions_of (events ++ e ∷ [])) t
    × IsTrue (is_ok t)
    × (t.completion ≡ Some (length events))

-- whatever the events, these and one more, which does this to the transaction
abbrev pub Follows :
    (List Operation → Operation → Transaction → Type 0) → Transaction → Thinned → Thinned → Type 0
Follows Does t s next =
    (events : List Operation) (e : Operation)
    → IsThinningOf events s
    → Does events e t
    → IsThinningOf (events ++ e ∷ []) next

-- whatever the events, the same ones
abbrev pub IsOfSame : Thinned → Thinned → Type 0
IsOfSame s other = (events : List Operation) → IsThinningOf events s → IsThinningOf events other
