-- How the transactions of a history grow.
--
-- An invocation begins a transaction, after all others. A completion completes its process's open
-- transaction, in its place, if there is one; else it changes nothing.
use Rattle.std.specs.Prelude.{◌≡◌, ℕ, List, [], ◌∷◌, ◌++◌, length, slice_get, slice_set, Option, Some, None}
use Rattle.std.specs.Bool.{MatchBool}
use Rattle.hist_types.specs.Journal.{is_invoke, KeepsRulesAfter}
use Rattle.hist_types.specs.Operations.{Operation}
use Rattle.hist_types.specs.Transactions.{Transaction, Open, transaction_by, transactions_of}
use Rattle.txn_pairs.specs.Completions.{Completes}
use Rattle.txn_pairs.specs.Places.{completed}

-- Where the transactions `before` are those of events, as many as the index, those `after` are of
-- one more event.
abbrev pub TakesEvent : (index : ℕ) → Operation → (before after : List Transaction) → Type 0
TakesEvent index event before after =
    (events : List Operation) → length events ≡ index → before ≡ transactions_of events
    → after ≡ transactions_of (events ++ event ∷ [])

-- the event begins the transaction at the place
pub record BeginsOne (index : ℕ) (event : Operation) (place : Option ℕ)
    (before after : List Transaction) : Type 0 where
  pub last : place ≡ Some (length before)
  pub listed : after ≡ before ++ transaction_by index event None ∷ []

-- The event completes the transaction at the place. If the journal takes the event after those
-- that the transactions are of, the keys and the writes stay.
pub record CompletesOne (index : ℕ) (event : Operation) (place : ℕ)
    (before after : List Transaction) : Type 0 where
  pub was : Transaction
  pub there : slice_get before place ≡ Some was
  pub process : was.process ≡ event.process
  pub unended : was.status ≡ Open
  pub listed : after ≡ slice_set before place (completed was index event)
  pub repeats :
      (events : List Operation) → before ≡ transactions_of events
      → KeepsRulesAfter events (event ∷ []) → Completes was (completed was index event)

-- The event completes the transaction at the place, or nothing if there is no place.
abbrev pub CompletesIfOpen :
    (index : ℕ) → Operation → (place : Option ℕ) → (before after : List Transaction) → Type 0
CompletesIfOpen index event None before after = after ≡ before
CompletesIfOpen index event (Some place) before after = CompletesOne index event place before after

-- what an event makes of transactions, and the place of the one that it begins or completes
abbrev pub IsChange :
    (index : ℕ) → Operation → (place : Option ℕ) → (before after : List Transaction) → Type 0
IsChange index event place before after =
    MatchBool (is_invoke event.kind)
    (BeginsOne index event place before after)
    (CompletesIfOpen index event place before after)
