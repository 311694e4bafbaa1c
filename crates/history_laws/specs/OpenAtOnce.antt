-- Transactions that are open at once, and predecessors in the thinned order: no transaction has more
-- thinned predecessors than transactions were ever open at once.
use Rattle.std.specs.Prelude.{ℕ, ◌≤◌, List, [], ◌∷◌, length, true, ◌==◌, max, Bool, ◌&&◌, nat_le, nat_lt, count_by, map, filter}
use Rattle.std.specs.Option.{option_map_or}
use Rattle.hist_types.specs.Operations.{Operation}
use Rattle.hist_types.specs.Transactions.{Transaction, transactions_of}
use Rattle.hist_types.specs.Edges.{Edge}

-- after the event with this index, the transaction has been invoked and has not completed
abbrev pub is_open_at : ℕ → Transaction → Bool
is_open_at index t =
    nat_le t.invocation index
    && option_map_or (λ completion. nat_lt index completion) t.completion true

-- how many transactions are open after it
abbrev pub open_at : ℕ → List Transaction → ℕ
open_at index ts = count_by (is_open_at index) ts

abbrev pub greatest : List ℕ → ℕ
greatest [] = 0
greatest (n ∷ ns) = max n (greatest ns)

-- the most that were ever open at once (their number grows only at an invocation)
abbrev pub most_open : List Transaction → ℕ
most_open ts = greatest (map (λ (t : Transaction). open_at t.invocation ts) ts)

-- the first ends of the edges that lead to the transaction
abbrev pub predecessors : ℕ → List Edge → List ℕ
predecessors to es = map (λ (e : Edge). e.from) (filter (λ (e : Edge). e.to == to) es)

-- in each history, at most this many of the edges lead to one transaction
abbrev pub LimitsPredecessors : (List Transaction → ℕ) → (List Transaction → List Edge) → Type 0
LimitsPredecessors most edges =
    (events : List Operation) (to : ℕ)
    → length (predecessors to (edges (transactions_of events))) ≤ most (transactions_of events)
