-- Operations that break a rule of the journal: the first broken rule, and the index that the operation would have had.
use Rattle.std.proofs.Common.{◌≡◌, List, [], ◌∷◌, length, true, false, nat_le, Some, None, codes, refl}
use Rattle.hist_types.specs.Atoms.{string, symbol}
use Rattle.hist_types.specs.Operations.{Mop, write, Operation}
use Rattle.hist_types.specs.Journal.{invocation_refusal, broken, first_broken, events_of}
use Rattle.hist_types.specs.Transactions.{transactions_of, nodes, Fail}
use Rattle.hist_types.specs.Versions.{version_pairs}
use Rattle.hist_types.specs.Edges.{dependency_edges}
use Rattle.hist_types.specs.declared.types.Refusal.TheVariants.{Busy, Retired, Rewritten, Idle, Mismatch, TooManyEvents}
use Rattle.hist_types.specs.declared.types.KeyOrder.TheVariants.{Basic}
use Rattle.hist_types.proofs.Rows.History.{x, y, number, sets, gets, finds_nil, invoke, ok, fail, info}

-- ---- each rule

-- A process with an open invocation invokes again.
busy : first_broken [] (invoke 0 [] ∷ invoke 0 [] ∷ []) ≡ Some (Busy, 1)
busy = refl

-- Another process may, and so may the same one behind an ok or a fail.
not_busy :
    (first_broken [] (invoke 0 [] ∷ invoke 1 [] ∷ []) ≡ None)
    × (first_broken [] (invoke 0 [] ∷ ok 0 [] ∷ invoke 0 [] ∷ fail 0 ∷ invoke 0 [] ∷ []) ≡ None)
not_busy = (refl, refl)

-- A process that ended with an info is not used again.
retired : first_broken [] (invoke 0 [] ∷ info 0 ∷ invoke 0 [] ∷ []) ≡ Some (Retired, 2)
retired = refl

-- An info of another process retires nobody else.
not_retired : first_broken [] (invoke 0 [] ∷ invoke 1 [] ∷ info 1 ∷ ok 0 [] ∷ invoke 0 [] ∷ []) ≡ None
not_retired = refl

-- A completion of a process that never invoked, and of one whose invocation is over.
idle : (first_broken [] (ok 0 [] ∷ []) ≡ Some (Idle, 0)) × (first_broken [] (invoke 0 [] ∷ fail 0 ∷ info 0 ∷ []) ≡ Some (Idle, 2))
idle = (refl, refl)

-- An ok with another written value, another key, another kind, one micro-operation more or one less.
mismatch :
    (first_broken [] (invoke 0 (sets x 1 ∷ []) ∷ ok 0 (sets x 2 ∷ []) ∷ []) ≡ Some (Mismatch, 1))
    × (first_broken [] (invoke 0 (sets x 1 ∷ []) ∷ ok 0 (sets y 1 ∷ []) ∷ []) ≡ Some (Mismatch, 1))
    × (first_broken [] (invoke 0 (sets x 1 ∷ []) ∷ ok 0 (gets x 1 ∷ []) ∷ []) ≡ Some (Mismatch, 1))
    × (first_broken [] (invoke 0 (sets x 1 ∷ []) ∷ ok 0 (sets x 1 ∷ finds_nil x ∷ []) ∷ []) ≡ Some (Mismatch, 1))
    × (first_broken [] (invoke 0 (sets x 1 ∷ []) ∷ ok 0 [] ∷ []) ≡ Some (Mismatch, 1))
mismatch = (refl, refl, refl, refl, refl)

-- What a read returned is free, whatever the invocation says of it; and a fail need not repeat the list.
no_mismatch :
    (first_broken [] (invoke 0 (gets x 5 ∷ []) ∷ ok 0 (gets x 7 ∷ []) ∷ []) ≡ None)
    × (first_broken [] (invoke 0 (sets x 1 ∷ []) ∷ fail 0 ∷ []) ≡ None)
no_mismatch = (refl, refl)

-- ---- the greatest number of events

-- Whatever the operation, the journal takes none behind 1,048,576 events, and this rule comes before all others.
too_many_events : (events : List Operation) (o : Operation) → nat_le 1048576 (length events) ≡ true → broken events o ≡ Some TooManyEvents
too_many_events events o full = rw full refl

-- Behind one event less the other rules decide, here for an invocation.
not_too_many :
    (events : List Operation) (mops : List Mop) → nat_le 1048576 (length events) ≡ false → broken events (invoke 0 mops) ≡ invocation_refusal events (invoke 0 mops)
not_too_many events mops room = rw room refl

-- ---- values that are written twice

-- the value of a transaction that failed is written again
abbrev rewritten_value : List Operation
rewritten_value = invoke 0 (sets x 1 ∷ []) ∷ fail 0 ∷ invoke 0 (sets x 1 ∷ []) ∷ []

-- That a transaction failed does not free its values.
rewritten : first_broken [] rewritten_value ≡ Some (Rewritten, 2)
rewritten = refl

-- In blocks of one operation the first two events stand, and the third block adds none.
rewritten-events :
    events_of ((invoke 0 (sets x 1 ∷ []) ∷ []) ∷ (fail 0 ∷ []) ∷ (invoke 0 (sets x 1 ∷ []) ∷ []) ∷ []) ≡ invoke 0 (sets x 1 ∷ []) ∷ fail 0 ∷ []
rewritten-events = refl

-- They make one transaction, which failed and is no node; so there is no version pair and no edge.
rewritten-transactions :
    (transactions_of (invoke 0 (sets x 1 ∷ []) ∷ fail 0 ∷ [])
    ≡ record { process = 0; invocation = 0; completion = Some 1; status = Fail; mops = sets x 1 ∷ [] } ∷ [])
    × (nodes (transactions_of (invoke 0 (sets x 1 ∷ []) ∷ fail 0 ∷ [])) ≡ [])
    × (version_pairs Basic (transactions_of (invoke 0 (sets x 1 ∷ []) ∷ fail 0 ∷ [])) ≡ [])
    × (dependency_edges Basic (transactions_of (invoke 0 (sets x 1 ∷ []) ∷ fail 0 ∷ [])) ≡ [])
rewritten-transactions = (refl, refl, refl, refl)

-- The values of open, unknown and ok transactions are not free either, and a transaction may not write one twice itself.
rewritten-others :
    (first_broken [] (invoke 0 (sets x 1 ∷ []) ∷ invoke 1 (sets x 1 ∷ []) ∷ []) ≡ Some (Rewritten, 1))
    × (first_broken [] (invoke 0 (sets x 1 ∷ []) ∷ info 0 ∷ invoke 1 (sets x 1 ∷ []) ∷ []) ≡ Some (Rewritten, 2))
    × (first_broken [] (invoke 0 (sets x 1 ∷ []) ∷ ok 0 (sets x 1 ∷ []) ∷ invoke 0 (sets x 1 ∷ []) ∷ []) ≡ Some (Rewritten, 2))
    × (first_broken [] (invoke 0 (sets x 1 ∷ sets x 2 ∷ sets x 1 ∷ []) ∷ []) ≡ Some (Rewritten, 0))
rewritten-others = (refl, refl, refl, refl)

-- Another value, the value at another key, and a value that was only read are free.
not_rewritten :
    first_broken [] (invoke 0 (sets x 1 ∷ sets x 2 ∷ sets y 1 ∷ gets x 3 ∷ []) ∷ invoke 1 (sets x 3 ∷ sets y 2 ∷ []) ∷ []) ≡ None
not_rewritten = refl

-- The number 1, the string "1" and the symbol x are values of their own, and so are keys.
not_rewritten-kinds :
    first_broken []
    (invoke 0 (write x (number 1) ∷ write x (string (codes "1")) ∷ write x (symbol (codes "x")) ∷ write (string (codes "x")) (number 1) ∷ []) ∷ [])
    ≡ None
not_rewritten-kinds = refl

-- ---- which rule comes first

-- An open invocation comes before a value that is written twice, and so does an info.
first_rule :
    (first_broken [] (invoke 0 (sets x 1 ∷ []) ∷ invoke 0 (sets x 1 ∷ []) ∷ []) ≡ Some (Busy, 1))
    × (first_broken [] (invoke 0 (sets x 1 ∷ []) ∷ info 0 ∷ invoke 0 (sets x 1 ∷ []) ∷ []) ≡ Some (Retired, 2))
first_rule = (refl, refl)

-- ---- blocks

-- A block whose second operation breaks a rule adds no event, and its first operation neither.
refused_block : events_of ((invoke 0 [] ∷ ok 1 [] ∷ []) ∷ []) ≡ []
refused_block = refl

-- The rule is told at the index that the operation would have had.
refused_block-rule : first_broken [] (invoke 0 [] ∷ ok 1 [] ∷ []) ≡ Some (Idle, 1)
refused_block-rule = refl

-- Blocks before it and behind it count.
other_blocks :
    events_of ((invoke 0 [] ∷ []) ∷ (invoke 1 [] ∷ invoke 0 [] ∷ []) ∷ (ok 0 [] ∷ invoke 1 [] ∷ []) ∷ [])
    ≡ invoke 0 [] ∷ ok 0 [] ∷ invoke 1 [] ∷ []
other_blocks = refl

-- Behind events the index goes on from them.
index_goes_on : first_broken (invoke 0 [] ∷ ok 0 [] ∷ []) (invoke 0 [] ∷ invoke 0 [] ∷ []) ≡ Some (Busy, 3)
index_goes_on = refl
