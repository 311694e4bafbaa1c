-- Where the open transaction of a process is, and what its completion does.
use Rattle.std.specs.Prelude.{ℕ, zero, suc, List, [], ◌∷◌, Bool, true, false, ◌&&◌, ◌||◌, ◌==◌, if◌then◌else◌, Option, Some, None, option_map}
use Rattle.hist_types.specs.Operations.{Operation}
use Rattle.hist_types.specs.Transactions.{Transaction, Status, Open, status_by, mops_by}

abbrev pub is_open_status : Status → Bool
is_open_status Open = true
is_open_status status = false

abbrev pub is_open : Transaction → Bool
is_open t = is_open_status t.status

-- whether one of the transactions is of the process
abbrev pub has_process : ℕ → List Transaction → Bool
has_process process [] = false
has_process process (t ∷ ts) = (t.process == process) || has_process process ts

-- the place of the process's last transaction, if that is open
abbrev pub open_place : ℕ → List Transaction → Option ℕ
open_place process [] = None
open_place process (t ∷ ts) =
    if has_process process ts
    then option_map suc (open_place process ts)
    else (if (t.process == process) && is_open t then Some 0 else None)

-- an open transaction, completed by an event with this index
abbrev pub completed : Transaction → ℕ → Operation → Transaction
completed t index event =
    record {
      process = t.process;
      invocation = t.invocation;
      completion = Some index;
      status = status_by event.kind;
      mops = mops_by (status_by event.kind) t.mops event.mops;
    }

-- the transactions, where the one at the place is completed
abbrev pub completed_at : ℕ → ℕ → Operation → List Transaction → List Transaction
completed_at place index event [] = []
completed_at zero index event (t ∷ ts) = completed t index event ∷ ts
completed_at (suc place) index event (t ∷ ts) = t ∷ completed_at place index event ts

-- the transactions, where the one at the place is completed, if a place is given
abbrev pub with_completed : Option ℕ → ℕ → Operation → List Transaction → List Transaction
with_completed None index event ts = ts
with_completed (Some place) index event ts = completed_at place index event ts
