-- The statuses and the completions of the definitions, by those of the code.
use Rattle.std.specs.Prelude.{ℕ, Option, Some, None}
use Rattle.hist_types.specs.Transactions as statuses
use Rattle.txn_pairs.specs.declared.types.Status.{Status}
use Rattle.txn_pairs.specs.declared.types.Status.TheVariants.{Ok, Fail, Info, Open}

abbrev pub status_of : Status → statuses.Status
status_of Ok = statuses.Ok
status_of Fail = statuses.Fail
status_of Info = statuses.Info
status_of Open = statuses.Open

-- the index of the completion, which an open transaction has none of
abbrev pub completion_by : Status → ℕ → Option ℕ
completion_by Open index = None
completion_by status index = Some index
