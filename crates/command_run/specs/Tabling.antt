-- What is made of transactions before a verdict, if memory doesn't run out.
use Rattle.std.specs.Prelude.{◌≡◌, List, Result, IfOk, IfErr}
use Rattle.hist_types.specs.Refusals.{memory_fault}
use Rattle.hist_types.specs.Transactions.{Transaction}
use Rattle.hist_types.specs.declared.types.Fault.{Fault}
use Rattle.hist_types.specs.declared.types.KeyOrder.{KeyOrder}
use Rattle.key_versions.specs.Tables.{Table, IsTableOf}
use Rattle.order_frontier.specs.Predecessors.{Before, IsThinnedOrder}

-- the table of the versions that they name
pub record IsTabled (keys : KeyOrder) (ts : List Transaction) (made : Result Table Fault) :
    Type 0 where
  pub table : IfOk made (IsTableOf keys ts)
  pub order : IfOk made (λ table. table.keys ≡ keys)
  pub err : IfErr made (λ fault. fault ≡ memory_fault)

-- their thinned order
pub record IsThinned (ts : List Transaction) (made : Result (List Before) Fault) : Type 0 where
  pub order : IfOk made (IsThinnedOrder ts)
  pub err : IfErr made (λ fault. fault ≡ memory_fault)
