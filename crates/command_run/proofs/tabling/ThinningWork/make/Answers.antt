use Rattle.std.proofs.Common.{List, subst}
use Rattle.hist_types.specs.Transactions.{Transaction}
use Rattle.order_frontier.specs.Predecessors.{IsThinnedOrder}
use Rattle.command_run.proofs.tabling.ThinningWork.make.Goals as goal

pub returns : goal.returns
returns c = record {
  order = subst (λ (ts : List Transaction). IsThinnedOrder ts c.in_ok-thinned.field-0) c.as_slice.ensures c.in_ok-thinned.ensures;
  err = tt;
}
