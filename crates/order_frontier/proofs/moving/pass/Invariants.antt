-- The first ones so far are removed.
use Rattle.std.proofs.Common.{◌≡◌, drop}
use Rattle.order_frontier.proofs.moving.pass.Given as goal

abbrev pub invariant-loop : goal.invariant-loop
invariant-loop l = record {
  rest : l.frontier.items ≡ drop l.counter l.fn.frontier.items;
  capacity : l.frontier.capacity ≡ l.fn.frontier.capacity;
}
