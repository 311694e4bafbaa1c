-- Those so far completed before the invocation.
use Rattle.std.proofs.Common.{◌≡◌, ◌+◌, drop}
use Rattle.order_frontier.specs.Completions.{count_passed}
use Rattle.order_frontier.proofs.moving.passed.Given as goal

abbrev pub invariant-loop-count : goal.invariant-loop-count
invariant-loop-count l = count_passed l.invocation l.frontier ≡ l.count + count_passed l.invocation (drop l.count l.frontier)
