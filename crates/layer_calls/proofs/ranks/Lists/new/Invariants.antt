-- A list for each vertex so far, and each is empty.
use Rattle.std.proofs.Common.{ℕ, ◌≡◌, length, All, Vec, Global}
use Rattle.layer_calls.proofs.ranks.Lists.new.Given as goal

abbrev pub invariant-loop : goal.invariant-loop
invariant-loop l = record {
  count : length l.lists.items ≡ l.counter;
  empty : All (λ (list : Vec ℕ Global). length list.items ≡ 0) l.lists.items;
}
