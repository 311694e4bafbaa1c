-- It is told of the vertices so far.
use Rattle.std.proofs.Common.{◌≡◌, ◌<◌, ℕ, length, get_or, false, nat_lt}
use Rattle.cycle_find.specs.Sharing.{slot}
use Rattle.cycle_find.proofs.sharing.flags.Given as goal

abbrev pub invariant-loop-vertex : goal.invariant-loop-vertex
invariant-loop-vertex l = record {
  one_each : length l.shared.items ≡ length l.ranks;
  told : (v : ℕ) → v < l.vertex → get_or l.shared.items v false ≡ nat_lt 1 (get_or l.counts.items (slot l.ranks v) 0);
}
