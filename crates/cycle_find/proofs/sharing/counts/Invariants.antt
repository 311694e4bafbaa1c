-- The vertices so far are counted.
use Rattle.std.proofs.Common.{◌≡◌, ◌⊎◌, ◌<◌, ℕ, length, get_or}
use Rattle.cycle_find.specs.Sharing.{slot}
use Rattle.cycle_find.proofs.sharing.counts.Given as goal

abbrev pub invariant-loop-vertex : goal.invariant-loop-vertex
invariant-loop-vertex l = record {
  one_each : length l.counts.items ≡ length l.ranks;
  one : (v : ℕ) → v < l.vertex → 0 < get_or l.counts.items (slot l.ranks v) 0;
  two : (v w : ℕ) → v < l.vertex → w < l.vertex → slot l.ranks v ≡ slot l.ranks w → (v ≡ w) ⊎ (1 < get_or l.counts.items (slot l.ranks v) 0);
}
