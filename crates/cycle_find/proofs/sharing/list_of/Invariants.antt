-- The vertices so far are listed.
use Rattle.std.proofs.Common.{◌<◌, ℕ, length, get_or, false, All, Contains, IsTrue}
use Rattle.cycle_find.proofs.sharing.list_of.Given as goal

abbrev pub invariant-loop-vertex : goal.invariant-loop-vertex
invariant-loop-vertex l = record {
  within : All (λ v. v < length l.flags) l.list.items;
  each : (v : ℕ) → v < l.vertex → IsTrue (get_or l.flags v false) → Contains l.list.items v;
}
