-- None of the numbers so far is above its former one.
use Rattle.std.proofs.Common.{◌≡◌, ◌≤◌, ℕ, length, get_or}
use Rattle.graph_search.proofs.labels.after_paid.Given as goal

abbrev pub invariant-loop-vertex : goal.invariant-loop-vertex
invariant-loop-vertex g l = record { each : length l.lower.items ≡ l.vertex; lower : (v : ℕ) → get_or l.lower.items v 0 ≤ get_or l.numbers v 0 }
