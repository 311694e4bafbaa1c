-- The first vertices so far have their own numbers.
use Rattle.std.proofs.Common.{◌≡◌, ◌<◌, ◌≤◌, ℕ, length, get_or}
use Rattle.graph_search.proofs.labels.own_places.Given as goal

abbrev pub invariant-loop-place : goal.invariant-loop-place
invariant-loop-place l = record { each : length l.numbers.items ≡ l.vertices; own : (v : ℕ) → v < l.place → get_or l.numbers.items v 0 ≤ v }
