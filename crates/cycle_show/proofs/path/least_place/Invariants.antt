-- The edge begins no later than any so far.
use Rattle.std.proofs.Common.{ℕ, ◌-◌, ◌<◌, ◌≤◌, slice_index}
use Rattle.hist_types.specs.Witness.{stations}
use Rattle.cycle_show.proofs.path.least_place.Given as goal

abbrev pub invariant-loop-place : goal.invariant-loop-place
invariant-loop-place l =
    (l.least ≤ l.place - 1)
    × ((k : ℕ) → k < l.place → slice_index (stations l.edges) l.least ≤ slice_index (stations l.edges) k)
