use Rattle.std.proofs.Common.{ℕ, List, ◌-◌, ◌≤◌, length}
use Rattle.hist_types.specs.Forms.{Form}
use Rattle.edn_ops.specs.Flat.{ReadsFields, HasReached, place_reached}
use Rattle.edn_ops.proofs.flat.flat_map.Given as goal

abbrev pub invariant-loop-at : goal.invariant-loop-at
invariant-loop-at l =
    (place_reached l.reached ≤ length l.text)
    × ((offset : ℕ) (pairs : List (Form × Form)) → ReadsFields l.text offset pairs l.fn.fields l.fn.mops.items l.start → HasReached l.text offset l.fields l.mops.items l.reached)

abbrev pub decreases-loop-at : goal.decreases-loop-at
decreases-loop-at l = length l.text - place_reached l.reached
