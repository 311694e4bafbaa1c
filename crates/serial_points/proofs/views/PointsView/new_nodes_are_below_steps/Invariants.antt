-- So far they are.
use Rattle.std.proofs.Common.{All, take}
use Rattle.key_versions.specs.declared.pending.Access.{Access}
use Rattle.serial_points.specs.Stepping.{WritersPassSteps}
use Rattle.serial_points.proofs.views.PointsView.new_nodes_are_below_steps.Given as goal

abbrev pub invariant-loop-read : goal.invariant-loop-read
invariant-loop-read g l =
    All ((λ (a : Access). WritersPassSteps l.self l.place a.version)) (take l.read-index l.reads)
