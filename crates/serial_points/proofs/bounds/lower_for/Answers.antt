use Rattle.std.proofs.Common.{◌≤◌, take, slice_index}
use Rattle.std.proofs.lemmas.List.Elements.{All-more}
use Rattle.key_versions.specs.declared.pending.Access.{Access}
use Rattle.serial_points.proofs.Bounded.{floors_lower, higher_again}
use Rattle.serial_points.proofs.Listed.{all_gone}
use Rattle.serial_points.proofs.bounds.lower_for.Goals as goal

pub loop-write-preserved : goal.loop-write-preserved
loop-write-preserved c =
    let i = c.loop-write.write-index in
    let writes = c.args.writes.now in
    let later = c.lower.new.self in (
      higher_again later c.loop-write.floors c.args.floors.now c.in_ok-lower.ensures.lower c.loop-write.invariant.0,
      All-more (λ (a : Access). slice_index later a.nil ≤ c.args.point) writes i (record { nil = 0; version = 0 }) c.loop-write-test.true
          (floors_lower c.loop-write.floors later c.args.point (take i writes) c.in_ok-lower.ensures.lower c.loop-write.invariant.1)
          c.in_ok-lower.ensures.lowered,
    )

pub returns-clause-lowered : goal.returns-clause-lowered
returns-clause-lowered c =
    all_gone (λ (a : Access). slice_index c.loop-write.floors a.nil ≤ c.args.point) c.args.writes.now c.loop-write.write-index c.loop-write-test.false c.loop-write.invariant.1
