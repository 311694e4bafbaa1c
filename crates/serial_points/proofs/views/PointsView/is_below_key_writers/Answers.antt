use Rattle.std.proofs.Common.{rules, ◌≡◌, List, ℕ, slice_index, slice_index_or, subst}
use Rattle.std.proofs.lemmas.List.Elements.{All-more}
use Rattle.key_versions.specs.declared.pending.Access.{Access}
use Rattle.serial_points.specs.Passing.{AllHigher, HasNilFollowers}
use Rattle.serial_points.proofs.Listed.{all_gone}
use Rattle.serial_points.proofs.views.PointsView.is_below_key_writers.Goals.{else-read-via-then-read+else-not-are_all_higher, else-read-via-else-read}
use Rattle.serial_points.proofs.views.PointsView.is_below_key_writers.Goals as goal

pub loop-read-preserved : goal.loop-read-preserved
loop-read-preserved g c =
    let points = c.args.self.now.points in
    let users = c.args.self.now.users in
    let place = c.args.place in
    All-more (λ (a : Access). a.version ≡ a.nil → (places : List ℕ) × HasNilFollowers users a.nil (slice_index points place) places × AllHigher points places place) c.args.reads.now c.loop-read.read-index (record { nil = 0; version = 0 }) c.loop-read-test.true c.loop-read.invariant
    (λ nil. elim c.else-read.branch [
      | else-read-via-then-read+else-not-are_all_higher w ↦ (
        w.nil_followers.result.now,
        subst (λ n. HasNilFollowers users (slice_index_or c.args.reads.now c.loop-read.read-index (record { nil = 0; version = 0 })).nil n w.nil_followers.result.now) c.point-point.ensures w.nil_followers.ensures,
        w.are_all_higher.ensures (search rules),
      )
      | else-read-via-else-read w ↦ absurd (w.if-read.false nil)
    ])

pub returns : goal.returns
returns g c = λ _.
    let points = c.args.self.now.points in
    let users = c.args.self.now.users in
    let place = c.args.place in
    all_gone (λ (a : Access). a.version ≡ a.nil → (places : List ℕ) × HasNilFollowers users a.nil (slice_index points place) places × AllHigher points places place) c.args.reads.now c.loop-read.read-index c.loop-read-test.false c.loop-read.invariant
