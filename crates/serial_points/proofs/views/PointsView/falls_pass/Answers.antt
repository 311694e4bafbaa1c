use Rattle.std.proofs.Common.{rules, inl, inr, ◌≡◌, subst, arith}
use Rattle.std.proofs.lemmas.Bool.{cases_lt}
use Rattle.serial_points.specs.Falls.{PassesAt, fall_at}
use Rattle.serial_points.proofs.views.PointsView.falls_pass.Goals as goal

pub loop-fall-preserved : goal.loop-fall-preserved
loop-fall-preserved g c = λ k below. elim (cases_lt k c.loop-fall.fall-index) [
  | inl less ↦ c.loop-fall.invariant k less
  | inr past ↦ (
      let is : c.loop-fall.fall-index ≡ k = omega (arith, past, below) in
      subst (λ n. PassesAt c.args.self.now (fall_at c.args.falls.now n).place) is (c.passes.ensures (search rules)))
]
