use Rattle.std.proofs.Common.{◌≡◌, All, inl, inr, true, sym, ◌∙◌, subst}
use Rattle.serial_points.specs.Stepping.{has_another, IsBelowUnlessOk}
use Rattle.serial_points.proofs.views.PointsView.read_makes_no_node.Goals as goal

pub returns-then-has_another : goal.returns-then-has_another
returns-then-has_another g c = λ _. inl (subst (λ places. has_another c.args.place places ≡ true) c.readers.ensures (sym c.has_another.ensures ∙ c.if-has_another.true))

pub returns : goal.returns
returns g c = λ passed. inr (subst (All (IsBelowUnlessOk c.args.self.now)) c.writers.ensures (c.are_below_unless_ok.ensures passed))
