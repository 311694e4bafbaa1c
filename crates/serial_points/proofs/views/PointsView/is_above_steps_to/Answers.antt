use Rattle.std.proofs.Common.{All, subst, sym, ◌∙◌}
use Rattle.std.proofs.lemmas.Bool.{false≢true}
use Rattle.serial_points.specs.Stepping.{AboveUsers}
use Rattle.serial_points.proofs.views.PointsView.is_above_steps_to.Goals as goal

pub returns-then-is_above_all_users : goal.returns-then-is_above_all_users
returns-then-is_above_all_users g c = λ _ last.
    subst (All (AboveUsers c.args.self.now c.args.place)) c.earlier.ensures (c.is_above_all_users.ensures c.if-is_above_all_users.true)

pub returns : goal.returns
returns g c = λ replaced last. absurd (false≢true (sym last ∙ sym c.updates.ensures ∙ replaced))
