use Rattle.std.proofs.Common.{All, subst, sym, ◌∙◌}
use Rattle.std.proofs.lemmas.Bool.{false≢true}
use Rattle.serial_points.specs.Stepping.{BelowInstallers}
use Rattle.serial_points.proofs.views.PointsView.is_below_steps_from.Goals as goal

pub returns-then-is_below_all_installers : goal.returns-then-is_below_all_installers
returns-then-is_below_all_installers g c = λ _ last.
    subst (All (BelowInstallers c.args.self.now c.args.place)) c.later.ensures (c.is_below_all_installers.ensures c.if-is_below_all_installers.true)

pub returns : goal.returns
returns g c = λ replaced last. absurd (false≢true (sym last ∙ sym c.updates.ensures ∙ replaced))
