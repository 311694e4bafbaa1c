use Rattle.std.proofs.Common.{◌≡◌, false, sym, ◌∙◌, subst}
use Rattle.std.proofs.lemmas.Bool.{not-true}
use Rattle.serial_points.specs.Stepping.{has_install}
use Rattle.serial_points.proofs.views.LiveRun.has_no_install.Goals as goal

pub returns : goal.returns
returns g c = λ passed a there.
    subst (λ writes. has_install c.args.version writes ≡ false) (c.writes.ensures a there)
    (sym c.has_install.ensures ∙ not-true c.has_install.result passed)
