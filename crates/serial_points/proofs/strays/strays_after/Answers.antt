use Rattle.std.proofs.Common.{◌+◌, ◌<◌, ◌∙◌, ap}
use Rattle.serial_points.specs.Strays.{unwritten, StraysAdvance}
use Rattle.serial_points.proofs.Counted.{if_some}
use Rattle.serial_points.proofs.strays.strays_after.Goals as goal

pub returns : goal.returns
returns g c =
    if_some c.checked_add.result (c.args.strays + c.count.result < 18446744073709551616) (c.args.strays + c.count.result)
    (λ after. StraysAdvance c.args.strays after c.args.writers.now c.args.run.now.accesses c.args.place) c.checked_add.ensures
    (λ a there. ap (λ n. c.args.strays + n) (c.count.ensures ∙ ap (unwritten c.args.writers.now) (c.reads.ensures a there)))
