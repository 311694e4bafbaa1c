use Rattle.std.proofs.Common.{◌∙◌, ap, sym, arith}
use Rattle.hist_types.specs.Phenomena.{is_order}
use Rattle.cycle_show.proofs.Places.{ends_at_last}
use Rattle.cycle_show.proofs.path.ends_in_order.Goals as goal

pub returns-in-len1-up : goal.returns-in-len1-up
returns-in-len1-up c =
    c.is_order.ensures
    ∙ ap is_order c.last-item.is
    ∙ sym (ends_at_last c.args.edges.now c.last-item.result (omega (arith, c.in-len1-up.len_at_least)))
