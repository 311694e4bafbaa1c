use Rattle.std.proofs.Common.{◌∙◌, reverse, ap, sym, subst}
use Rattle.cycle_find.specs.Sharing.{AreListed}
use Rattle.cycle_find.proofs.RankedArcs.{listed_reverse}
use Rattle.cycle_find.proofs.ranking.from_last.Goals as goal

pub returns : goal.returns
returns c =
    subst (AreListed c.args.shared.now) (sym (c.reverse.ensures.items ∙ ap reverse (c.in_ok-vertices.ensures.items_if_clones_equal (λ x y same. same))))
    (listed_reverse c.args.shared.now c.list.result.now c.list.ensures)
