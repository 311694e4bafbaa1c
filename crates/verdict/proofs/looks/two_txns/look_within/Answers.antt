use Rattle.std.proofs.Common.{subst}
use Rattle.hist_types.specs.Edges.{edges_at}
use Rattle.hist_types.specs.declared.types.Level.TheVariants.{Plain}
use Rattle.cycle_find.specs.TwoDependencies.{IsMutual}
use Rattle.verdict.proofs.looks.two_txns.look_within.Goals as goal

pub returns-in-Nowhere : goal.returns-in-Nowhere
returns-in-Nowhere c =
    let d = c.args.deps.now in
    c.rule_out_two.ensures.right d.table.keys d.txns c.requires
    (subst (IsMutual c.args.phenomenon (edges_at d.table.keys Plain d.txns)) c.in-Nowhere.is c.in_ok-walk.ensures)
