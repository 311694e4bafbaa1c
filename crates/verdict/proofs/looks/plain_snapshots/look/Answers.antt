use Rattle.std.proofs.Common.{false, refl}
use Rattle.std.proofs.lemmas.Bool.{OnTrue_at}
use Rattle.hist_types.specs.declared.types.Level.TheVariants.{Plain}
use Rattle.hist_types.specs.declared.types.Phenomenon.TheVariants.{GSingle}
use Rattle.dep_edges.specs.Histories.{History}
use Rattle.schedules.specs.Cycles.{HasNoneRuledOut}
use Rattle.schedules.specs.declared.types.TheConstants.EdgeKinds.{PLAIN}
use Rattle.verdict.proofs.looks.plain_snapshots.look.Goals as goal

pub returns : goal.returns
returns c =
    let d : History = c.args.deps.now in
    let none : HasNoneRuledOut d.table.keys PLAIN false d.txns = OnTrue_at c.if-not-branch.false c.in_ok-settles_snapshots.ensures in
    c.rule_out.ensures.right d.table.keys d.txns c.requires (none GSingle Plain refl refl)
