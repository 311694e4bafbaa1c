use Rattle.std.proofs.Common.{true, refl}
use Rattle.std.proofs.lemmas.Bool.{OnTrue_at}
use Rattle.hist_types.specs.declared.types.Level.TheVariants.{Plain}
use Rattle.hist_types.specs.declared.types.Phenomenon.TheVariants.{G0, G1c, G2Item}
use Rattle.dep_edges.specs.Histories.{History}
use Rattle.schedules.specs.Cycles.{HasNoneRuledOut}
use Rattle.schedules.specs.declared.types.TheConstants.EdgeKinds.{PLAIN}
use Rattle.verdict.proofs.looks.plain_order.look.Goals as goal

pub returns : goal.returns
returns c =
    let d : History = c.args.deps.now in
    let none : HasNoneRuledOut d.table.keys PLAIN true d.txns = OnTrue_at c.if-not-settles_plain.false c.settles_plain.ensures in
    let first = c.in_ok-rule_out.ensures.right d.table.keys d.txns c.requires (none G0 Plain refl refl) in
    let second = c.in_ok-rule_out-2.ensures.right d.table.keys d.txns first (none G1c Plain refl refl) in
    c.rule_out-3.ensures.right d.table.keys d.txns second (none G2Item Plain refl refl)
