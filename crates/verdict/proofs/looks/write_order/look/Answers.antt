use Rattle.std.proofs.Common.{true, refl}
use Rattle.std.proofs.lemmas.Bool.{OnTrue_at}
use Rattle.hist_types.specs.declared.types.Level.TheVariants.{Realtime}
use Rattle.hist_types.specs.declared.types.Phenomenon.TheVariants.{G0, G1c}
use Rattle.dep_edges.specs.Histories.{History}
use Rattle.schedules.specs.Cycles.{HasNoneRuledOut}
use Rattle.schedules.specs.declared.types.TheConstants.EdgeKinds.{WITHOUT_RW}
use Rattle.verdict.proofs.looks.write_order.look.Goals as goal

pub returns : goal.returns
returns c =
    let d : History = c.args.deps.now in
    let none : HasNoneRuledOut d.table.keys WITHOUT_RW true d.txns = OnTrue_at c.if-not-branch.false c.in_ok-settles_kinds.ensures in
    let first = c.in_ok-rule_out.ensures.right d.table.keys d.txns c.requires (none G0 Realtime refl refl) in
    c.rule_out-2.ensures.right d.table.keys d.txns first (none G1c Realtime refl refl)
