use Rattle.std.proofs.Common.{false, refl}
use Rattle.std.proofs.lemmas.Bool.{OnTrue_at}
use Rattle.hist_types.specs.declared.types.Level.TheVariants.{Realtime}
use Rattle.hist_types.specs.declared.types.Phenomenon.TheVariants.{G0, G1c, GSingle}
use Rattle.dep_edges.specs.Histories.{History}
use Rattle.schedules.specs.Cycles.{HasNoneRuledOut}
use Rattle.schedules.specs.declared.types.TheConstants.EdgeKinds.{ALL}
use Rattle.verdict.proofs.looks.snapshots.look.Goals as goal

pub returns : goal.returns
returns c =
    let d : History = c.args.deps.now in
    let none : HasNoneRuledOut d.table.keys ALL false d.txns = OnTrue_at c.if-not-branch.false c.in_ok-settles_snapshots.ensures in
    let first = c.in_ok-rule_out.ensures.right d.table.keys d.txns c.requires (none G0 Realtime refl refl) in
    let second = c.in_ok-rule_out-2.ensures.right d.table.keys d.txns first (none G1c Realtime refl refl) in
    c.rule_out-3.ensures.right d.table.keys d.txns second (none GSingle Realtime refl refl)
