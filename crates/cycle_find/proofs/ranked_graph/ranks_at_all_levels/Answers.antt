use Rattle.std.proofs.Common.{◌∙◌}
use Rattle.edge_graph.specs.Kinds.{kinds_of}
use Rattle.edge_graph.specs.declared.types.Dependencies.TheVariants.{Ww}
use Rattle.hist_types.specs.declared.types.Level.TheVariants.{Process}
use Rattle.cycle_find.proofs.RankedArcs.{ranks_over, in_process_too, flat_at_all}
use Rattle.cycle_find.proofs.ranked_graph.ranks_at_all_levels.Goals as goal

pub returns-then-hold_in : goal.returns-then-hold_in
returns-then-hold_in c = record {
  process =
      in_process_too c.args.graph.now c.in_ok-ranks.ranks
      (ranks_over c.args.graph.now (kinds_of Ww Process) c.arcs-in_process.result c.in_ok-ranks.ranks c.arcs-in_process.ensures.arcs (c.hold_in.ensures.0 c.if-hold_in.true))
      c.in_ok-ranks.ensures;
  realtime = c.in_ok-ranks.ensures;
}

pub returns-else-hold_in : goal.returns-else-hold_in
returns-else-hold_in c = flat_at_all c.args.graph.now c.vertices.result c.flat.result (c.vertices.ensures ∙ c.arcs-in_process.ensures.arcs.count) c.flat.ensures
