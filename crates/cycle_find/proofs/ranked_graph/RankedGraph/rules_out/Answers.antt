use Rattle.std.proofs.Common.{Some, subst}
use Rattle.std.proofs.lemmas.Bool.{OnTrue_at, OnTrue_from}
use Rattle.hist_types.specs.Phenomena.{IsShownBy}
use Rattle.hist_types.specs.declared.types.Level.TheVariants.{Realtime}
use Rattle.edge_graph.specs.Parts.{Parts, edges_in}
use Rattle.cycle_find.specs.Found.{ShowNoneOverAny}
use Rattle.cycle_find.proofs.ranked_graph.RankedGraph.rules_out.Goals as goal

pub returns-in-Some : goal.returns-in-Some
returns-in-Some c =
    let a = c.self.inside in
    let phenomenon = c.args.phenomenon in
    let es = edges_in a.graph.now Realtime in
    let none : ShowNoneOverAny (Some c.in-Some.dependencies) es = subst (λ some. ShowNoneOverAny some es) c.in-Some.is c.self.invariant.2 in
    OnTrue_from c.uses_only.result (¬ IsShownBy phenomenon (edges_in c.args.self.now Realtime))
    (λ yes.
    subst (λ (g : Parts). ¬ IsShownBy phenomenon (edges_in g Realtime)) c.self.view_is
    (none phenomenon (OnTrue_at yes c.uses_only.ensures)))
