use Rattle.std.proofs.Common.{sym, subst}
use Rattle.std.proofs.lemmas.Result.{IfOk-weaker}
use Rattle.edge_graph.specs.Kinds.{kinds_of}
use Rattle.edge_graph.specs.Vertices.{AreArcs}
use Rattle.cycle_find.specs.Dependencies.{others}
use Rattle.cycle_find.specs.Past.{AreRanksPast}
use Rattle.cycle_find.specs.Tasks.{Task, task_of}
use Rattle.cycle_find.proofs.Past.{ranks_of_lists}
use Rattle.cycle_find.proofs.fewest.Fewest.past.Goals as goal

pub returns : goal.returns
returns c =
    let a = c.self.inside in
    let task : Task = task_of a.graph.now a.phenomenon a.level in
    let cut = c.args.cut in
    let lists = c.arcs-others.result in
    let ranks = c.in_ok-ranks.ranks in
    let others_are : AreArcs task.graph (kinds_of (others task.phenomenon) task.level) lists =
    subst (λ d. AreArcs a.graph.now (kinds_of d a.level) lists) c.others.ensures c.arcs-others.ensures.arcs in
    let are : AreRanksPast task cut ranks = ranks_of_lists task lists a.needed cut ranks others_are c.self.invariant.needed_arcs c.in_ok-ranks.ensures in
    let here : AreRanksPast c.args.self.now cut ranks = subst (λ (t : Task). AreRanksPast t cut ranks) c.self.view_is are in
    IfOk-weaker c.new.result _ _ (λ past is. subst (AreRanksPast c.args.self.now cut) (sym is) here) c.new.ensures
