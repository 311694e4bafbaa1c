use Rattle.std.proofs.Common.{option_map, subst}
use Rattle.std.proofs.lemmas.Result.{IfOk-weaker}
use Rattle.cycle_find.specs.OneDependency.{order_kinds, IsPathIfAny}
use Rattle.cycle_find.specs.Tasks.{Task}
use Rattle.cycle_find.proofs.Scanning.{path_found}
use Rattle.cycle_find.proofs.one_dependency.OneDependency.path.Goals as goal

pub returns : goal.returns
returns c =
    let a = c.self.inside in
    let task : Task = record { graph = a.graph.now; phenomenon = a.phenomenon; level = a.level } in
    IfOk-weaker c.walk.result _ _
    (λ path is.
    subst (λ task. IsPathIfAny task c.args.from c.args.to path) c.self.view_is
    (path_found task.graph (order_kinds task) c.arcs-order.result c.vertices.result c.args.from c.args.to c.arcs-order.ensures.arcs (option_map (λ walk. walk.items) path) is))
    c.walk.ensures.walk
