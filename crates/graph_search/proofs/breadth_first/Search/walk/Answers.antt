use Rattle.std.proofs.Common.{ℕ, Vec, Global, option_map}
use Rattle.std.proofs.lemmas.Result.{IfOk-weaker}
use Rattle.graph_search.specs.Graphs.{HasArcInto}
use Rattle.graph_search.proofs.Costs.{walk_to_single}
use Rattle.graph_search.proofs.breadth_first.Search.walk.Goals as goal

pub returns-clause-walk : goal.returns-clause-walk
returns-clause-walk g c =
    let graph = g.G.Arcs.graph c.args.graph.now in
    let Leads = HasArcInto graph (g.S.Vertices.members c.args.allowed.now) in
    IfOk-weaker c.walk_within.result _ _
    (λ found is. walk_to_single Leads c.vertices.result c.args.from c.args.to (option_map (λ (walk : Vec ℕ Global). walk.items) found) c.if-from-to.false is)
    c.walk_within.ensures.walk
