use Rattle.graph_search.specs.Graphs.{HasArc}
use Rattle.graph_search.proofs.Costs.{more, along}
use Rattle.graph_search.proofs.laws.walks_that_may_cost_more.Goals as goal

pub returns-clause-most : goal.returns-clause-most
returns-clause-most c free paid most most' from to rest le is = more (HasArc free) (HasArc paid) most most' from to rest le is

pub returns-clause-arcs : goal.returns-clause-arcs
returns-clause-arcs c free paid free' paid' most from to rest into-free into-paid is =
    along (HasArc free) (HasArc paid) (HasArc free') (HasArc paid') most from to rest into-free into-paid is
