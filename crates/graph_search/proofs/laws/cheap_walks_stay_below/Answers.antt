use Rattle.std.proofs.Common.{arith}
use Rattle.graph_search.specs.Graphs.{HasArc}
use Rattle.graph_search.proofs.Bounds.{bounded, stays_below}
use Rattle.graph_search.proofs.laws.cheap_walks_stay_below.Goals as goal

pub returns-clause-begins : goal.returns-clause-begins
returns-clause-begins c free paid places most top from to numbers rest bound h below is =
    bounded (HasArc free) (HasArc paid) places most most top from to numbers rest bound h below (omega arith) is

pub returns-clause-stays : goal.returns-clause-stays
returns-clause-stays c free paid places most top from to numbers rest bound h below is =
    stays_below (HasArc free) (HasArc paid) places most most top from to numbers rest bound h below (omega arith) is
