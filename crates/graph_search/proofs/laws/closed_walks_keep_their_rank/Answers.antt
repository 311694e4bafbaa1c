use Rattle.std.proofs.Common.{refl}
use Rattle.graph_search.proofs.Walks.{keep, arc}
use Rattle.graph_search.proofs.laws.closed_walks_keep_their_rank.Goals as goal

pub returns-clause-walk : goal.returns-clause-walk
returns-clause-walk c g ranks walk v are is = keep g ranks walk v v are is refl

pub returns-clause-arc : goal.returns-clause-arc
returns-clause-arc c g ranks walk v w are has is = arc g ranks walk v w are has is
