use Rattle.graph_search.proofs.Walks.{raise, least, most}
use Rattle.graph_search.proofs.laws.walks_keep_or_raise_the_rank.Goals as goal

pub returns-clause-ends : goal.returns-clause-ends
returns-clause-ends c g ranks walk from to are is = raise g ranks walk from to are is

pub returns-clause-least : goal.returns-clause-least
returns-clause-least c g ranks walk from to are is = least g ranks walk from to are is

pub returns-clause-most : goal.returns-clause-most
returns-clause-most c g ranks walk from to are is = most g ranks walk from to are is
