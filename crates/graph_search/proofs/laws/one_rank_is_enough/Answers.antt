use Rattle.graph_search.proofs.Walks.{inside, outside}
use Rattle.graph_search.proofs.laws.one_rank_is_enough.Goals as goal

pub returns-clause-inside : goal.returns-clause-inside
returns-clause-inside c g ranks walk from to are same is = inside g ranks walk from to are same is

pub returns-clause-outside : goal.returns-clause-outside
returns-clause-outside c g allowed walk from to is = outside g allowed walk from to is
