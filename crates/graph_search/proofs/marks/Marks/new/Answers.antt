use Rattle.std.proofs.Common.{◌∙◌, ap, map, eqb}
use Rattle.graph_search.proofs.Marked.{unmarked_start}
use Rattle.graph_search.proofs.marks.Marks.new.Goals as goal

pub returns : goal.returns
returns c =
    ap (map (λ x. eqb x 1)) (c.in_ok-rounds.ensures.items_if_clones_equal (λ y e. e)) ∙ unmarked_start c.args.vertices
