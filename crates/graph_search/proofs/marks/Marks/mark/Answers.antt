use Rattle.std.proofs.Common.{true, ap, ◌∙◌, set}
use Rattle.graph_search.proofs.Marked.{marked}
use Rattle.graph_search.proofs.marks.Marks.mark.Goals as goal

pub returns-clause-marked : goal.returns-clause-marked
returns-clause-marked c =
    marked c.self.inside.round c.args.vertex c.self.inside.rounds.items ∙ ap (λ marks. set marks c.args.vertex true) c.self.view_is
