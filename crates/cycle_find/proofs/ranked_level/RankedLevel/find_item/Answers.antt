use Rattle.std.proofs.Common.{IfOk, subst}
use Rattle.std.proofs.lemmas.Bool.{OnTrue_at}
use Rattle.edge_graph.specs.Parts.{edges_in}
use Rattle.edge_graph.specs.declared.types.Dependencies.TheVariants.{All}
use Rattle.hist_types.specs.Phenomena.{IsShownBy}
use Rattle.hist_types.specs.declared.types.Phenomenon.TheVariants.{G2Item}
use Rattle.cycle_find.specs.Found.{IsFound}
use Rattle.cycle_find.specs.Tasks.{Site, Task}
use Rattle.cycle_find.proofs.RankedArcs.{among_all}
use Rattle.cycle_find.proofs.ranked_level.RankedLevel.find_item.Goals as goal

pub returns-then-shows_none : goal.returns-then-shows_none
returns-then-shows_none c =
    subst (λ (site : Site). ¬ IsShownBy G2Item (edges_in site.graph site.level)) c.self.view_is
    (OnTrue_at c.if-shows_none.true c.shows_none.ensures G2Item (among_all All))

pub returns : goal.returns
returns c =
    subst (λ (site : Site). IfOk c.find.result (IsFound G2Item (edges_in site.graph site.level))) c.self.view_is
    (subst (λ (task : Task). IfOk c.find.result (IsFound task.phenomenon (edges_in task.graph task.level))) c.new-finder.ensures c.find.ensures)
