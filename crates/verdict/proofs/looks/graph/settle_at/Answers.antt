use Rattle.std.proofs.Common.{subst}
use Rattle.edge_graph.specs.Parts.{edges_in}
use Rattle.cycle_find.specs.Found.{IsFound, HasFewestIfAny}
use Rattle.cycle_find.specs.Tasks.{task_of}
use Rattle.verdict.proofs.Searching.{found_at, absent_at, needs_over}
use Rattle.verdict.proofs.looks.graph.settle_at.Goals as goal

pub returns-in-Some-clause-right : goal.returns-in-Some-clause-right
returns-in-Some-clause-right c =
    let g = c.args.graph.now in
    let site = c.at.result in
    c.show.ensures.right g.keys g.txns c.requires.right
    (found_at g site c.args.phenomenon c.args.level c.in-Some.walk c.requires.thinned c.at.ensures
    (subst (IsFound c.args.phenomenon (edges_in site.graph site.level)) c.in-Some.is c.in_ok-walk.ensures.found)
    (subst (HasFewestIfAny (task_of site.graph c.args.phenomenon site.level)) c.in-Some.is c.in_ok-walk.ensures.fewest))

pub returns-in-None-clause-right : goal.returns-in-None-clause-right
returns-in-None-clause-right c =
    let g = c.args.graph.now in
    let site = c.at.result in
    c.rule_out.ensures.right g.keys g.txns c.requires.right
    (absent_at g site c.args.phenomenon c.args.level c.requires.thinned c.at.ensures
    (subst (IsFound c.args.phenomenon (edges_in site.graph site.level)) c.in-None.is c.in_ok-walk.ensures.found))

pub find-requires : goal.find-requires
find-requires c =
    let g = c.args.graph.now in
    needs_over g c.at.result c.args.phenomenon c.args.level c.needs_at-least.result c.requires.thinned c.at.ensures (c.needs_at-least.ensures g.keys g.txns c.requires.right)
