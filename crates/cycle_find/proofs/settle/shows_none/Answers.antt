use Rattle.std.proofs.Common.{subst}
use Rattle.std.proofs.lemmas.Bool.{OnTrue_at, OnTrue_from}
use Rattle.edge_graph.specs.Parts.{edges_in}
use Rattle.hist_types.specs.declared.types.Level.TheVariants.{Plain}
use Rattle.cycle_find.specs.Found.{ShowNoneOver}
use Rattle.cycle_find.specs.Ways.{Rises}
use Rattle.cycle_find.proofs.RankedArcs.{at_level, fewer_within_plain, among_itself}
use Rattle.cycle_find.proofs.Returning.{settled}
use Rattle.cycle_find.proofs.settle.shows_none.Goals as goal

pub new-requires-clause-coarse : goal.new-requires-clause-coarse
new-requires-clause-coarse c = at_level c.args.graph.now c.args.dependencies Plain c.args.coarse.now c.requires.coarse

pub new-requires-clause-ranks : goal.new-requires-clause-ranks
new-requires-clause-ranks c =
    let d = c.args.dependencies in
    fewer_within_plain c.args.graph.now d d c.args.level c.args.coarse.now c.args.ranks.now (among_itself d) c.requires.ranks

pub returns : goal.returns
returns c =
    let g = c.args.graph.now in
    let d = c.args.dependencies in
    OnTrue_from c.rise.result (ShowNoneOver d (edges_in g c.args.level))
    (λ yes.
    settled g d c.args.level c.args.coarse.now c.args.ranks.now c.new.ensures.kept c.new.ensures.rw
    (at_level g d c.args.level c.args.coarse.now c.requires.coarse) c.requires.ranks
    (subst Rises c.new.ensures.view (OnTrue_at yes c.rise.ensures)))
