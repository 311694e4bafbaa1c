use Rattle.std.proofs.Common.{sym, subst}
use Rattle.dep_edges.specs.Possible.{RulesOutReads}
use Rattle.dep_edges.proofs.Ruled.{all_ruled}
use Rattle.dep_edges.proofs.deps.Deps.of_pieces.Goals as goal

pub strays-requires : goal.strays-requires
strays-requires c =
    let h = c.args.history in
    subst (RulesOutReads h.txns) (sym c.possible_in-possible.ensures) (all_ruled h c.args.pieces.now c.requires.versions c.requires.pieces)

pub invariant_of-result : goal.invariant_of-result
invariant_of-result c =
    let h = c.args.history in
    let ruled = subst (RulesOutReads h.txns) (sym c.possible_in-possible.ensures) (all_ruled h c.args.pieces.now c.requires.versions c.requires.pieces) in
    (record { kept = c.requires.kept; versions = c.requires.versions }, c.in_ok-nodes.ensures, ruled, c.in_ok-strays.ensures)
