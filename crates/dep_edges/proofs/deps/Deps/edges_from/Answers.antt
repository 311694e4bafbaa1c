use Rattle.std.proofs.Common.{subst}
use Rattle.dep_edges.specs.Histories.{AreOfHistory, History}
use Rattle.dep_edges.proofs.Found.{among_at_place}
use Rattle.dep_edges.proofs.Out.{adds_edges}
use Rattle.dep_edges.proofs.deps.Deps.edges_from.Goals as goal

pub returns-else-is_err-clause-ok : goal.returns-else-is_err-clause-ok
returns-else-is_err-clause-ok c =
    let h : History = c.args.self.now in
    let place = c.args.place in
    let before = c.args.out.now.items in
    let after = c.add_edges-added.new.out.items in
    adds_edges h.table.keys c.add_edges-added.result h.txns place before after
    (subst (λ (h : History). AreOfHistory h.txns) c.self.view_is c.self.invariant.0.kept)
    (among_at_place h.txns place c.requires)
    c.add_edges-added.ensures.ok
