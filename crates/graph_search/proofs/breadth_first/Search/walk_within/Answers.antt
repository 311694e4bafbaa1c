use Rattle.std.proofs.Common.{◌≡◌, ◌-◌, length, IsTrue, arith, rules, ap, sym, subst, refl, ◌∙◌}
use Rattle.std.proofs.lemmas.Bool.{OnTrue_at}
use Rattle.graph_search.specs.Graphs.{HasArcInto, IsWalk}
use Rattle.graph_search.specs.Visits.{vertex_at, EndsInOther, IsStep}
use Rattle.graph_search.proofs.Searching.{cheap_walk}
use Rattle.graph_search.proofs.breadth_first.Search.walk_within.Goals as goal

pub returns-clause-walk : goal.returns-clause-walk
returns-clause-walk g c =
    let Free = HasArcInto (g.F.Arcs.graph c.args.free.now) (g.S.Vertices.members c.args.allowed.now) in
    let Paid = HasArcInto (g.P.Arcs.graph c.args.paid.now) (g.S.Vertices.members c.args.allowed.now) in
    let queue = c.search.new.self.queue.items in
    let last = c.len-last.result - 1 in
    let is-last : last ≡ length queue - 1 = search rules in
    let first : vertex_at queue 0 ≡ c.args.from = c.in_ok-search.ensures.first in
    let found : EndsInOther (g.T.Vertices.members c.args.targets.now) queue = OnTrue_at c.if-not-branch.false c.in_ok-search.ensures.found in
    let walk : IsWalk (IsStep queue) c.args.from (vertex_at queue last) c.in_ok-walk_to.field-0.items =
    subst (λ v. IsWalk (IsStep queue) v (vertex_at queue last) c.in_ok-walk_to.field-0.items) first c.in_ok-walk_to.ensures in
    let end : vertex_at queue last ≡ vertex_at queue (length queue - 1) = ap (vertex_at queue) is-last in
    let targets = g.T.Vertices.members c.args.targets.now in (
      vertex_at queue last,
      subst (λ v. IsTrue (targets.has v)) (sym end) found.0,
      λ same. found.1 (first ∙ same ∙ end),
      cheap_walk Free Paid c.args.most c.args.from (vertex_at queue last) last queue c.in_ok-walk_to.field-0.items c.in_ok-search.ensures.cheap
          (omega (arith, is-last, c.in_ok-search.ensures.reached.some)) refl walk,
    )
