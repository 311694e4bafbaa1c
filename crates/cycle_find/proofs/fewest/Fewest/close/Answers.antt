use Rattle.std.proofs.Common.{◌≡◌, ◌∙◌, ◌∷◌, ◌-◌, ℕ, length, get_or, sym, ap, subst}
use Rattle.edge_graph.specs.Costs.{AreAsCheap}
use Rattle.edge_graph.specs.Kinds.{kinds_of}
use Rattle.edge_graph.specs.Parts.{Parts}
use Rattle.edge_graph.specs.Walks.{IsEdgeBetween, IsEdgeIfAny, IsTxnWalk, AreEdgesAlong}
use Rattle.dep_edges.specs.Tables.{IsPlace}
use Rattle.hist_types.specs.Edges.{Edge}
use Rattle.hist_types.specs.declared.types.Level.TheVariants.{Plain}
use Rattle.cycle_find.specs.Dependencies.{way_back}
use Rattle.cycle_find.specs.Fewest.{IsReturnAlong, ShowsWithin}
use Rattle.cycle_find.specs.Tasks.{Task, task_of, needed_kinds, back_kinds}
use Rattle.cycle_find.proofs.FewBack.{walk_along, shows_within}
use Rattle.cycle_find.proofs.fewest.Fewest.close.Goals as goal

pub edge_between-requires-clause-from : goal.edge_between-requires-clause-from
edge_between-requires-clause-from c =
    let a = c.self.inside in
    let g : Parts = a.graph.now in
    let task : Task = task_of g a.phenomenon a.level in
    let way = c.args.way.now in
    let to = c.args.to in
    let (most, given) = subst (λ (t : Task). (most : ℕ) × IsReturnAlong t most to way) (sym c.self.view_is) c.requires in
    let (from, edge, walk) = given in
    let steps = walk_along task c.self.invariant.kept c.self.invariant.by_versions most to from way walk in
    subst (IsPlace g.txns) (sym steps.ends) edge.1.leads.first

pub returns-in_default : goal.returns-in_default
returns-in_default c =
    let a = c.self.inside in
    let g : Parts = a.graph.now in
    let task : Task = task_of g a.phenomenon a.level in
    let way = c.args.way.now in
    let to = c.args.to in
    let (most, given) = subst (λ (t : Task). (most : ℕ) × IsReturnAlong t most to way) (sym c.self.view_is) c.requires in
    let (from, edge, walk) = given in
    let steps = walk_along task c.self.invariant.kept c.self.invariant.by_versions most to from way walk in
    let kinds : c.of-kinds.result ≡ needed_kinds task = c.of-kinds.ensures ∙ ap (λ d. kinds_of d Plain) c.needed.ensures in
    let none : (e : Edge) → ¬ IsEdgeBetween g c.of-kinds.result (get_or way (length way - 1) 0) to e =
    subst (IsEdgeIfAny g c.of-kinds.result (get_or way (length way - 1) 0) to) c.in_default.is c.in_ok-edge.ensures.edge in
    let there : IsEdgeBetween g c.of-kinds.result (get_or way (length way - 1) 0) to edge.0 =
    subst (λ k. IsEdgeBetween g k (get_or way (length way - 1) 0) to edge.0) (sym kinds) (subst (λ v. IsEdgeBetween g (needed_kinds task) v to edge.0) (sym steps.ends) edge.1) in
    absurd (none edge.0 there)

pub edges_along-requires : goal.edges_along-requires
edges_along-requires c =
    let a = c.self.inside in
    let g : Parts = a.graph.now in
    let task : Task = task_of g a.phenomenon a.level in
    let way = c.args.way.now in
    let to = c.args.to in
    let (most, given) = subst (λ (t : Task). (most : ℕ) × IsReturnAlong t most to way) (sym c.self.view_is) c.requires in
    let (from, edge, walk) = given in
    let steps = walk_along task c.self.invariant.kept c.self.invariant.by_versions most to from way walk in
    subst (λ d. IsTxnWalk g (kinds_of d a.level) way) (sym c.way_back.ensures) (to, from, record { first = edge.1.leads.last; last = edge.1.leads.first; steps = steps })

pub returns : goal.returns
returns c most given =
    let a = c.self.inside in
    let g : Parts = a.graph.now in
    let task : Task = task_of g a.phenomenon a.level in
    let way = c.args.way.now in
    let to = c.args.to in
    let e = c.in-Some.edge in
    let back = c.in_ok-back.back.items in
    let (from, has, walk) = subst (λ (t : Task). IsReturnAlong t most to way) (sym c.self.view_is) given in
    let steps = walk_along task c.self.invariant.kept c.self.invariant.by_versions most to from way walk in
    let kinds : c.of-kinds.result ≡ needed_kinds task = c.of-kinds.ensures ∙ ap (λ d. kinds_of d Plain) c.needed.ensures in
    let last : IsEdgeBetween g c.of-kinds.result (get_or way (length way - 1) 0) to e =
    subst (IsEdgeIfAny g c.of-kinds.result (get_or way (length way - 1) 0) to) c.in-Some.is c.in_ok-edge.ensures.edge in
    let is : IsEdgeBetween g (needed_kinds task) from to e =
    subst (λ v. IsEdgeBetween g (needed_kinds task) v to e) steps.ends (subst (λ k. IsEdgeBetween g k (get_or way (length way - 1) 0) to e) kinds last) in
    let are : AreEdgesAlong g (back_kinds task) way back = subst (λ d. AreEdgesAlong g (kinds_of d a.level) way back) c.way_back.ensures c.in_ok-back.ensures.edges in
    let cheap : AreAsCheap g (way_back a.phenomenon) a.level way back = subst (λ d. AreAsCheap g d a.level way back) c.way_back.ensures c.in_ok-back.ensures.cheap in
    let items : c.in_ok-closing.field-0 ≡ e ∷ back = c.in_ok-closing.ensures in
    subst (λ (t : Task). ShowsWithin t most c.in_ok-closing.field-0) c.self.view_is
    (subst (ShowsWithin task most) (sym items) (shows_within task c.self.invariant.kept c.self.invariant.by_versions most to from way e back walk is are cheap))
