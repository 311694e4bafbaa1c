use Rattle.std.proofs.Common.{◌≡◌, ◌∙◌, [], ◌∷◌, List, sym, ap, subst}
use Rattle.hist_types.specs.Edges.{Edge, edges_at}
use Rattle.hist_types.specs.declared.types.Level.TheVariants.{Plain}
use Rattle.edge_graph.specs.Kinds.{kinds_of}
use Rattle.edge_graph.specs.declared.types.Kinds.{Kinds}
use Rattle.cycle_find.specs.Dependencies.{needed}
use Rattle.cycle_find.specs.Found.{ShowsByFewest}
use Rattle.cycle_find.specs.Single.{IsDependencyBetween, IsDependencyIfAny}
use Rattle.cycle_find.proofs.ThereAndBack.{by_two}
use Rattle.cycle_find.proofs.single.there_and_back.Goals as goal

pub returns-in_default : goal.returns-in_default
returns-in_default c = λ pair.
    let h = c.args.deps.now in
    let from = c.args.ends.from in
    let to = c.args.ends.to in
    let kinds : c.of-out.result ≡ kinds_of (needed c.args.phenomenon) Plain =
    c.of-out.ensures ∙ ap (λ d. kinds_of d Plain) c.needed.ensures in
    let (e, is) = pair.leads in
    subst (IsDependencyIfAny h c.of-out.result from to) c.in_default.is c.in_ok-edge.ensures pair.first pair.last e
    (subst (λ (kinds : Kinds). IsDependencyBetween h kinds from to e) (sym kinds) is)

pub returns-in_default-2 : goal.returns-in_default-2
returns-in_default-2 c = λ pair.
    let h = c.args.deps.now in
    let from = c.args.ends.from in
    let to = c.args.ends.to in
    let (e, is) = pair.returns in
    subst (IsDependencyIfAny h c.of-kinds.result to from) c.in_default-2.is c.in_ok-edge_back.ensures pair.last pair.first e
    (subst (λ (kinds : Kinds). IsDependencyBetween h kinds to from e) (sym c.of-kinds.ensures) is)

pub returns : goal.returns
returns c =
    let h = c.args.deps.now in
    let from = c.args.ends.from in
    let to = c.args.ends.to in
    let e : Edge = c.in-Some.edge in
    let back : Edge = c.in-Some-2.edge_back in
    let found : IsDependencyBetween h c.of-out.result from to e =
    subst (IsDependencyIfAny h c.of-out.result from to) c.in-Some.is c.in_ok-edge.ensures in
    let found-2 : IsDependencyBetween h c.of-kinds.result to from back =
    subst (IsDependencyIfAny h c.of-kinds.result to from) c.in-Some-2.is c.in_ok-edge_back.ensures in
    let kinds : c.of-out.result ≡ kinds_of (needed c.args.phenomenon) Plain =
    c.of-out.ensures ∙ ap (λ d. kinds_of d Plain) c.needed.ensures in
    let items : c.in_ok-closing.field-0 ≡ e ∷ back ∷ [] =
    c.in_ok-closing.ensures ∙ ap (λ (es : List Edge). e ∷ es) c.in_ok-rest.ensures.items in
    subst (ShowsByFewest c.args.phenomenon (edges_at h.table.keys Plain h.txns)) (sym items)
    (by_two h c.args.phenomenon c.args.back from to e back c.requires
    (subst (λ (kinds : Kinds). IsDependencyBetween h kinds from to e) kinds found)
    (subst (λ (kinds : Kinds). IsDependencyBetween h kinds to from back) c.of-kinds.ensures
    found-2))
