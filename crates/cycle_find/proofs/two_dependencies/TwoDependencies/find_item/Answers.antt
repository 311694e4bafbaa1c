use Rattle.std.proofs.Common.{subst}
use Rattle.std.proofs.lemmas.Result.{IfOk-weaker}
use Rattle.edge_graph.specs.declared.types.Dependencies.TheVariants.{Rw}
use Rattle.cycle_find.specs.Dependencies.{direct_back, way_back}
use Rattle.cycle_find.specs.TwoDependencies.{IsTwoOr, NoPair}
use Rattle.cycle_find.proofs.Mutual.{none_at_all, two_or}
use Rattle.cycle_find.proofs.two_dependencies.TwoDependencies.find_item.Goals as goal

pub returns-in_default : goal.returns-in_default
returns-in_default c =
    let search = c.args.self.now in
    let is = c.in_default.is in
    let by_rw : NoPair search Rw = subst (IsTwoOr search (NoPair search Rw)) is c.in_ok-skew.ensures in
    IfOk-weaker c.by_versions.result _ _
    (λ found. two_or search (NoPair search (direct_back search.phenomenon)) (NoPair search (way_back search.phenomenon)) found (none_at_all search c.requires by_rw)) c.by_versions.ensures
