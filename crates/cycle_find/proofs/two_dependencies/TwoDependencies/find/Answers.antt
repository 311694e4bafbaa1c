use Rattle.std.proofs.Common.{IfOk, subst}
use Rattle.cycle_find.specs.TwoDependencies.{IsTwoOr, NoPair}
use Rattle.cycle_find.proofs.Mutual.{same_back}
use Rattle.cycle_find.proofs.two_dependencies.TwoDependencies.find.Goals as goal

pub returns-in_default : goal.returns-in_default
returns-in_default c =
    let search = c.args.self.now in
    subst (λ back. IfOk c.by_versions.result (IsTwoOr search (NoPair search back))) (same_back search.phenomenon c.in_default.not-G2Item) c.by_versions.ensures
