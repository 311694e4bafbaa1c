use Rattle.std.proofs.Common.{arith, subst}
use Rattle.std.proofs.lemmas.Bool.{OnFalse_from}
use Rattle.dep_edges.specs.Tables.{IsPlace}
use Rattle.cycle_find.specs.OneDependency.{IsReadyForOne, IsBefore}
use Rattle.cycle_find.specs.Tasks.{Task}
use Rattle.cycle_find.proofs.OrderBack.{lower_place}
use Rattle.cycle_find.proofs.one_dependency.OneDependency.comes_before.Goals as goal

pub returns-else-first-second-clause-no : goal.returns-else-first-second-clause-no
returns-else-first-second-clause-no c =
    let a = c.self.inside in
    let task : Task = c.args.self.now in
    let ts = task.graph.txns in
    let ready : IsReadyForOne task a.needed = subst (λ task. IsReadyForOne task a.needed) c.self.view_is c.self.invariant in
    let none : IsPlace ts c.args.first → ¬ IsBefore task c.args.first c.args.second = λ place before.
    absurd (omega (arith, c.if-first-second.false, lower_place ts ready.kept task.level c.args.first c.args.second place c.requires before)) in
    OnFalse_from _ _ (λ is. none)
