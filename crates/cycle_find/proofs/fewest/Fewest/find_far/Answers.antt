use Rattle.std.proofs.Common.{◌≡◌, ◌≤◌, ◌+◌, ◌-◌, ◌∙◌, ℕ, suc, arith, subst}
use Rattle.edge_graph.specs.Parts.{edges_in}
use Rattle.hist_types.specs.Witness.{dependencies_in}
use Rattle.cycle_find.specs.Fewest.{IsWithinOr, ShowsWithin}
use Rattle.cycle_find.specs.Found.{NeedsMoreThan}
use Rattle.cycle_find.specs.Tasks.{Task}
use Rattle.cycle_find.proofs.fewest.Fewest.find_far.Goals as goal

pub loop-least-smaller-in-Some : goal.loop-least-smaller-in-Some
loop-least-smaller-in-Some c =
    let task : Task = c.args.self.now in
    let least = c.loop-least.least in
    let step = c.min-step.result in
    let most = least + step - 1 in
    let count : ℕ = dependencies_in c.loop-least.best in
    let found : ShowsWithin task most c.in-Some.walk =
    subst (IsWithinOr task most (NeedsMoreThan (most + 1) task.phenomenon (edges_in task.graph task.level))) c.in-Some.is c.in_ok-walk.ensures.found in
    let few : dependencies_in c.in-Some.walk ≤ suc most = found.few in
    let first : c.dependency_edges.result ≡ count = c.dependency_edges.ensures in
    let again : c.dependency_edges-in-loop-least.result ≡ count = c.dependency_edges-in-loop-least.ensures in
    omega (arith, few, first, again, c.min-step.ensures, c.saturating_sub.ensures, c.loop-least-test.true)

pub loop-least-preserved-in-Some : goal.loop-least-preserved-in-Some
loop-least-preserved-in-Some c =
    let task : Task = c.args.self.now in
    let most = c.loop-least.least + c.min-step.result - 1 in
    let inv = c.loop-least.invariant in
    let past = c.in_ok-walk.ensures in
    let found : ShowsWithin task most c.in-Some.walk =
    subst (IsWithinOr task most (NeedsMoreThan (most + 1) task.phenomenon (edges_in task.graph task.level))) c.in-Some.is past.found in
    record {
      search = past.search ∙ inv.search;
      marks = past.marks ∙ inv.marks;
      true_marks = past.true_marks;
      shows = found.shows;
      more = inv.more;
    }

pub loop-least-smaller : goal.loop-least-smaller
loop-least-smaller c =
    let count : ℕ = dependencies_in c.loop-least.best in
    let first : c.dependency_edges.result ≡ count = c.dependency_edges.ensures in
    let again : c.dependency_edges-in-loop-least.result ≡ count = c.dependency_edges-in-loop-least.ensures in
    omega (arith, first, again, c.min-step.ensures, c.saturating_sub.ensures, c.loop-least-test.true)

pub loop-least-preserved : goal.loop-least-preserved
loop-least-preserved c =
    let task : Task = c.args.self.now in
    let least = c.loop-least.least in
    let step = c.min-step.result in
    let most = least + step - 1 in
    let inv = c.loop-least.invariant in
    let past = c.in_ok-walk.ensures in
    let More : ℕ → Type 0 = λ n. NeedsMoreThan n task.phenomenon (edges_in task.graph task.level) in
    let count : ℕ = dependencies_in c.loop-least.best in
    let first : c.dependency_edges.result ≡ count = c.dependency_edges.ensures in
    let again : c.dependency_edges-in-loop-least.result ≡ count = c.dependency_edges-in-loop-least.ensures in
    let same : most + 1 ≡ least + step = omega (arith, first, again, c.min-step.ensures, c.saturating_sub.ensures, c.loop-least-test.true) in
    let none : More (most + 1) = subst (IsWithinOr task most (More (most + 1))) c.in-None.is past.found in
    record {
      search = past.search ∙ inv.search;
      marks = past.marks ∙ inv.marks;
      true_marks = past.true_marks;
      shows = inv.shows;
      more = λ given. subst More same none;
    }

pub returns-clause-fewest : goal.returns-clause-fewest
returns-clause-fewest c = λ given other shows.
    let count : ℕ = dependencies_in c.loop-least.best in
    let first : c.dependency_edges.result ≡ count = c.dependency_edges.ensures in
    let above = c.loop-least.invariant.more given other shows in
    omega (arith, first, c.saturating_sub.ensures, c.loop-least-test.false, above)
