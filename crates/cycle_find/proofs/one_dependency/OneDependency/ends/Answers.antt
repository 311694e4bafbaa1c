use Rattle.std.proofs.Common.{◌≡◌, ◌∙◌, ℕ, sym, ap, subst}
use Rattle.std.proofs.lemmas.Result.{IfOk-weaker}
use Rattle.hist_types.specs.declared.types.Level.TheVariants.{Plain}
use Rattle.edge_graph.specs.declared.types.Dependencies.TheVariants.{Rw}
use Rattle.edge_graph.specs.Parts.{edges_in}
use Rattle.cycle_find.specs.Dependencies.{needed}
use Rattle.cycle_find.specs.Found.{IsThinnedAt, NeedsMoreThan}
use Rattle.cycle_find.specs.OneDependency.{IsReadyForOne, NoneClosing, NoneClosingBy}
use Rattle.cycle_find.specs.Tasks.{Task}
use Rattle.cycle_find.proofs.Equal.{is_plain, is_rw, is_not_rw}
use Rattle.cycle_find.proofs.OrderBack.{none_at_plain, none_directly, none_by_versions}
use Rattle.cycle_find.proofs.Scanning.{or_weaker}
use Rattle.cycle_find.proofs.one_dependency.OneDependency.ends.Goals as goal

pub returns-then-eq : goal.returns-then-eq
returns-then-eq c =
    let a = c.self.inside in
    let task : Task = c.args.self.now in
    let ready : IsReadyForOne task a.needed = subst (λ task. IsReadyForOne task a.needed) c.self.view_is c.self.invariant in
    let level : task.level ≡ Plain = ap (λ (t : Task). t.level) (sym c.self.view_is) ∙ is_plain a.level (sym c.eq.ensures ∙ c.if-eq.true) in
    none_at_plain task ready.kept ready.by_versions level

pub returns-then-eq-2 : goal.returns-then-eq-2
returns-then-eq-2 c =
    let a = c.self.inside in
    let task : Task = c.args.self.now in
    let ready : IsReadyForOne task a.needed = subst (λ task. IsReadyForOne task a.needed) c.self.view_is c.self.invariant in
    let by_rw : needed task.phenomenon ≡ Rw =
    ap (λ (t : Task). needed t.phenomenon) (sym c.self.view_is) ∙ sym c.needed.ensures ∙ is_rw c.needed.result (sym c.eq-else-eq.ensures ∙ c.if-eq-2.true) in
    let None : Type 0 = IsThinnedAt task.graph task.level → NeedsMoreThan 1 task.phenomenon (edges_in task.graph task.level) in
    IfOk-weaker c.by_version.result _ _ (λ found. or_weaker task ((v : ℕ) → NoneClosingBy task v) None found (none_by_versions task ready.kept ready.by_versions by_rw)) c.by_version.ensures

pub returns-else-eq-2 : goal.returns-else-eq-2
returns-else-eq-2 c =
    let a = c.self.inside in
    let task : Task = c.args.self.now in
    let ready : IsReadyForOne task a.needed = subst (λ task. IsReadyForOne task a.needed) c.self.view_is c.self.invariant in
    let other = λ (by_rw : needed task.phenomenon ≡ Rw).
    is_not_rw c.needed.result (sym c.eq-else-eq.ensures ∙ c.if-eq-2.false) (c.needed.ensures ∙ ap (λ (t : Task). needed t.phenomenon) c.self.view_is ∙ by_rw) in
    let None : Type 0 = IsThinnedAt task.graph task.level → NeedsMoreThan 1 task.phenomenon (edges_in task.graph task.level) in
    or_weaker task (NoneClosing task) None c.direct.result (none_directly task ready.kept ready.by_versions other) c.direct.ensures
