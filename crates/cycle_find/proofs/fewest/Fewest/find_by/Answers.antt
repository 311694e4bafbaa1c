use Rattle.std.proofs.Common.{◌≡◌, ◌∙◌, ◌<◌, ◌≤◌, ◌+◌, ℕ, suc, length, inl, inr, arith, sym, ap, subst}
use Rattle.std.proofs.lemmas.Bool.{cases_lt}
use Rattle.edge_graph.specs.Parts.{edges_in}
use Rattle.dep_edges.specs.Tables.{IsPlace}
use Rattle.edge_graph.specs.Vertices.{graph_by}
use Rattle.graph_search.specs.Costs.{BoundsWalks}
use Rattle.graph_search.specs.Graphs.{HasArc}
use Rattle.cycle_find.specs.Fewest.{AreTrueMarks, IsReadyForFewest, IsWithinOr, NoneTo}
use Rattle.cycle_find.specs.Found.{NeedsMoreThan}
use Rattle.cycle_find.specs.Tasks.{Task, vertices_in}
use Rattle.cycle_find.proofs.FewBack.{bounds_of_lists, bounds_listed, needs_more}
use Rattle.cycle_find.proofs.fewest.Fewest.find_by.Goals as goal
use Rattle.cycle_find.proofs.fewest.Fewest.find_by.Goals.{then-most-floor+in_ok-found+in_default, else-most-floor}

pub loop-most-init : goal.loop-most-init
loop-most-init c =
    let a = c.self.inside in
    let task : Task = c.args.self.now in
    let ready : IsReadyForFewest task a.needed a.leading a.last.items a.free a.paid = subst (λ task. IsReadyForFewest task a.needed a.leading a.last.items a.free a.paid) c.self.view_is c.self.invariant in
    let count : c.len.result ≡ length task.graph.txns = c.len.ensures ∙ ap (λ (t : Task). length t.graph.txns) c.self.view_is in
    let labels = c.in_ok-labels.labels in
    let bound : BoundsWalks (HasArc (graph_by a.free)) (HasArc (graph_by a.paid)) (length task.graph.txns) labels.most labels.numbers =
    subst (λ n. BoundsWalks (HasArc (graph_by a.free)) (HasArc (graph_by a.paid)) n labels.most labels.numbers) count
    (subst (λ m. BoundsWalks (HasArc (graph_by a.free)) (HasArc (graph_by a.paid)) c.len.result m labels.numbers) (sym c.in_ok-labels.ensures.most) (c.in_ok-labels.ensures.bound (graph_by a.paid))) in
    record {
      search = c.requires.search;
      marks = c.requires.marks;
      true_marks = c.requires.true_marks;
      labelled = record {
        one_each = c.in_ok-labels.ensures.numbers ∙ ready.free_arcs.count;
        places = c.in_ok-labels.ensures.places ∙ count;
        bounding = bounds_of_lists task ready.kept ready.by_versions a.needed ready.needed_arcs a.free a.paid ready.free_arcs ready.paid_arcs labels.most labels.numbers bound;
      };
      most = c.in_ok-labels.ensures.most;
      passed = λ none. absurd (omega (arith, none));
    }

pub next-requires-clause-bound : goal.next-requires-clause-bound
next-requires-clause-bound c =
    let a = c.self.inside in
    let task : Task = c.args.self.now in
    let ready : IsReadyForFewest task a.needed a.leading a.last.items a.free a.paid = subst (λ task. IsReadyForFewest task a.needed a.leading a.last.items a.free a.paid) c.self.view_is c.self.invariant in
    let labels = c.loop-most.labels in
    let are = c.loop-most.invariant.labelled in
    subst (λ n. BoundsWalks (HasArc (graph_by a.free)) (HasArc (graph_by a.paid)) n labels.most labels.numbers) (sym are.places)
    (bounds_listed task ready.kept ready.by_versions a.needed ready.needed_arcs a.free a.paid ready.free_arcs ready.paid_arcs labels.most labels.numbers are.bounding)

pub loop-most-preserved : goal.loop-most-preserved
loop-most-preserved c =
    let a = c.self.inside in
    let task : Task = c.args.self.now in
    let ready : IsReadyForFewest task a.needed a.leading a.last.items a.free a.paid = subst (λ task. IsReadyForFewest task a.needed a.leading a.last.items a.free a.paid) c.self.view_is c.self.invariant in
    let inv = c.loop-most.invariant in
    let most = c.loop-most.most in
    let labels = c.next.new.self in
    let next = c.in_ok-next.ensures in
    let More : ℕ → Type 0 = λ n. NeedsMoreThan n task.phenomenon (edges_in task.graph task.level) in
    let places : labels.places ≡ length task.graph.txns = next.places ∙ inv.labelled.places in
    let search : c.if-most-floor.search ≡ vertices_in task.graph = elim c.if-most-floor.branch [
      | then-most-floor+in_ok-found+in_default w ↦ w.search-is ∙ w.in_ok-found.ensures.search ∙ inv.search
      | else-most-floor w ↦ w.search-is ∙ inv.search
    ] in
    let true_marks : AreTrueMarks task c.if-most-floor.marks = elim c.if-most-floor.branch [
      | then-most-floor+in_ok-found+in_default w ↦ subst (AreTrueMarks task) (sym w.marks-is) w.in_ok-found.ensures.true_marks
      | else-most-floor w ↦ subst (AreTrueMarks task) (sym w.marks-is) inv.true_marks
    ] in
    let passed : c.args.floor < most + 1 → More (most + 1) = elim c.if-most-floor.branch [
      | then-most-floor+in_ok-found+in_default w ↦ λ above.
          let asked = c.loop-most.labels.most in
          let none : (to : ℕ) → IsPlace task.graph.txns to → NoneTo task asked to =
          subst (IsWithinOr task asked ((to : ℕ) → IsPlace task.graph.txns to → NoneTo task asked to)) w.in_default.is w.in_ok-found.ensures.found in
          let same : suc asked ≡ most + 1 = omega (arith, inv.most) in
          subst More same (needs_more task ready.kept ready.by_versions asked none)
      | else-most-floor w ↦ λ above. absurd (omega (arith, above, w.if-most-floor.false))
    ] in
    record {
      search = search;
      marks = c.if-most-floor.auto.marks ∙ inv.marks;
      true_marks = true_marks;
      labelled = record {
        one_each = next.numbers ∙ inv.labelled.one_each;
        places = places;
        bounding =
            bounds_of_lists task ready.kept ready.by_versions a.needed ready.needed_arcs a.free a.paid ready.free_arcs ready.paid_arcs labels.most labels.numbers
            (subst (λ n. BoundsWalks (HasArc (graph_by a.free)) (HasArc (graph_by a.paid)) n labels.most labels.numbers) places next.bound);
      };
      most = next.most ∙ ap (λ n. n + 1) inv.most;
      passed = passed;
    }

pub returns-clause-fewest : goal.returns-clause-fewest
returns-clause-fewest c =
    let few = c.min-few.result in
    let most = c.loop-most.most in
    let past : few ≤ most = omega (arith, c.loop-most-test.false) in
    λ given. c.find_far.ensures.fewest (elim (cases_lt c.args.floor most) [
      | inl above ↦ λ walk is. let more = c.loop-most.invariant.passed above walk is in omega (arith, past, more)
      | inr below ↦ λ walk is. omega (arith, past, below, given walk is)
    ])
