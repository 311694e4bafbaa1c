use Rattle.std.proofs.Common.{◌≡◌, ◌∙◌, ◌<◌, ◌+◌, ℕ, [], length, get_or, arith, below_more, sym, subst, ap}
use Rattle.graph_search.specs.Graphs.{Leaving}
use Rattle.edge_graph.specs.Vertices.{IsArc}
use Rattle.cycle_find.specs.OneDependency.{IsReadyForOne, AreClosingOr, NoneClosingFromBy}
use Rattle.cycle_find.specs.Tasks.{Task, needed_kinds}
use Rattle.cycle_find.proofs.Passing.{arc_at}
use Rattle.cycle_find.proofs.RankedArcs.{arc_to_within}
use Rattle.cycle_find.proofs.Scanning.{NoneBefore, or_weaker, closes_by, none_from_followers}
use Rattle.cycle_find.proofs.one_dependency.OneDependency.follower_before.Goals as goal
use Rattle.cycle_find.proofs.one_dependency.OneDependency.follower_before.Goals.{then-comes_before, else-comes_before}

pub loop-index-preserved : goal.loop-index-preserved
loop-index-preserved c =
    let a = c.self.inside in
    let task : Task = c.args.self.now in
    let kinds = needed_kinds task in
    let version = c.args.version in
    let from = c.args.from in
    let index = c.loop-index.index in
    let all : c.successors-followers.result.to ≡ get_or a.needed version [] = ap (λ (s : Leaving). s.to) c.successors-followers.ensures in
    let ready : IsReadyForOne task a.needed = subst (λ task. IsReadyForOne task a.needed) c.self.view_is c.self.invariant in
    let there : version < length task.graph.txns + length task.graph.versions = arc_to_within task.graph kinds from version c.requires.reads in
    let at : index < length (get_or a.needed version []) = omega (arith, c.loop-index-test.true, c.len-index-end.ensures, ap length all) in
    let follows : IsArc task.graph kinds version c.at-to.result =
    subst (IsArc task.graph kinds version) (sym (c.at-to.ensures.successor ∙ ap (λ to. get_or to index 0) all))
    (arc_at task.graph kinds a.needed version index ready.needed_arcs there at) in
    let none = λ (k : ℕ). NoneBefore task from (get_or c.successors-followers.result.to k 0) in
    let More : Type 0 = (k : ℕ) → k < index + 1 → none k in
    elim c.if-comes_before.branch [
      | then-comes_before w ↦
          let (last, back) = w.if-comes_before.ensures.yes in
          subst (AreClosingOr task More) (sym w.last-is)
          (closes_by task from version c.at-to.result ready.kept ready.by_versions c.requires.version c.requires.from last c.requires.reads follows back)
      | else-comes_before w ↦
          subst (AreClosingOr task More) (sym w.last-is)
          (or_weaker task ((k : ℕ) → k < index → none k) More c.loop-index.last
          (λ passed. below_more none index passed (subst (NoneBefore task from) c.at-to.ensures.successor w.if-comes_before.ensures.no)) c.loop-index.invariant)
    ]

pub returns : goal.returns
returns c =
    let a = c.self.inside in
    let task : Task = c.args.self.now in
    let version = c.args.version in
    let all : c.successors-followers.result.to ≡ get_or a.needed version [] = ap (λ (s : Leaving). s.to) c.successors-followers.ensures in
    let ready : IsReadyForOne task a.needed = subst (λ task. IsReadyForOne task a.needed) c.self.view_is c.self.invariant in
    let none = λ (k : ℕ). NoneBefore task c.args.from (get_or c.successors-followers.result.to k 0) in
    or_weaker task ((k : ℕ) → k < c.loop-index.index → none k) (NoneClosingFromBy task c.args.from version) c.loop-index.last
    (λ passed. none_from_followers task a.needed c.args.from version ready.needed_arcs (λ k h.
    subst (λ to. NoneBefore task c.args.from (get_or to k 0)) all (passed k (omega (arith, h, c.loop-index-test.false, c.len-index-end.ensures, ap length all)))))
    c.loop-index.invariant
