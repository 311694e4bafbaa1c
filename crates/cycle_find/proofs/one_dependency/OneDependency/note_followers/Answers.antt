use Rattle.std.proofs.Common.{◌≡◌, ◌∙◌, ◌<◌, ℕ, [], length, get_or, arith, below_more, sym, subst, ap}
use Rattle.graph_search.specs.Graphs.{Leaving}
use Rattle.hist_types.specs.Transactions.{Transaction}
use Rattle.dep_edges.specs.Tables.{IsPlace, txn_at}
use Rattle.cycle_find.specs.Completions.{IsKnown, lane_of}
use Rattle.cycle_find.specs.OneDependency.{IsReadyForOne}
use Rattle.cycle_find.specs.Tasks.{Task, needed_kinds}
use Rattle.cycle_find.proofs.Passing.{arc_at, each_arc}
use Rattle.cycle_find.proofs.RankedArcs.{behind_version}
use Rattle.cycle_find.proofs.one_dependency.OneDependency.note_followers.Goals as goal

pub txn-follower-requires : goal.txn-follower-requires
txn-follower-requires c =
    let a = c.self.inside in
    let task : Task = c.args.self.now in
    let g = task.graph in
    let kinds = needed_kinds task in
    let version = c.args.version in
    let all : c.successors-followers.result.to ≡ get_or a.needed version [] = ap (λ (s : Leaving). s.to) c.successors-followers.ensures in
    let ready : IsReadyForOne task a.needed = subst (λ task. IsReadyForOne task a.needed) c.self.view_is c.self.invariant in
    let at : c.loop-index.index < length (get_or a.needed version []) = omega (arith, c.loop-index-test.true, c.len-index-end.ensures, ap length all) in
    let next = get_or (get_or a.needed version []) c.loop-index.index 0 in
    let place : IsPlace g.txns next = behind_version g kinds version next c.requires.version (arc_at g kinds a.needed version c.loop-index.index ready.needed_arcs c.requires.vertex at) in
    subst (λ (task : Task). IsPlace task.graph.txns c.at.result) (sym c.self.view_is)
    (subst (IsPlace g.txns) (sym (c.at.ensures.successor ∙ ap (λ to. get_or to c.loop-index.index 0) all)) place)

pub loop-index-preserved : goal.loop-index-preserved
loop-index-preserved c =
    let a = c.self.inside in
    let task : Task = c.args.self.now in
    let version = c.args.version in
    let known = λ (t : Transaction). IsKnown task.level version t c.note.new.earliest in
    let level : a.level ≡ task.level = ap (λ (t : Task). t.level) c.self.view_is in
    let follower : c.txn-follower.result.now ≡ txn_at task.graph.txns c.at.result = c.txn-follower.ensures ∙ ap (λ (t : Task). txn_at t.graph.txns c.at.result) c.self.view_is in
    below_more (λ k. known (txn_at task.graph.txns (get_or c.successors-followers.result.to k 0))) c.loop-index.index
    (λ k h completion ended. c.in_ok-note.ensures.kept (lane_of task.level (txn_at task.graph.txns (get_or c.successors-followers.result.to k 0))) completion (c.loop-index.invariant k h completion ended))
    (subst (λ v. known (txn_at task.graph.txns v)) c.at.ensures.successor
    (subst known follower (subst (λ level. IsKnown level version c.txn-follower.result.now c.note.new.earliest) level c.in_ok-note.ensures.noted)))

pub returns : goal.returns
returns c =
    let a = c.self.inside in
    let task : Task = c.args.self.now in
    let version = c.args.version in
    let all : c.successors-followers.result.to ≡ get_or a.needed version [] = ap (λ (s : Leaving). s.to) c.successors-followers.ensures in
    let ready : IsReadyForOne task a.needed = subst (λ task. IsReadyForOne task a.needed) c.self.view_is c.self.invariant in
    let known = λ (v : ℕ). IsKnown task.level version (txn_at task.graph.txns v) c.loop-index.earliest in
    each_arc task.graph (needed_kinds task) a.needed version known ready.needed_arcs (λ k h.
    subst (λ to. known (get_or to k 0)) all (c.loop-index.invariant k (omega (arith, h, c.loop-index-test.false, c.len-index-end.ensures, ap length all))))
