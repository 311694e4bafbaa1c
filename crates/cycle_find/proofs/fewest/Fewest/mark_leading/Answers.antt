use Rattle.std.proofs.Common.{◌≡◌, ◌∙◌, ◌<◌, ◌+◌, suc, [], length, get_or, set, length-set, Contains, refl, arith, below_more, subst}
use Rattle.std.proofs.lemmas.List.{get_or_default}
use Rattle.std.proofs.lemmas.Option.{get_or_from_slice_get}
use Rattle.edge_graph.specs.Vertices.{IsArc, graph_by}
use Rattle.graph_search.specs.Graphs.{HasArc}
use Rattle.cycle_find.specs.Fewest.{IsReadyForFewest}
use Rattle.cycle_find.specs.Tasks.{Task, needed_kinds}
use Rattle.cycle_find.proofs.Turned.{leads_at, still_true, still_marked}
use Rattle.cycle_find.proofs.fewest.Fewest.mark_leading.Goals as goal

pub bounds-marks-from : goal.bounds-marks-from
bounds-marks-from c =
    let a = c.self.inside in
    let task : Task = c.args.self.now in
    let ready : IsReadyForFewest task a.needed a.leading a.last.items a.free a.paid = subst (λ task. IsReadyForFewest task a.needed a.leading a.last.items a.free a.paid) c.self.view_is c.self.invariant in
    let row = c.get-from-items.result.now in
    let same : get_or a.leading c.args.to [] ≡ row = get_or_from_slice_get a.leading c.args.to row [] c.get-from-items.ensures in
    let arc = leads_at a.needed a.leading row c.args.to c.loop-from.from-index ready.leading_there same c.loop-from-test.true in
    let low : get_or row c.loop-from.from-index 0 < length a.needed = arc.0 in
    omega (arith, low, ready.needed_arcs.count, c.loop-from.invariant.length, c.requires.marks)

pub loop-from-preserved : goal.loop-from-preserved
loop-from-preserved c =
    let a = c.self.inside in
    let task : Task = c.args.self.now in
    let ready : IsReadyForFewest task a.needed a.leading a.last.items a.free a.paid = subst (λ task. IsReadyForFewest task a.needed a.leading a.last.items a.free a.paid) c.self.view_is c.self.invariant in
    let to = c.args.to in
    let row = c.get-from-items.result.now in
    let index = c.loop-from.from-index in
    let v = get_or row index 0 in
    let marks = c.loop-from.marks in
    let inv = c.loop-from.invariant in
    let same : get_or a.leading to [] ≡ row = get_or_from_slice_get a.leading to row [] c.get-from-items.ensures in
    let arc : HasArc (graph_by a.needed) v to = leads_at a.needed a.leading row to index ready.leading_there same c.loop-from-test.true in
    let low : v < length a.needed = arc.0 in
    let within : v < length marks = omega (arith, low, ready.needed_arcs.count, inv.length, c.requires.marks) in
    record {
      length = length-set marks v (to + 1) ∙ inv.length;
      true_marks = still_true (IsArc task.graph (needed_kinds task)) marks v to within ((ready.needed_arcs.arcs v to).0 arc) inv.true_marks;
      marked =
          below_more (λ k. get_or (set marks v (to + 1)) (get_or row k 0) 0 ≡ suc to) index (λ k h. still_marked marks v to (get_or row k 0) within (λ other. inv.marked k h))
          (still_marked marks v to v within (λ other. absurd (other refl)));
    }

pub returns-clause-marked : goal.returns-clause-marked
returns-clause-marked c =
    let a = c.self.inside in
    let task : Task = c.args.self.now in
    let ready : IsReadyForFewest task a.needed a.leading a.last.items a.free a.paid = subst (λ task. IsReadyForFewest task a.needed a.leading a.last.items a.free a.paid) c.self.view_is c.self.invariant in
    let to = c.args.to in
    let row = c.get-from-items.result.now in
    let same : get_or a.leading to [] ≡ row = get_or_from_slice_get a.leading to row [] c.get-from-items.ensures in
    λ from arc.
    let (k, h, is) = subst (λ xs. Contains xs from) same ((ready.leading_there.exactly from to).1 ((ready.needed_arcs.arcs from to).1 arc)) in
    subst (λ v. get_or c.loop-from.marks v 0 ≡ suc to) (get_or_default row k 0 from h ∙ is) (c.loop-from.invariant.marked k (omega (arith, h, c.loop-from-test.false)))
