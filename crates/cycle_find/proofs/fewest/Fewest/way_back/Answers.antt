use Rattle.std.proofs.Common.{◌≡◌, ◌∙◌, ◌<◌, ◌+◌, suc, length, get_or, option_map, sym, ap, subst, arith}
use Rattle.std.proofs.lemmas.List.{get_or_default}
use Rattle.std.proofs.lemmas.Result.{IfOk-weaker}
use Rattle.cycle_find.specs.Fewest.{IsReadyForFewest}
use Rattle.cycle_find.specs.Tasks.{Task}
use Rattle.cycle_find.proofs.FewBack.{return_by}
use Rattle.cycle_find.proofs.fewest.Fewest.way_back.Goals as goal

pub returns-clause-way : goal.returns-clause-way
returns-clause-way c =
    let a = c.self.inside in
    let task : Task = c.args.self.now in
    let ready : IsReadyForFewest task a.needed a.leading a.last.items a.free a.paid = subst (λ task. IsReadyForFewest task a.needed a.leading a.last.items a.free a.paid) c.self.view_is c.self.invariant in
    let to = c.args.to in
    let count : c.len.result ≡ length task.graph.txns = c.len.ensures ∙ ap (λ (t : Task). length t.graph.txns) c.self.view_is in
    let there : to < length a.last.items = omega (arith, ready.last_there.one_each, ready.needed_arcs.count, c.requires.to) in
    let top : c.index.result.now ≡ get_or a.last.items to 0 = c.index.ensures ∙ sym (get_or_default a.last.items to 0 c.index.result.now there) in
    let mark : to + 1 ≡ suc to = omega arith in
    IfOk-weaker c.walk_within.result _ _
    (λ found.
    return_by task ready.kept ready.by_versions a.needed ready.needed_arcs a.free a.paid ready.free_arcs ready.paid_arcs a.last.items c.args.labels.now ready.last_there c.requires.labels c.args.marks.now to c.requires.to
    c.requires.true_marks c.requires.marked c.len.result c.index.result.now (to + 1) c.most.result (option_map (λ way. way.items) found) count top mark c.most.ensures)
    c.walk_within.ensures.walk
