use Rattle.std.proofs.Common.{◌≡◌, ◌∙◌, ◌+◌, suc, length, option_map, ap, subst, arith}
use Rattle.std.proofs.lemmas.Result.{IfOk-weaker}
use Rattle.cycle_find.specs.Fewest.{IsReadyForFewest}
use Rattle.cycle_find.specs.Tasks.{Task}
use Rattle.cycle_find.proofs.Past.{return_in_rank}
use Rattle.cycle_find.proofs.fewest.Fewest.way_in_rank.Goals as goal

pub returns-clause-way : goal.returns-clause-way
returns-clause-way c =
    let a = c.self.inside in
    let task : Task = c.args.self.now in
    let ready : IsReadyForFewest task a.needed a.leading a.last.items a.free a.paid = subst (λ task. IsReadyForFewest task a.needed a.leading a.last.items a.free a.paid) c.self.view_is c.self.invariant in
    let to = c.args.to in
    let count : c.len.result ≡ length task.graph.txns = c.len.ensures ∙ ap (λ (t : Task). length t.graph.txns) c.self.view_is in
    let mark : to + 1 ≡ suc to = omega arith in
    IfOk-weaker c.walk_within.result _ _
    (λ found.
    return_in_rank task ready.kept ready.by_versions a.needed ready.needed_arcs a.free a.paid ready.free_arcs ready.paid_arcs c.args.most to c.args.ranks.now c.requires.ranks c.requires.passed c.args.marks.now c.requires.to
    c.requires.true_marks c.requires.marked c.len.result c.rank.result (to + 1) (option_map (λ way. way.items) found) count c.rank.ensures mark)
    c.walk_within.ensures.walk
