use Rattle.std.proofs.Common.{◌≡◌, ◌≤◌, length, get_or, rules, arith, subst, ap, ◌∙◌}
use Rattle.std.specs.Bool.{OnTrue}
use Rattle.graph_search.specs.Graphs.{HasArc, AreRanks}
use Rattle.graph_search.proofs.Bounds.{bounds_checked, bounds_free, refilled}
use Rattle.graph_search.proofs.labels.Labels.start.Goals as goal

pub returns-clause-bound : goal.returns-clause-bound
returns-clause-bound g c paid =
    let graph = g.F.Arcs.graph c.args.free.now in
    let own = c.in_ok-numbers.numbers in
    let numbers = c.lower_freely.new.numbers in
    let checked = c.never_fall-checked.result in
    let before : c.deref_mut.result.now ≡ own.items = search rules in
    let size : length own.items ≡ own.len = search rules in
    let size' : length numbers ≡ own.len = search rules in
    let filled = refilled own.len own.items numbers size size' in
    let kept : OnTrue checked (c.zeros_unless.result.items ≡ numbers) = subst (λ ns. OnTrue checked (c.zeros_unless.result.items ≡ ns)) filled c.zeros_unless.ensures.checked in
    bounds_checked (HasArc graph) (HasArc paid) c.args.places 0 numbers c.zeros_unless.result.items checked kept c.zeros_unless.ensures.unchecked
    (λ yes.
    let are : AreRanks graph numbers = subst (λ ns. AreRanks graph ns) (c.deref.ensures.value ∙ filled) (c.never_fall-checked.ensures.0 yes) in
    bounds_free (HasArc graph) (HasArc paid) c.args.places numbers
    (λ v h.
    let own-place : get_or own.items v 0 ≤ v = c.in_ok-numbers.ensures.own v h in
    let lower : get_or numbers v 0 ≤ get_or c.deref_mut.result.now v 0 = c.lower_freely.ensures v in
    omega (arith, own-place, lower, ap (λ ns. get_or ns v 0) before))
    are.rising)
