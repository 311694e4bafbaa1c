use Rattle.std.proofs.Common.{◌≡◌, ◌≤◌, ◌+◌, length, get_or, rules, arith, subst, sym, ◌∙◌}
use Rattle.std.specs.Bool.{OnTrue}
use Rattle.std.proofs.lemmas.Bool.{false≢true}
use Rattle.graph_search.specs.Costs.{BoundsWalks, Labelling, NoneAbove}
use Rattle.graph_search.specs.Graphs.{HasArc, AreRanks, NeverFallBetween}
use Rattle.graph_search.proofs.Bounds.{bounds_checked, bounds_more, refilled}
use Rattle.graph_search.proofs.labels.Labels.next.Goals as goal
use Rattle.graph_search.proofs.labels.Labels.next.Goals.{then-never_fall, else-never_fall}

pub returns-clause-bound : goal.returns-clause-bound
returns-clause-bound g c =
    let free = g.F.Arcs.graph c.args.free.now in
    let paid = g.P.Arcs.graph c.args.paid.now in
    let last = c.self.inside.numbers.items in
    let made = c.in_ok-numbers.numbers in
    let numbers = c.lower_freely.new.numbers in
    let checked = c.if-never_fall.checked in
    let size : length made.items ≡ made.len = search rules in
    let size' : length numbers ≡ made.len = search rules in
    let filled = refilled made.len made.items numbers size size' in
    let kept : OnTrue checked (c.zeros_unless.result.items ≡ numbers) = subst (λ ns. OnTrue checked (c.zeros_unless.result.items ≡ ns)) filled c.zeros_unless.ensures.checked in
    let lower : NoneAbove numbers last = λ v.
    let once : get_or made.items v 0 ≤ get_or last v 0 = subst (λ ns. get_or made.items v 0 ≤ get_or ns v 0) c.deref.ensures.value (c.in_ok-numbers.ensures.lower v) in
    let twice : get_or numbers v 0 ≤ get_or made.items v 0 = subst (λ ns. get_or numbers v 0 ≤ get_or ns v 0) c.deref_mut.ensures.value (c.lower_freely.ensures v) in
    omega (arith, once, twice) in
    let bound : BoundsWalks (HasArc free) (HasArc paid) c.self.inside.places c.self.inside.most last =
    subst (λ (l : Labelling). BoundsWalks (HasArc free) (HasArc paid) l.places l.most l.numbers) (sym c.self.view_is) c.requires.bound in
    bounds_checked (HasArc free) (HasArc paid) c.self.inside.places (c.self.inside.most + 1) numbers c.zeros_unless.result.items checked kept c.zeros_unless.ensures.unchecked
    (λ yes. elim c.if-never_fall.branch [
      | then-never_fall w ↦
          let are : AreRanks free numbers = subst (λ ns. AreRanks free ns) (c.deref-2.ensures.value ∙ filled) (c.never_fall.ensures.0 w.if-never_fall.true) in
          let between : NeverFallBetween paid numbers last =
          subst (λ ns. NeverFallBetween paid ns last) (w.deref-then-never_fall.ensures.value ∙ filled)
          (subst (λ ns. NeverFallBetween paid w.deref-then-never_fall.result.now ns) w.deref-then-never_fall-2.ensures.value
          (w.never_fall_between-checked.ensures.0 (sym w.checked-is ∙ yes))) in
          bounds_more (HasArc free) (HasArc paid) c.self.inside.places c.self.inside.most last numbers lower are.rising between bound
      | else-never_fall w ↦ absurd (false≢true (sym w.if-never_fall.false ∙ sym w.checked-is ∙ yes))
    ])
