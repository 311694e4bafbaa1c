use Rattle.std.proofs.Common.{◌≡◌, ◌∙◌, [], length, get_or, option_map, sym, ap, subst}
use Rattle.std.proofs.lemmas.Bool.{eqb-true}
use Rattle.std.proofs.lemmas.Option.{get_or_from_slice_get}
use Rattle.cycle_find.specs.Fewest.{IsReadyForFewest, IsReturnIfAny, IsReturnAlong}
use Rattle.cycle_find.specs.Tasks.{Task}
use Rattle.cycle_find.proofs.FewBack.{none_leads}
use Rattle.cycle_find.proofs.fewest.Fewest.find_to_past.Goals as goal

pub returns-then-is_empty-clause-found : goal.returns-then-is_empty-clause-found
returns-then-is_empty-clause-found c =
    let a = c.self.inside in
    let task : Task = c.args.self.now in
    let ready : IsReadyForFewest task a.needed a.leading a.last.items a.free a.paid = subst (λ task. IsReadyForFewest task a.needed a.leading a.last.items a.free a.paid) c.self.view_is c.self.invariant in
    let row = c.get.result.now in
    let same : get_or a.leading c.args.to [] ≡ row = get_or_from_slice_get a.leading c.args.to row [] c.get.ensures in
    let empty : length row ≡ 0 = eqb-true (length row) 0 (sym c.is_empty.ensures ∙ c.if-is_empty.true) in
    none_leads task ready.kept ready.by_versions a.needed ready.needed_arcs a.leading c.args.most c.args.to ready.leading_there (ap length same ∙ empty)

pub returns-in-Some-clause-found : goal.returns-in-Some-clause-found
returns-in-Some-clause-found c =
    let task : Task = c.args.self.now in
    let most = c.args.most in
    let to = c.args.to in
    let along : IsReturnAlong task most to c.in-Some.way.items = subst (λ found. IsReturnIfAny task most to (option_map (λ way. way.items) found)) c.in-Some.is c.in_ok-way.ensures.way in
    c.close.ensures most (subst (IsReturnAlong task most to) (sym c.deref.ensures.value) along)
