use Rattle.std.proofs.Common.{◌≡◌, ◌<◌, Some, length, ◌∙◌, ap, subst, sym}
use Rattle.process_map.specs.Values.{value_of}
use Rattle.txn_pairs.specs.Places.{open_place, with_completed}
use Rattle.txn_pairs.proofs.Completions.{completes_one}
use Rattle.txn_pairs.proofs.Growth.{takes_completion, completed_places, place_found, outcome_completes}
use Rattle.txn_pairs.proofs.Places.{open_place-within, length-completed_at}
use Rattle.txn_pairs.proofs.pairing.Pairing.complete.Goals as goal
use Rattle.txn_pairs.proofs.pairing.Pairing.complete.Goals.{In_ok-place}

found : (c : In_ok-place) → Some c.in_ok-place.place ≡ open_place c.args.op.process c.self.inside.txns
found c =
    place_found c.self.inside.txns (value_of c.self.inside.places) c.args.op c.number.result _ c.self.invariant (c.number.ensures.number ∙ c.process.ensures) c.in_ok-place.ensures.value

pub complete-requires-clause-place : goal.complete-requires-clause-place
complete-requires-clause-place c =
    open_place-within c.args.op.process c.self.inside.txns c.in_ok-place.place (sym (found (goal.at.complete-requires-clause-place c).In_ok-place))

pub invariant_of-self-2 : goal.invariant_of-self-2
invariant_of-self-2 c =
    let ts = c.self.inside.txns in
    completed_places ts _ (value_of c.self.inside.places) (value_of c.remove.new.self) c.args.op c.args.index c.number.result (outcome_completes _ _ c.requires.outcome) c.self.invariant (c.number.ensures.number ∙ c.process.ensures)
    (c.complete.ensures ∙ ap (λ o. with_completed o c.args.index c.args.op ts) (found (goal.at.invariant_of-self-2 c).In_ok-place)) c.in_ok-place.ensures.others

pub returns-clause-takes : goal.returns-clause-takes
returns-clause-takes c events at is =
    let ts = c.self.inside.txns in
    takes_completion c.args.index c.args.op ts _ (outcome_completes _ _ c.requires.outcome)
    (c.complete.ensures ∙ ap (λ o. with_completed o c.args.index c.args.op ts) (found (goal.at.returns-clause-takes c).In_ok-place)) events at (c.self.view_is ∙ is)

pub returns-clause-place : goal.returns-clause-place
returns-clause-place c =
    completes_one c.args.index c.in_ok-place.place c.args.op c.args.self.now _ (outcome_completes _ _ c.requires.outcome)
    (found (goal.at.returns-clause-place c).In_ok-place ∙ ap (open_place c.args.op.process) c.self.view_is) (c.complete.ensures ∙ ap (λ ts. with_completed (Some c.in_ok-place.place) c.args.index c.args.op ts) c.self.view_is)

pub returns-clause-within : goal.returns-clause-within
returns-clause-within c =
    subst (λ n. c.in_ok-place.place < n) (sym (ap length c.complete.ensures ∙ length-completed_at c.in_ok-place.place c.args.index c.args.op c.self.inside.txns))
    (open_place-within c.args.op.process c.self.inside.txns c.in_ok-place.place (sym (found (goal.at.returns-clause-within c).In_ok-place)))

pub returns-in_err-place-clause-takes : goal.returns-in_err-place-clause-takes
returns-in_err-place-clause-takes c events at is =
    let ts = c.self.inside.txns in
    let none = place_found ts (value_of c.self.inside.places) c.args.op c.number.result _ c.self.invariant (c.number.ensures.number ∙ c.process.ensures) c.in_err-place.ensures.value in
    takes_completion c.args.index c.args.op ts ts (outcome_completes _ _ c.requires.outcome) (ap (λ o. with_completed o c.args.index c.args.op ts) none) events at (c.self.view_is ∙ is)
