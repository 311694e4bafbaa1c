use Rattle.std.proofs.Common.{◌≡◌, [], ◌∷◌, ◌++◌, ◌+◌, ◌==◌, ◌∙◌, ap, sym, subst, length-append, Some, None, nat_eq, if◌then◌else◌, arith}
use Rattle.std.specs.HashMap.{get}
use Rattle.process_map.specs.Values.{value_of}
use Rattle.std.specs.Option.{option_copied}
use Rattle.hist_types.specs.declared.types.OpKind.TheVariants as kinds
use Rattle.order_frontier.specs.declared.frontier.Frontier.TheInside.{Inside}
use Rattle.order_frontier.specs.Completions.{frontier_after}
use Rattle.order_frontier.specs.Events.{event_of}
use Rattle.order_frontier.specs.Summaries.{IsSummaryOf}
use Rattle.order_frontier.proofs.Moves.{state-ok, state-idle}
use Rattle.order_frontier.proofs.frontier.Frontier.completed_ok.Goals as goal
use Rattle.order_frontier.proofs.frontier.Frontier.completed_ok.Goals.{in-Some+in_ok-complete, in_default}

pub returns-clause-next : goal.returns-clause-next
returns-clause-next c =
    λ events mops is.
    let f = c.self.inside in
    let p = c.args.process in
    let is' = subst (IsSummaryOf events) (sym c.self.view_is) is in
    let e = event_of kinds.Ok p mops in
    let count = is'.count in
    let longer = length-append events (e ∷ []) in
    let opened : get nat_eq f.opened p ≡ option_copied c.get.result = ap (get nat_eq f.opened) (sym c.number-number.ensures.number) ∙ sym c.get.ensures.value in
    let Holds : Inside → Type 0 = λ f. IsSummaryOf (events ++ e ∷ []) (record { events = f.events + 1; opened = f.opened.entries; recent = f.moving.recent.items; last = f.moving.last }) in
    elim c.match-copied.branch [
      | in-Some+in_ok-complete w ↦
          subst Holds (sym w.self-inside-is)
          (record {
            count = omega (arith, count, longer);
            state =
                state-ok events p mops (get nat_eq f.opened) f.moving.recent.items (value_of f.moving.last) is'.state
                w.in-Some.invocation w.complete.new.self.recent.items (value_of w.complete.new.self.last) (get nat_eq w.remove.new.self)
                (opened ∙ sym w.in-Some.ensures)
                (w.in_ok-complete.ensures.recent ∙ ap (λ k. frontier_after f.moving.recent.items (record { completion = f.events; invocation = w.in-Some.invocation; process = k })) c.number-number.ensures.number
                ∙ ap (λ n. frontier_after f.moving.recent.items (record { completion = n; invocation = w.in-Some.invocation; process = p })) count)
                (λ q. w.in_ok-complete.ensures.last q
                ∙ ap (λ k. if k == q then Some (record { invocation = w.in-Some.invocation; completion = f.events }) else value_of f.moving.last q) c.number-number.ensures.number
                ∙ ap (λ n. if p == q then Some (record { invocation = w.in-Some.invocation; completion = n }) else value_of f.moving.last q) count)
                (λ q. w.remove.ensures.updates.0 q
                ∙ ap (λ k. if k == q then None else get nat_eq f.opened q) c.number-number.ensures.number);
          })
      | in_default w ↦
          subst Holds (sym w.self-inside-is)
          (record {
            count = omega (arith, count, longer);
            state =
                state-idle events p mops (get nat_eq f.opened) f.moving.recent.items (value_of f.moving.last) is'.state
                (opened ∙ sym w.in_default.ensures);
          })
    ]
