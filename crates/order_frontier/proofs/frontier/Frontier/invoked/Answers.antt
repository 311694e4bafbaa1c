use Rattle.std.proofs.Common.{◌≡◌, [], ◌∷◌, ◌==◌, ◌∙◌, ap, sym, subst, length, length-append, Some, nat_eq, if◌then◌else◌, option_to_list, arith}
use Rattle.std.specs.HashMap.{get}
use Rattle.process_map.specs.Values.{value_of}
use Rattle.hist_types.specs.declared.types.OpKind.TheVariants as kinds
use Rattle.order_frontier.specs.Events.{event_of}
use Rattle.order_frontier.specs.Summaries.{IsSummaryOf}
use Rattle.order_frontier.proofs.Moves.{state-invoke, thinned-invoke, once-invoke}
use Rattle.order_frontier.proofs.frontier.Frontier.invoked.Goals as goal

pub returns-clause-next : goal.returns-clause-next
returns-clause-next c =
    λ events mops is.
    let f = c.self.inside in
    let is' = subst (IsSummaryOf events) (sym c.self.view_is) is in
    let count = is'.count in
    let longer = length-append events (event_of kinds.Invoke c.args.process mops ∷ []) in
    record {
      count = omega (arith, count, longer);
      state =
          state-invoke events c.args.process mops (get nat_eq f.opened) f.moving.recent.items (value_of f.moving.last) is'.state (get nat_eq c.insert.new.self)
          (λ p. c.in_ok-insert.ensures.updates.0 p
          ∙ ap (λ k. if k == p then Some f.events else get nat_eq f.opened p) c.number-2.ensures.number
          ∙ ap (λ n. if c.args.process == p then Some n else get nat_eq f.opened p) count);
    }

pub returns-clause-thinned : goal.returns-clause-thinned
returns-clause-thinned c =
    λ events mops is.
    let f = c.self.inside in
    let is' = subst (IsSummaryOf events) (sym c.self.view_is) is in
    let made : c.in_ok-before.before ≡ record { process = c.args.process; invocation = length events; in_process = option_to_list (value_of f.moving.last c.args.process); in_realtime = f.moving.recent.items } =
    c.in_ok-before.ensures
    ∙ ap (λ k. record { process = k; invocation = f.events; in_process = option_to_list (value_of f.moving.last k); in_realtime = f.moving.recent.items }) c.number.ensures.number
    ∙ ap (λ n. record { process = c.args.process; invocation = n; in_process = option_to_list (value_of f.moving.last c.args.process); in_realtime = f.moving.recent.items }) is'.count in (
      thinned-invoke events c.args.process mops (get nat_eq f.opened) f.moving.recent.items (value_of f.moving.last) is'.state c.in_ok-before.before made,
      once-invoke events c.args.process mops (get nat_eq f.opened) f.moving.recent.items (value_of f.moving.last) is'.state c.in_ok-before.before made,
    )
