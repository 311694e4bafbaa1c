use mathlib.Core.List.{IsSuffix}
use Rattle.std.proofs.Common.{◌≡◌, ◌∙◌, ◌∷◌, [], ◌++◌, map, ap, sym, subst, take}
use Rattle.order_frontier.specs.Latest.{before_next}
use Rattle.order_frontier.specs.Predecessors.{last_realtime}
use Rattle.order_frontier.specs.Ranges.{before_in, AreRowsOf}
use Rattle.order_frontier.proofs.Lists.{on_err}
use Rattle.order_frontier.proofs.Ranges.{kept_rows, still_are, pushed_row, suffix_of}
use Rattle.order_frontier.proofs.types.Order.push.Goals as goal

pub row_of-requires-clause-shared : goal.row_of-requires-clause-shared
row_of-requires-clause-shared c =
    let o = c.self.inside in
    suffix_of (take c.args.shared c.args.moving.now.recent.items) (last_realtime (map (before_in o.in_process.items o.in_realtime.items) o.rows.items)) o.in_realtime.items
    (subst (λ order. IsSuffix (take c.args.shared c.args.moving.now.recent.items) (last_realtime order)) (sym c.self.view_is) c.requires.shared) c.self.invariant.end

pub invariant_of-self-in_err-row : goal.invariant_of-self-in_err-row
invariant_of-self-in_err-row c =
    let o = c.self.inside in
    subst (AreRowsOf c.row_of.new.in_process.items c.row_of.new.in_realtime.items) (sym c.in_ok-try_reserve.ensures.items)
    (subst (λ others. AreRowsOf c.row_of.new.in_process.items others o.rows.items) (sym c.in_err-row.ensures.err)
    (still_are o.in_process.items c.row_of.new.in_process.items o.in_realtime.items o.rows.items c.in_err-row.ensures.in_process c.self.invariant))

pub returns-in_err-row-clause-err : goal.returns-in_err-row-clause-err
returns-in_err-row-clause-err c =
    let o = c.self.inside in
    on_err c.from_residual-in_err-row.result
    (ap (map (before_in c.row_of.new.in_process.items c.row_of.new.in_realtime.items)) c.in_ok-try_reserve.ensures.items
    ∙ kept_rows o.in_process.items c.row_of.new.in_process.items o.in_realtime.items c.row_of.new.in_realtime.items o.rows.items c.in_err-row.ensures.in_process c.in_err-row.ensures.in_realtime c.self.invariant.ranges
    ∙ c.self.view_is)

pushed : (c : goal.After-push_reserved)
    → (map (before_in c.row_of.new.in_process.items c.row_of.new.in_realtime.items) c.push_reserved.new.self.items
    ≡ map (before_in c.self.inside.in_process.items c.self.inside.in_realtime.items) c.self.inside.rows.items
    ++ before_next c.args.moving.now.recent.items c.args.moving.now.last c.args.process c.args.invocation ∷ [])
    × AreRowsOf c.row_of.new.in_process.items c.row_of.new.in_realtime.items c.push_reserved.new.self.items
pushed c =
    let o = c.self.inside in
    let own = c.row_of.new.in_process.items in
    let others = c.row_of.new.in_realtime.items in
    let before = before_next c.args.moving.now.recent.items c.args.moving.now.last c.args.process c.args.invocation in
    let more =
    pushed_row o.in_process.items own o.in_realtime.items others o.rows.items c.in_ok-row.row before c.in_ok-row.ensures.in_process c.in_ok-row.ensures.in_realtime c.self.invariant.ranges
    c.in_ok-row.ensures.row c.in_ok-row.ensures.end in
    let rows = c.push_reserved.ensures.items ∙ ap (λ rows. rows ++ c.in_ok-row.row ∷ []) c.in_ok-try_reserve.ensures.items in (
      ap (map (before_in own others)) rows ∙ more.0,
      subst (AreRowsOf own others) (sym rows) more.1,
    )

pub invariant_of-self-2 : goal.invariant_of-self-2
invariant_of-self-2 c = (pushed c).1

pub returns-clause-ok : goal.returns-clause-ok
returns-clause-ok c =
    (pushed c).0
    ∙ ap (λ order. order ++ before_next c.args.moving.now.recent.items c.args.moving.now.last c.args.process c.args.invocation ∷ []) c.self.view_is
