use Rattle.std.proofs.Common.{◌≡◌, ◌∙◌, length, arith, below_more, sym, ap}
use Rattle.cycle_find.specs.OneDependency.{NoneClosing, NoneClosingFrom}
use Rattle.cycle_find.specs.Tasks.{Task}
use Rattle.cycle_find.proofs.Scanning.{or_otherwise, or_some}
use Rattle.cycle_find.proofs.one_dependency.OneDependency.direct.Goals as goal

pub returns-then-is_some : goal.returns-then-is_some
returns-then-is_some c =
    let task : Task = c.args.self.now in
    or_some task (NoneClosingFrom task c.loop-from.from) (NoneClosing task) c.direct_from-found.result (sym c.is_some.ensures ∙ c.if-is_some.true) c.direct_from-found.ensures

pub loop-from-preserved : goal.loop-from-preserved
loop-from-preserved c =
    let task : Task = c.args.self.now in
    below_more (NoneClosingFrom task) c.loop-from.from c.loop-from.invariant
    (or_otherwise task (NoneClosingFrom task c.loop-from.from) c.direct_from-found.result (sym c.is_some.ensures ∙ c.if-is_some.false) c.direct_from-found.ensures)

pub returns : goal.returns
returns c =
    let count : length c.self.inside.graph.now.txns ≡ length c.args.self.now.graph.txns = ap (λ (t : Task). length t.graph.txns) c.self.view_is in
    λ from place. c.loop-from.invariant from (omega (arith, place, c.loop-from-test.false, c.len-from-end.ensures, count))
