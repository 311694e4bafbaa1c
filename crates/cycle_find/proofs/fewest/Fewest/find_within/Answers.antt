use Rattle.std.proofs.Common.{◌≡◌, ◌∙◌, length, below_more, arith, sym, ap}
use Rattle.cycle_find.specs.Fewest.{NoneTo}
use Rattle.cycle_find.specs.Tasks.{Task}
use Rattle.cycle_find.proofs.FewBack.{within_otherwise}
use Rattle.cycle_find.proofs.fewest.Fewest.find_within.Goals as goal

pub loop-to-preserved : goal.loop-to-preserved
loop-to-preserved c =
    let task : Task = c.args.self.now in
    let most = c.args.labels.now.most in
    let inv = c.loop-to.invariant in
    let found = c.in_ok-found.ensures in
    record {
      search = found.search ∙ inv.search;
      marks = found.marks ∙ inv.marks;
      kept = found.marks ∙ inv.kept;
      true_marks = found.true_marks;
      passed =
          below_more (NoneTo task most) c.loop-to.to inv.passed
          (within_otherwise task most (NoneTo task most c.loop-to.to) c.in_ok-found.found (sym c.is_some.ensures ∙ c.if-is_some.false) found.found);
    }

pub returns-clause-found : goal.returns-clause-found
returns-clause-found c =
    let count : length c.self.inside.graph.now.txns ≡ length c.args.self.now.graph.txns = ap (λ (t : Task). length t.graph.txns) c.self.view_is in
    λ to place. c.loop-to.invariant.passed to (omega (arith, place, c.loop-to-test.false, c.len-to-end.ensures, count))
