use Rattle.std.proofs.Common.{◌≡◌, ◌∙◌, ◌+◌, suc, length, below_more, arith, sym, ap, subst}
use Rattle.edge_graph.specs.Parts.{edges_in}
use Rattle.cycle_find.specs.Fewest.{IsReadyForFewest, NoneTo}
use Rattle.cycle_find.specs.Found.{NeedsMoreThan}
use Rattle.cycle_find.specs.Past.{AreRanksPast}
use Rattle.cycle_find.specs.Tasks.{Task}
use Rattle.cycle_find.proofs.FewBack.{needs_more, within_otherwise}
use Rattle.cycle_find.proofs.Past.{later_cut}
use Rattle.cycle_find.proofs.fewest.Fewest.find_past.Goals as goal

pub loop-to-preserved : goal.loop-to-preserved
loop-to-preserved c =
    let task : Task = c.args.self.now in
    let most = c.args.most in
    let to = c.loop-to.to in
    let inv = c.loop-to.invariant in
    let found = c.in_ok-found.ensures in
    record {
      search = found.search ∙ inv.search;
      marks = found.marks ∙ inv.marks;
      kept = found.marks ∙ inv.kept;
      true_marks = found.true_marks;
      past = subst (AreRanksPast task (to + 1)) (sym c.count.ensures) (later_cut task to (to + 1) c.in_ok-past-2.past (omega arith) c.in_ok-past-2.ensures);
      passed =
          below_more (NoneTo task most) to inv.passed
          (within_otherwise task most (NoneTo task most to) c.in_ok-found.found (sym c.is_some.ensures ∙ c.if-is_some.false) found.found);
    }

pub returns-clause-found : goal.returns-clause-found
returns-clause-found c =
    let a = c.self.inside in
    let task : Task = c.args.self.now in
    let most = c.args.most in
    let ready : IsReadyForFewest task a.needed a.leading a.last.items a.free a.paid = subst (λ task. IsReadyForFewest task a.needed a.leading a.last.items a.free a.paid) c.self.view_is c.self.invariant in
    let count : length a.graph.now.txns ≡ length task.graph.txns = ap (λ (t : Task). length t.graph.txns) c.self.view_is in
    let next : suc most ≡ most + 1 = omega arith in
    subst (λ n. NeedsMoreThan n task.phenomenon (edges_in task.graph task.level)) next
    (needs_more task ready.kept ready.by_versions most
    (λ to place. c.loop-to.invariant.passed to (omega (arith, place, c.loop-to-test.false, c.len-to-end.ensures, count))))
