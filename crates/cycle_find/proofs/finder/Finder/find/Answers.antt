use Rattle.std.proofs.Common.{◌≡◌, ◌∙◌, length, arith, below_more, sym, ap, subst}
use Rattle.cycle_find.specs.Prepared.{IsPrepared}
use Rattle.cycle_find.specs.Tasks.{Task, NoneFrom}
use Rattle.cycle_find.proofs.Passing.{otherwise}
use Rattle.cycle_find.proofs.Returning.{none_over}
use Rattle.cycle_find.proofs.finder.Finder.find.Goals as goal

pub loop-from-preserved : goal.loop-from-preserved
loop-from-preserved c =
    let task : Task = c.args.self.now in
    record {
      search = c.find_from.ensures.search ∙ c.loop-from.invariant.search;
      passed =
          below_more (NoneFrom task) c.loop-from.from c.loop-from.invariant.passed
          (otherwise task (NoneFrom task c.loop-from.from) c.in_ok-found.found (sym c.is_some.ensures ∙ c.if-is_some.false) c.in_ok-found.ensures.found);
    }

pub returns : goal.returns
returns c =
    let a = c.self.inside in
    let task : Task = c.args.self.now in
    let prepared : IsPrepared task a.needed a.back a.rankings.coarse.now a.rankings.ranks.now a.rankings.back.now a.rankings.far.now a.rankings.late.now = subst (λ task. IsPrepared task a.needed a.back a.rankings.coarse.now a.rankings.ranks.now a.rankings.back.now a.rankings.far.now a.rankings.late.now) c.self.view_is c.self.invariant in
    let count : length a.graph.now.txns ≡ length task.graph.txns = ap (λ (t : Task). length t.graph.txns) c.self.view_is in
    none_over task prepared.kept prepared.by_versions (λ from place. c.loop-from.invariant.passed from (omega (arith, place, c.loop-from-test.false, c.len-from-end.ensures, count)))
