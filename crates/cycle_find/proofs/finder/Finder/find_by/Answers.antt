use Rattle.std.proofs.Common.{◌∙◌, arith, sym, subst}
use Rattle.std.proofs.lemmas.Bool.{ltb-true}
use Rattle.cycle_find.specs.Prepared.{IsPrepared}
use Rattle.cycle_find.specs.Tasks.{Task}
use Rattle.cycle_find.proofs.Passing.{none_from_above, none_from_above_within, never_falls}
use Rattle.cycle_find.proofs.finder.Finder.find_by.Goals as goal
use Rattle.cycle_find.proofs.finder.Finder.find_by.Goals.{then-rank, else-rank}

pub returns-then-above-clause-found : goal.returns-then-above-clause-found
returns-then-above-clause-found c =
    let a = c.self.inside in
    let task : Task = c.args.self.now in
    let prepared : IsPrepared task a.needed a.back a.rankings.coarse.now a.rankings.ranks.now a.rankings.back.now a.rankings.far.now a.rankings.late.now = subst (λ task. IsPrepared task a.needed a.back a.rankings.coarse.now a.rankings.ranks.now a.rankings.back.now a.rankings.far.now a.rankings.late.now) c.self.view_is c.self.invariant in
    elim c.if-rank.branch [
      | then-rank w ↦
          none_from_above task a.rankings.coarse.now c.args.from c.args.by prepared.coarse_ranks (omega (arith, w.if-rank.true, c.rank.ensures, c.rank-2.ensures))
      | else-rank w ↦
          none_from_above_within task a.rankings.coarse.now a.rankings.ranks.now c.args.from c.args.by prepared.coarse_ranks prepared.whole_ranks c.requires.by
          (omega (arith, ltb-true _ _ (sym w.above-is ∙ c.if-above.true), w.rank-else-rank.ensures, w.rank-else-rank-2.ensures))
    ]

pub close-requires-clause-rising : goal.close-requires-clause-rising
close-requires-clause-rising c = never_falls c.args.self.now c.args.from c.args.by c.requires.by
