use Rattle.std.proofs.Common.{◌∙◌, option_map, sym, subst}
use Rattle.std.proofs.lemmas.Result.{IfOk-weaker}
use Rattle.cycle_find.specs.Dependencies.{way_back, whole}
use Rattle.cycle_find.specs.Prepared.{IsPrepared}
use Rattle.cycle_find.specs.Tasks.{Task, back_kinds}
use Rattle.cycle_find.proofs.Passing.{back_of_whole}
use Rattle.cycle_find.proofs.RankedArcs.{fewer, fewer_within}
use Rattle.cycle_find.proofs.WaysBack.{none_above, found}
use Rattle.cycle_find.proofs.finder.Finder.way_back.Goals as goal

pub returns-then-not-contains-clause-way : goal.returns-then-not-contains-clause-way
returns-then-not-contains-clause-way c =
    let a = c.self.inside in
    let task : Task = c.args.self.now in
    let g = task.graph in
    let ph = task.phenomenon in
    let prepared : IsPrepared task a.needed a.back a.rankings.coarse.now a.rankings.ranks.now a.rankings.back.now a.rankings.far.now a.rankings.late.now = subst (λ task. IsPrepared task a.needed a.back a.rankings.coarse.now a.rankings.ranks.now a.rankings.back.now a.rankings.far.now a.rankings.late.now) c.self.view_is c.self.invariant in
    let coarse_are = fewer g (way_back ph) (whole ph) task.level a.rankings.coarse.now (back_of_whole ph) prepared.coarse_ranks in
    let ranks_are = fewer_within g (way_back ph) (whole ph) task.level a.rankings.coarse.now a.rankings.ranks.now (back_of_whole ph) prepared.whole_ranks in
    none_above g (back_kinds task) a.back a.rankings.coarse.now a.rankings.ranks.now a.rankings.back.now a.rankings.far.now a.rankings.late.now prepared.back_arcs coarse_are ranks_are prepared.back_ranks prepared.far_ranks prepared.late_ranks c.args.from c.args.to
    (c.requires.rising a.rankings.coarse.now prepared.coarse_ranks) (sym c.contains.ensures ∙ c.if-not-contains.true)

pub returns-clause-way : goal.returns-clause-way
returns-clause-way c =
    let a = c.self.inside in
    let task : Task = c.args.self.now in
    let g = task.graph in
    let ph = task.phenomenon in
    let prepared : IsPrepared task a.needed a.back a.rankings.coarse.now a.rankings.ranks.now a.rankings.back.now a.rankings.far.now a.rankings.late.now = subst (λ task. IsPrepared task a.needed a.back a.rankings.coarse.now a.rankings.ranks.now a.rankings.back.now a.rankings.far.now a.rankings.late.now) c.self.view_is c.self.invariant in
    let coarse_are = fewer g (way_back ph) (whole ph) task.level a.rankings.coarse.now (back_of_whole ph) prepared.coarse_ranks in
    let ranks_are = fewer_within g (way_back ph) (whole ph) task.level a.rankings.coarse.now a.rankings.ranks.now (back_of_whole ph) prepared.whole_ranks in
    IfOk-weaker c.walk.result _ _
    (λ way is.
    found g (back_kinds task) a.back a.rankings.coarse.now a.rankings.ranks.now a.rankings.back.now a.rankings.far.now a.rankings.late.now prepared.back_arcs coarse_are ranks_are prepared.back_ranks prepared.far_ranks prepared.late_ranks c.args.from c.args.to
    (c.requires.rising a.rankings.coarse.now prepared.coarse_ranks) (option_map (λ walk. walk.items) way) is)
    c.walk.ensures.walk
