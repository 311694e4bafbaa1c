use Rattle.std.proofs.Common.{◌<◌, ◌+◌, [], length, get_or, arith, sym, subst, ◌≡◌, ◌∙◌, ap}
use Rattle.dep_edges.specs.Tables.{IsPlace}
use Rattle.graph_search.specs.Graphs.{Leaving}
use Rattle.cycle_find.specs.Prepared.{IsPrepared}
use Rattle.cycle_find.specs.Tasks.{Task, needed_kinds, whole_kinds, HasReturnBetween}
use Rattle.cycle_find.specs.Ranked.{NeverFalls}
use Rattle.cycle_find.proofs.Passing.{arc_at, none_by_version, never_falls_by}
use Rattle.cycle_find.proofs.RankedArcs.{arc_to_within, behind_version}
use Rattle.cycle_find.proofs.finder.Finder.find_by_version.Goals as goal

pub close-requires-clause-to : goal.close-requires-clause-to
close-requires-clause-to c =
    let a = c.self.inside in
    let all : c.successors-successors.result.to ≡ get_or a.needed c.args.version [] = ap (λ (s : Leaving). s.to) c.successors-successors.ensures in
    let task : Task = c.args.self.now in
    let kinds = needed_kinds task in
    let prepared : IsPrepared task a.needed a.back a.rankings.coarse.now a.rankings.ranks.now a.rankings.back.now a.rankings.far.now a.rankings.late.now = subst (λ task. IsPrepared task a.needed a.back a.rankings.coarse.now a.rankings.ranks.now a.rankings.back.now a.rankings.far.now a.rankings.late.now) c.self.view_is c.self.invariant in
    let there : c.args.version < length task.graph.txns + length task.graph.versions = arc_to_within task.graph kinds c.args.from c.args.version c.requires.by in
    let at : c.loop-index.index < length (get_or a.needed c.args.version []) = omega (arith, c.loop-index-test.true, c.len-index-end.ensures, ap length all) in
    subst (IsPlace task.graph.txns) (sym (c.at-to.ensures.successor ∙ ap (λ to. get_or to c.loop-index.index 0) all))
    (behind_version task.graph kinds c.args.version (get_or (get_or a.needed c.args.version []) c.loop-index.index 0) c.requires.version
    (arc_at task.graph kinds a.needed c.args.version c.loop-index.index prepared.needed_arcs there at))

pub close-requires-clause-rising : goal.close-requires-clause-rising
close-requires-clause-rising c =
    let a = c.self.inside in
    let all : c.successors-successors.result.to ≡ get_or a.needed c.args.version [] = ap (λ (s : Leaving). s.to) c.successors-successors.ensures in
    let task : Task = c.args.self.now in
    let kinds = needed_kinds task in
    let prepared : IsPrepared task a.needed a.back a.rankings.coarse.now a.rankings.ranks.now a.rankings.back.now a.rankings.far.now a.rankings.late.now = subst (λ task. IsPrepared task a.needed a.back a.rankings.coarse.now a.rankings.ranks.now a.rankings.back.now a.rankings.far.now a.rankings.late.now) c.self.view_is c.self.invariant in
    let there : c.args.version < length task.graph.txns + length task.graph.versions = arc_to_within task.graph kinds c.args.from c.args.version c.requires.by in
    let at : c.loop-index.index < length (get_or a.needed c.args.version []) = omega (arith, c.loop-index-test.true, c.len-index-end.ensures, ap length all) in
    subst (NeverFalls task.graph (whole_kinds task) c.args.from) (sym (c.at-to.ensures.successor ∙ ap (λ to. get_or to c.loop-index.index 0) all))
    (never_falls_by task c.args.from c.args.version (get_or (get_or a.needed c.args.version []) c.loop-index.index 0) c.requires.by
    (arc_at task.graph kinds a.needed c.args.version c.loop-index.index prepared.needed_arcs there at))

pub returns-clause-found : goal.returns-clause-found
returns-clause-found c =
    let a = c.self.inside in
    let all : c.successors-successors.result.to ≡ get_or a.needed c.args.version [] = ap (λ (s : Leaving). s.to) c.successors-successors.ensures in
    let task : Task = c.args.self.now in
    let prepared : IsPrepared task a.needed a.back a.rankings.coarse.now a.rankings.ranks.now a.rankings.back.now a.rankings.far.now a.rankings.late.now = subst (λ task. IsPrepared task a.needed a.back a.rankings.coarse.now a.rankings.ranks.now a.rankings.back.now a.rankings.far.now a.rankings.late.now) c.self.view_is c.self.invariant in
    none_by_version task a.needed c.args.from c.args.version prepared.needed_arcs c.requires.version
    (λ k h other.
    subst (λ to. ¬ HasReturnBetween task c.args.from (get_or to k 0)) all
    (c.loop-index.invariant.passed k (omega (arith, h, c.loop-index-test.false, c.len-index-end.ensures, ap length all)) (λ same. other (same ∙ ap (λ to. get_or to k 0) all))))
