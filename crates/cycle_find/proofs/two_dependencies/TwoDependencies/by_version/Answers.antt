use Rattle.std.proofs.Common.{◌∙◌, sym, subst, arith}
use Rattle.std.proofs.lemmas.List.{get_or_default}
use Rattle.edge_graph.specs.declared.types.Dependencies.{Dependencies}
use Rattle.cycle_find.specs.TwoDependencies.{IsEnd, NoneBackWay}
use Rattle.cycle_find.proofs.two_dependencies.TwoDependencies.by_version.Goals as goal

pub returns-clause-found : goal.returns-clause-found
returns-clause-found c = λ other from to way back pair.
    let search = c.args.self.now in
    let places = c.ends-ends.result in
    let (k, at, same) = c.ends-ends.ensures.all to (subst (λ (kind : Dependencies). IsEnd search.deps.now kind c.args.version to) (sym c.needed.ensures) way.end) in
    subst (NoneBackWay search c.args.version) (get_or_default places k 0 to at ∙ same) (c.loop-index.invariant.none k (omega (arith, at, c.loop-index-test.false, c.len-index-end.ensures))) other from way.start back pair
