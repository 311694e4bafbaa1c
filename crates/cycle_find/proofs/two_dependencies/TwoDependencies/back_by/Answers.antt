use Rattle.std.proofs.Common.{◌∙◌, ℕ, sym, subst, arith}
use Rattle.std.proofs.lemmas.List.{get_or_default}
use Rattle.edge_graph.specs.declared.types.Dependencies.{Dependencies}
use Rattle.cycle_find.specs.Dependencies.{direct_back}
use Rattle.cycle_find.specs.TwoDependencies.{IsEnd, IsIn, IsPair}
use Rattle.cycle_find.proofs.two_dependencies.TwoDependencies.back_by.Goals as goal

pub returns-clause-found : goal.returns-clause-found
returns-clause-found c = λ from marked end.
    let search = c.args.self.now in
    let places = c.ends-ends.result in
    let (k, at, same) = c.ends-ends.ensures.all from (subst (λ (kind : Dependencies). IsEnd search.deps.now kind c.args.version from) (sym c.direct_back-back.ensures) end) in
    let none = λ (v : ℕ). IsIn c.spend.new.self v → ¬ IsPair search (direct_back search.phenomenon) v c.args.to in
    subst none (get_or_default places k 0 from at ∙ same) (c.loop-index.invariant k (omega (arith, at, c.loop-index-test.false, c.len-index-end.ensures))) (c.spend.ensures.kept from marked)
