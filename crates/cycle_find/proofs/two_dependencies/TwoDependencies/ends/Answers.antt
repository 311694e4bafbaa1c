use Rattle.std.proofs.Common.{◌||◌, IsTrue, inl, inr, sym, subst}
use Rattle.dep_edges.specs.Tables.{IsPlace}
use Rattle.edge_graph.specs.declared.types.Kinds.{Kinds}
use Rattle.cycle_find.specs.TwoDependencies.{places_of}
use Rattle.cycle_find.proofs.Mutual.{all_both, in_either}
use Rattle.cycle_find.proofs.two_dependencies.TwoDependencies.ends.Goals as goal

pub returns-clause-within : goal.returns-clause-within
returns-clause-within c = all_both (IsPlace c.args.self.now.deps.now.txns) c.readers.result.now (places_of c.followers.result.now) c.readers.ensures.within c.followers.ensures.within

pub returns-clause-all : goal.returns-clause-all
returns-clause-all c = λ place end.
    let kinds = sym c.of-kinds.ensures in
    in_either c.readers.result.now (places_of c.followers.result.now) place (elim end [
      | inl both ↦ inl (c.readers.ensures.all place (subst (λ (kinds : Kinds). IsTrue kinds.wr) kinds both.0) both.1)
      | inr both ↦ inr (c.followers.ensures.all place (subst (λ (kinds : Kinds). IsTrue (kinds.ww || kinds.rw)) kinds both.0) both.1)
    ])
