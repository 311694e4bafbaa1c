use Rattle.std.proofs.Common.{◌≡◌, ◌∙◌, map, All, subst, arith}
use Rattle.std.proofs.lemmas.List.{get_or_default}
use Rattle.key_versions.specs.Histories.{read_by}
use Rattle.dep_edges.specs.Histories.{History}
use Rattle.dep_edges.specs.Tables.{IsNumber, txn_at, version_at}
use Rattle.cycle_find.specs.TwoDependencies.{IsIn}
use Rattle.cycle_find.proofs.Mutual.{reads_listed}
use Rattle.cycle_find.proofs.two_dependencies.TwoDependencies.mark_read_by.Goals as goal

pub returns-clause-marked : goal.returns-clause-marked
returns-clause-marked c = λ version number reads.
    let h = c.args.self.now.deps.now in
    let ns = c.reads-numbers.result.now in
    let told : map (version_at h.table) ns ≡ read_by (txn_at h.txns c.args.place) =
    subst (λ (h : History). map (version_at h.table) ns ≡ read_by (txn_at h.txns c.args.place)) c.history.ensures.history c.reads-numbers.ensures.value in
    let within : All (IsNumber h.table) ns = subst (λ (h : History). All (IsNumber h.table) ns) c.history.ensures.history c.reads-numbers.ensures.within in
    let (k, at, same) = reads_listed h c.history.ensures.kept c.history.ensures.versions c.args.place ns told within version number reads in
    subst (IsIn c.loop-number.read) (get_or_default ns k 0 version at ∙ same) (c.loop-number.invariant.marked k (omega (arith, at, c.loop-number-test.false)))
