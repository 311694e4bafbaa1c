use Rattle.std.proofs.Common.{◌≡◌, ◌∙◌, map, get_or, All, below_more, sym, subst, arith}
use Rattle.std.proofs.lemmas.List.{get_or_default}
use Rattle.hist_types.specs.Transactions.{installed_by}
use Rattle.dep_edges.specs.Histories.{History}
use Rattle.dep_edges.specs.Tables.{IsNumber, txn_at, version_at}
use Rattle.cycle_find.specs.TwoDependencies.{NoneBackBy}
use Rattle.cycle_find.proofs.Mutual.{direct_start, installs_listed, two_otherwise}
use Rattle.cycle_find.proofs.two_dependencies.TwoDependencies.back_from.Goals as goal

pub returns-clause-found : goal.returns-clause-found
returns-clause-found c = λ version from marked way.
    let search = c.args.self.now in
    let h = search.deps.now in
    let ns = c.installs-version-items.result.now in
    let told : map (version_at h.table) ns ≡ installed_by (txn_at h.txns c.args.to) =
    subst (λ (h : History). map (version_at h.table) ns ≡ installed_by (txn_at h.txns c.args.to)) c.history.ensures.history c.installs-version-items.ensures.value in
    let within : All (IsNumber h.table) ns = subst (λ (h : History). All (IsNumber h.table) ns) c.history.ensures.history c.installs-version-items.ensures.within in
    let (k, at, same) = installs_listed h c.history.ensures.kept c.history.ensures.versions c.args.to ns told within version way.number (direct_start h search.phenomenon version c.args.to way.start) in
    subst (λ v. NoneBackBy search c.args.sources.now v c.args.to) (get_or_default ns k 0 version at ∙ same) (c.loop-version.invariant.none k (omega (arith, at, c.loop-version-test.false))) from marked way.end

pub loop-version-preserved : goal.loop-version-preserved
loop-version-preserved c =
    let search = c.args.self.now in
    let ns = c.installs-version-items.result.now in
    let version = get_or ns c.loop-version.version-index 0 in
    record {
      length = c.back_by.ensures.marks;
      kept = λ n is. c.back_by.ensures.kept n (c.loop-version.invariant.kept n is);
      none =
          below_more (λ k. NoneBackBy search c.args.sources.now (get_or ns k 0) c.args.to) c.loop-version.version-index c.loop-version.invariant.none
          (λ from marked end.
          two_otherwise search (NoneBackBy search c.loop-version.sources version c.args.to) c.in_ok-found.found (sym c.is_some.ensures ∙ c.if-is_some.false) c.in_ok-found.ensures.found
          from (c.loop-version.invariant.kept from marked) end);
    }
