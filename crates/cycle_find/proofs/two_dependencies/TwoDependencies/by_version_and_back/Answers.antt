use Rattle.std.proofs.Common.{◌≡◌, ◌∙◌, ℕ, get_or, Contains, below_more, sym, subst, arith}
use Rattle.std.proofs.lemmas.List.{get_or_default}
use Rattle.key_versions.specs.Histories.{readers_of}
use Rattle.dep_edges.specs.Histories.{History}
use Rattle.dep_edges.specs.Tables.{version_at}
use Rattle.cycle_find.specs.TwoDependencies.{NoneByTwoFrom}
use Rattle.cycle_find.proofs.Mutual.{two_otherwise}
use Rattle.cycle_find.proofs.two_dependencies.TwoDependencies.by_version_and_back.Goals as goal

pub loop-reader-preserved : goal.loop-reader-preserved
loop-reader-preserved c =
    let search = c.args.self.now in
    let ns = c.readers-reader-items.result.now in
    let none = λ (k : ℕ). NoneByTwoFrom search c.args.version (get_or ns k 0) in
    record {
      length = c.back_to.ensures.marks;
      marked = λ place follows version number reads. c.back_to.ensures.kept version (c.loop-reader.invariant.marked place follows version number reads);
      none =
          below_more none c.loop-reader.reader-index c.loop-reader.invariant.none
          (two_otherwise search (none c.loop-reader.reader-index) c.in_ok-found.found (sym c.is_some.ensures ∙ c.if-is_some.false) c.in_ok-found.ensures.found);
    }

pub returns-clause-found : goal.returns-clause-found
returns-clause-found c = λ from other to way back pair.
    let search = c.args.self.now in
    let h = search.deps.now in
    let version = c.args.version in
    let ns = c.readers-reader-items.result.now in
    let told : ns ≡ readers_of h.txns (version_at h.table version) =
    subst (λ (h : History). ns ≡ readers_of h.txns (version_at h.table version)) c.history.ensures.history c.readers-reader-items.ensures.value in
    let (k, at, same) = subst (λ xs. Contains xs from) (sym told) way.start in
    subst (NoneByTwoFrom search version) (get_or_default ns k 0 from at ∙ same) (c.loop-reader.invariant.none k (omega (arith, at, c.loop-reader-test.false))) other to way back pair
