use Rattle.std.proofs.Common.{◌≡◌, ◌∙◌, length, All, arith, below_more, sym, ap, subst}
use Rattle.std.proofs.lemmas.Result.{IfOk-weaker}
use Rattle.flat_groups.specs.Groups.{IsNumbered, groups_from}
use Rattle.dep_edges.specs.Histories.{History}
use Rattle.cycle_find.specs.TwoDependencies.{HasFollowers}
use Rattle.cycle_find.proofs.Grouped.{length-groups}
use Rattle.cycle_find.proofs.Mutual.{all_followed}
use Rattle.cycle_find.proofs.two_dependencies.TwoDependencies.followed.Goals as goal

pub loop-version-preserved : goal.loop-version-preserved
loop-version-preserved c =
    let search = c.args.self.now in
    let pairs = c.add_followers.new.pairs.items in
    record {
      numbered = c.in_ok-add_followers.ensures.numbered;
      has =
          below_more (λ k. HasFollowers search k pairs) c.loop-version.version
          (λ k h place follows. c.in_ok-add_followers.ensures.kept (place, k) (c.loop-version.invariant.has k h place follows)) c.in_ok-add_followers.ensures.added;
    }

pub of-requires : goal.of-requires
of-requires c =
    let count : length c.txns.result.now ≡ length c.args.self.now.deps.now.txns = ap length (c.txns.ensures.value ∙ ap (λ (h : History). h.txns) c.history-history.ensures.history) in
    subst (All (IsNumbered (length c.txns.result.now))) (sym c.deref.ensures.value)
    (subst (λ n. All (IsNumbered n) c.loop-version.pairs.items) (sym count) c.loop-version.invariant.numbered)

pub returns-clause-count : goal.returns-clause-count
returns-clause-count c =
    let count : length c.txns.result.now ≡ length c.args.self.now.deps.now.txns = ap length (c.txns.ensures.value ∙ ap (λ (h : History). h.txns) c.history-history.ensures.history) in
    IfOk-weaker c.of.result _ _ (λ groups is. ap length is ∙ length-groups 0 (length c.txns.result.now) _ ∙ count) c.of.ensures

pub returns-clause-followed : goal.returns-clause-followed
returns-clause-followed c =
    let search = c.args.self.now in
    let count : length c.txns.result.now ≡ length search.deps.now.txns = ap length (c.txns.ensures.value ∙ ap (λ (h : History). h.txns) c.history-history.ensures.history) in
    let versions = c.versions-version-end.ensures.value ∙ ap (λ (h : History). length h.table.versions) c.history-history.ensures.history in
    let pairs = c.loop-version.pairs.items in
    IfOk-weaker c.of.result _ _
    (λ groups is.
    all_followed search c.history-history.ensures.kept c.history-history.ensures.versions pairs groups
    (is ∙ ap (λ n. groups_from 0 n c.deref.result.now) count ∙ ap (groups_from 0 (length search.deps.now.txns)) c.deref.ensures.value)
    (λ version number. c.loop-version.invariant.has version (omega (arith, number, c.loop-version-test.false, versions)))) c.of.ensures
