use Rattle.std.proofs.Common.{◌≡◌, map, get_or, Contains, below_more, subst, arith}
use Rattle.key_versions.specs.Histories.{followers_of}
use Rattle.key_versions.specs.declared.types.Follower.{Follower}
use Rattle.dep_edges.specs.Histories.{History}
use Rattle.dep_edges.specs.Tables.{later_in, version_at}
use Rattle.cycle_find.proofs.Mutual.{follower_listed}
use Rattle.cycle_find.proofs.two_dependencies.TwoDependencies.add_followers.Goals as goal

abbrev nobody : Follower
nobody = record { txn = 0; version = 0 }

pub loop-follower-preserved : goal.loop-follower-preserved
loop-follower-preserved c =
    let version = c.args.version in
    let pairs = c.add_follower.new.pairs.items in
    let fs = c.followers-follower-items.result.now in
    record {
      numbered = c.in_ok-add_follower.ensures.numbered;
      kept = λ p is. c.in_ok-add_follower.ensures.kept p (c.loop-follower.invariant.kept p is);
      added =
          below_more (λ k. Contains pairs ((get_or fs k nobody).txn, version)) c.loop-follower.follower-index
          (λ k h. c.in_ok-add_follower.ensures.kept ((get_or fs k nobody).txn, version) (c.loop-follower.invariant.added k h))
          (subst (λ n. Contains pairs ((get_or fs c.loop-follower.follower-index nobody).txn, n)) c.in_ok-number.ensures c.in_ok-add_follower.ensures.added);
    }

pub returns-clause-added : goal.returns-clause-added
returns-clause-added c = λ place follows.
    let h = c.args.self.now.deps.now in
    let fs = c.followers-follower-items.result.now in
    let told : map (later_in h.table) fs ≡ followers_of h.table.keys h.txns (version_at h.table c.args.version) =
    subst (λ (h : History). map (later_in h.table) fs ≡ followers_of h.table.keys h.txns (version_at h.table c.args.version)) c.history.ensures.history c.followers-follower-items.ensures.value in
    let (k, below, is) = follower_listed h c.args.version place fs told follows in
    subst (λ p. Contains c.loop-follower.pairs.items (p, c.args.version)) is (c.loop-follower.invariant.added k (omega (arith, below, c.loop-follower-test.false)))
