use Rattle.std.proofs.Common.{◌≡◌, map, get_or, below_more, subst, arith}
use Rattle.key_versions.specs.Histories.{followers_of}
use Rattle.key_versions.specs.declared.types.Follower.{Follower}
use Rattle.dep_edges.specs.Histories.{History}
use Rattle.dep_edges.specs.Tables.{later_in, version_at}
use Rattle.cycle_find.specs.TwoDependencies.{IsReadMarked}
use Rattle.cycle_find.proofs.Mutual.{follower_listed}
use Rattle.cycle_find.proofs.two_dependencies.TwoDependencies.mark_read.Goals as goal

abbrev nobody : Follower
nobody = record { txn = 0; version = 0 }

pub loop-follower-preserved : goal.loop-follower-preserved
loop-follower-preserved c =
    let search = c.args.self.now in
    let read = c.mark_read_by.new.read in
    let fs = c.followers-follower-items.result.now in
    record {
      length = c.mark_read_by.ensures.marks;
      marked =
          below_more (λ k. IsReadMarked search (get_or fs k nobody).txn read) c.loop-follower.follower-index
          (λ k h version number reads. c.mark_read_by.ensures.kept version (c.loop-follower.invariant.marked k h version number reads)) c.in_ok-mark_read_by.ensures.marked;
    }

pub returns-clause-marked : goal.returns-clause-marked
returns-clause-marked c = λ place follows.
    let search = c.args.self.now in
    let h = search.deps.now in
    let fs = c.followers-follower-items.result.now in
    let told : map (later_in h.table) fs ≡ followers_of h.table.keys h.txns (version_at h.table c.args.version) =
    subst (λ (h : History). map (later_in h.table) fs ≡ followers_of h.table.keys h.txns (version_at h.table c.args.version)) c.history.ensures.history c.followers-follower-items.ensures.value in
    let (k, below, is) = follower_listed h c.args.version place fs told follows in
    subst (λ p. IsReadMarked search p c.loop-follower.read) is (c.loop-follower.invariant.marked k (omega (arith, below, c.loop-follower-test.false)))
