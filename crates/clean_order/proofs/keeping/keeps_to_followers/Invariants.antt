-- The followers so far start after the commits of those that wrote the version, and commit after the starts of those that read it.
use Rattle.std.proofs.Common.{All, take}
use Rattle.key_versions.specs.declared.types.Follower.{Follower}
use Rattle.clean_order.specs.Highest.{IsAbove}
use Rattle.clean_order.proofs.keeping.keeps_to_followers.Given as goal

abbrev pub invariant-loop-follower : goal.invariant-loop-follower
invariant-loop-follower l =
    All (λ (f : Follower). IsAbove l.deps.txns l.starts l.written f.txn) (take l.follower-index l.followers)
    × All (λ (f : Follower). IsAbove l.deps.txns l.commits l.read f.txn) (take l.follower-index l.followers)
