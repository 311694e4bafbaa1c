use Rattle.std.proofs.Common.{ℕ, List, All, subst}
use Rattle.std.proofs.lemmas.Bool.{OnTrue_at}
use Rattle.std.proofs.lemmas.List.{take_all}
use Rattle.std.proofs.lemmas.List.Elements.{All-more}
use Rattle.hist_types.specs.Transactions.{Transaction}
use Rattle.key_versions.specs.declared.types.Follower.{Follower}
use Rattle.clean_order.specs.Highest.{IsAbove}
use Rattle.clean_order.specs.declared.keeping.Highest.{Highest}
use Rattle.clean_order.proofs.keeping.keeps_to_followers.Goals as goal

abbrev Above : List Transaction → (numbers : List ℕ) → Highest → Follower → Type 0
Above ts numbers highest f = IsAbove ts numbers highest f.txn

pub loop-follower-preserved : goal.loop-follower-preserved
loop-follower-preserved c =
    let ts = c.args.deps.now.txns in
    let followers = c.args.followers.now in
    let index = c.loop-follower.follower-index in
    let none : Follower = record { txn = 0; version = 0 } in (
      All-more (Above ts c.args.starts.now c.args.written.now) followers index none c.loop-follower-test.true c.loop-follower.invariant.0
          (OnTrue_at c.if-not-is_above.false c.is_above.ensures),
      All-more (Above ts c.args.commits.now c.args.read.now) followers index none c.loop-follower-test.true c.loop-follower.invariant.1
          (OnTrue_at c.if-not-is_above-2.false c.is_above-else-not-is_above.ensures),
    )

pub returns-clause-written : goal.returns-clause-written
returns-clause-written c =
    subst (All (Above c.args.deps.now.txns c.args.starts.now c.args.written.now))
    (take_all c.loop-follower.follower-index c.args.followers.now c.loop-follower-test.false) c.loop-follower.invariant.0

pub returns-clause-read : goal.returns-clause-read
returns-clause-read c =
    subst (All (Above c.args.deps.now.txns c.args.commits.now c.args.read.now))
    (take_all c.loop-follower.follower-index c.args.followers.now c.loop-follower-test.false) c.loop-follower.invariant.1
