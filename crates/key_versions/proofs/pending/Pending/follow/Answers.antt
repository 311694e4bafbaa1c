use Rattle.std.proofs.Common.{◌∙◌, ℕ, List, All, length, sym, ap, subst, arith}
use Rattle.flat_groups.specs.Groups.{IsNumbered}
use Rattle.key_versions.specs.Pending.{known_from, AreInOrder}
use Rattle.key_versions.specs.Rows.{Known, change, with_follower}
use Rattle.key_versions.specs.Steps.{FollowersAreUpTo}
use Rattle.key_versions.specs.declared.types.Follower.{Follower}
use Rattle.key_versions.proofs.Gathered.{all_one_more, from_zero, known_followed, known_place}
use Rattle.key_versions.proofs.Interleaved.{followers_up_to, in_order_more}
use Rattle.key_versions.proofs.pending.Pending.follow.Goals as goal

pub invariant_of-self-2 : goal.invariant_of-self-2
invariant_of-self-2 c =
    let ws = c.self.inside.writers.items in
    let rs = c.self.inside.readers.items in
    let fs = c.self.inside.followers.items in
    let p : ℕ × Follower = (c.args.version, c.args.follower) in
    let below = known_place ws rs fs c.self.view_is c.requires.version in
    let up_to : All (FollowersAreUpTo c.args.follower.txn) (known_from 0 ws rs fs) =
    subst (λ (ks : List Known). All (FollowersAreUpTo c.args.follower.txn) ks) (sym c.self.view_is) c.requires.order in (
      c.self.invariant.0,
      subst (λ xs. All (IsNumbered (length ws)) xs) (sym c.in_ok-push.ensures.items) (all_one_more (length ws) fs p c.self.invariant.1 below),
      subst (AreInOrder 0) (sym c.in_ok-push.ensures.items)
          (in_order_more 0 fs p c.self.invariant.2 (followers_up_to c.args.follower.txn ws rs fs c.self.invariant.1 up_to) (omega arith)),
    )

pub returns : goal.returns
returns c =
    let ws = c.self.inside.writers.items in
    let rs = c.self.inside.readers.items in
    let fs = c.self.inside.followers.items in
    ap (λ xs. known_from 0 ws rs xs) c.in_ok-push.ensures.items
    ∙ known_followed 0 c.args.version c.args.version ws rs fs c.args.follower (from_zero c.args.version)
    ∙ ap (change (with_follower c.args.follower) c.args.version) c.self.view_is
