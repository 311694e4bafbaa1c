use Rattle.std.proofs.Common.{◌≡◌, ◌∙◌, ◌+◌, [], ℕ, List, take, get_or, sym, ap, subst}
use Rattle.std.proofs.lemmas.Option.{get_or_from_slice_get}
use Rattle.key_versions.specs.declared.types.Follower.{Follower}
use Rattle.key_versions.specs.Steps.{behind_all, behind_steps, AreFollowers}
use Rattle.key_versions.proofs.Marked.{steps_more}
use Rattle.key_versions.proofs.interleaving.follow_steps.Goals as goal

pub loop-version-preserved : goal.loop-version-preserved
loop-version-preserved c =
    let i = c.loop-version.version-index in
    let installs = c.args.installs.now in
    let earlier = c.args.earlier.now in
    let place = c.args.place in
    let mark = c.args.mark in
    let version = get_or installs i 0 in
    let f : Follower = record { txn = place; version = version } in
    let found : get_or earlier version [] ≡ c.get.result.now = get_or_from_slice_get earlier version c.get.result.now [] c.get.ensures in (
      c.in_ok-follow_all.ensures.length ∙ c.loop-version.invariant.0,
      λ before known are.
          let own = behind_steps earlier place known (take i installs) in
          let more : behind_all f own c.get.result.now ≡ behind_steps earlier place known (take (i + 1) installs) =
          ap (behind_all f own) (sym found) ∙ sym (steps_more earlier place known installs i c.loop-version-test.true) in
          subst (λ (all : List (ℕ × Follower)). AreFollowers mark before all c.follow_all.new.followers.items c.follow_all.new.marks) more
          (c.in_ok-follow_all.ensures.followers before own (c.loop-version.invariant.1 before known are)),
    )
