use Rattle.std.proofs.Common.{◌≡◌, ◌∙◌, ◌+◌, [], List, All, length, drop, get_or, sym, ap, subst}
use Rattle.std.proofs.Math.ListN.{drop_of_length-le}
use Rattle.std.proofs.lemmas.List.{at_drop_more}
use Rattle.key_versions.specs.declared.pending.Access.{Access}
use Rattle.key_versions.specs.Rows.{Known, change, follower, with_follower, with_place}
use Rattle.key_versions.specs.Steps.{FollowersAreUpTo}
use Rattle.key_versions.proofs.Changed.{length-change}
use Rattle.key_versions.proofs.Gathered.{with_followers, following, read_first, followed_next, followed_not, followed_none}
use Rattle.key_versions.proofs.UpTo.{up_to_placed, up_to_followed}
use Rattle.key_versions.proofs.pending.Pending.read.Goals.{then-is_followed_by+in_ok-follow, else-is_followed_by}
use Rattle.key_versions.proofs.pending.Pending.read.Goals as goal

pub loop-install-init : goal.loop-install-init
loop-install-init c =
    let place = c.args.place in
    let r = c.args.read in (
      ap length c.in_ok-add_reader.ensures ∙ length-change (with_place place) r.version c.args.self.now,
      subst (λ (ks : List Known). All (FollowersAreUpTo place) ks) (sym c.in_ok-add_reader.ensures) (up_to_placed place r.version c.args.self.now c.requires.order),
      ap (change (with_followers (following place r c.args.installs.now)) r.version) c.in_ok-add_reader.ensures
          ∙ read_first place r c.args.installs.now r.version c.args.self.now,
    )

pub loop-install-preserved : goal.loop-install-preserved
loop-install-preserved c =
    let place = c.args.place in
    let r = c.args.read in
    let i = c.loop-install.install-index in
    let installs = c.args.installs.now in
    let known = c.loop-install.self in
    let w = get_or installs i (record { nil = 0; version = 0 }) in
    let rest = drop (i + 1) installs in
    let step =
    at_drop_more (λ (ws : List Access). change (with_followers (following place r ws)) r.version known) installs i (record { nil = 0; version = 0 }) c.loop-install-test.true in
    elim c.if-is_followed_by.branch [
      | then-is_followed_by+in_ok-follow w' ↦ rw w'.self-is (
        ap length w'.in_ok-follow.ensures ∙ length-change (with_follower (follower place w)) r.version known ∙ c.loop-install.invariant.0,
        subst (λ (ks : List Known). All (FollowersAreUpTo place) ks) (sym w'.in_ok-follow.ensures) (up_to_followed place w r.version known c.loop-install.invariant.1),
        ap (change (with_followers (following place r rest)) r.version) w'.in_ok-follow.ensures
            ∙ followed_next place r w rest r.version known (sym w'.if-is_followed_by.ensures)
            ∙ sym step
            ∙ c.loop-install.invariant.2,
      )
      | else-is_followed_by w' ↦ rw w'.self-is (
        c.loop-install.invariant.0,
        c.loop-install.invariant.1,
        followed_not place r w rest r.version known (sym w'.if-is_followed_by.ensures) ∙ sym step ∙ c.loop-install.invariant.2,
      )
    ]

pub returns : goal.returns
returns c =
    let r = c.args.read in
    let known = c.loop-install.self in
    let none : drop c.loop-install.install-index c.args.installs.now ≡ [] = drop_of_length-le c.args.installs.now c.loop-install-test.false in
    sym (followed_none r.version known)
    ∙ ap (λ (ws : List Access). change (with_followers (following c.args.place r ws)) r.version known) (sym none)
    ∙ c.loop-install.invariant.2
