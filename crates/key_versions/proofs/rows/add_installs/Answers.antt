use Rattle.std.proofs.Common.{◌<◌, ◌+◌, ◌∙◌, List, All, length, drop, get_or, sym, ap, subst}
use Rattle.std.proofs.lemmas.List.{at_drop_more}
use Rattle.key_versions.specs.Rows.{Known, follower, with_follower, installed_rows}
use Rattle.key_versions.proofs.Changed.{length-change}
use Rattle.key_versions.specs.Steps.{FollowersAreUpTo}
use Rattle.key_versions.proofs.UpTo.{up_to_followed}
use Rattle.key_versions.proofs.rows.add_installs.Goals as goal

pub follow-requires-clause-version : goal.follow-requires-clause-version
follow-requires-clause-version c =
    let i = c.loop-install.install-index in
    let w = get_or c.args.installs.now i (record { nil = 0; version = 0 }) in
    subst (λ n. w.nil < n) (sym c.loop-install.invariant.0) (c.requires.within i (record { nil = 0; version = 0 }) c.loop-install-test.true).0

pub loop-install-preserved : goal.loop-install-preserved
loop-install-preserved c =
    let i = c.loop-install.install-index in
    let installs = c.args.installs.now in
    let w = get_or installs i (record { nil = 0; version = 0 }) in
    let step = at_drop_more (installed_rows c.args.place c.loop-install.rows) installs i (record { nil = 0; version = 0 }) c.loop-install-test.true in (
      ap length c.in_ok-follow.ensures ∙ length-change (with_follower (follower c.args.place w)) w.nil c.loop-install.rows ∙ c.loop-install.invariant.0,
      subst (λ (rows : List Known). All (FollowersAreUpTo c.args.place) rows) (sym c.in_ok-follow.ensures) (up_to_followed c.args.place w w.nil c.loop-install.rows c.loop-install.invariant.1),
      ap (λ (rows : List Known). installed_rows c.args.place rows (drop (i + 1) installs)) c.in_ok-follow.ensures ∙ sym step ∙ c.loop-install.invariant.2,
    )
