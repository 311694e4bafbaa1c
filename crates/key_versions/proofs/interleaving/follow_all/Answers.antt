use Rattle.std.proofs.Common.{rules, ◌≡◌, ◌∙◌, ◌<◌, ◌++◌, ◌∷◌, [], ℕ, List, false, true, length, take, set, get_or, sym, subst}
use Rattle.std.specs.Prelude.{◌==◌}
use Rattle.std.proofs.lemmas.List.{length-set}
use Rattle.key_versions.specs.declared.types.Follower.{Follower}
use Rattle.key_versions.specs.Steps.{behind_all, AreFollowers}
use Rattle.key_versions.proofs.Marked.{all_more, follow_new, follow_known}
use Rattle.key_versions.proofs.interleaving.follow_all.Goals.{then-marks-version+in_ok-push, else-marks-version}
use Rattle.key_versions.proofs.interleaving.follow_all.Goals as goal

pub loop-version-preserved : goal.loop-version-preserved
loop-version-preserved c =
    let i = c.loop-version.version-index in
    let earlier = c.args.earlier.now in
    let v = get_or earlier i 0 in
    let mark = c.args.mark in
    let f = c.args.follower in
    let marks = c.loop-version.marks in
    let followers = c.loop-version.followers.items in
    let below : v < length marks = subst (λ n. v < n) (sym c.loop-version.invariant.0) (c.requires i 0 c.loop-version-test.true) in
    let more = λ (known : List (ℕ × Follower)). sym (all_more f known earlier i c.loop-version-test.true) in
    elim c.if-marks-version.branch [
      | then-marks-version+in_ok-push w ↦ (
          let new : (get_or marks v 0 == mark) ≡ false = search rules in
          rw (w.marks-is, w.followers-is, w.in_ok-push.ensures.items) (
            length-set marks v mark ∙ c.loop-version.invariant.0,
            λ before known are.
                subst (λ (own : List (ℕ × Follower)). AreFollowers mark before own (followers ++ (v, f) ∷ []) (set marks v mark)) (more known)
                (follow_new mark f before (behind_all f known (take i earlier)) followers marks v below new (c.loop-version.invariant.1 before known are)),
          ))
      | else-marks-version w ↦ (
          let old : (get_or marks v 0 == mark) ≡ true = search rules in
          rw (w.marks-is, w.followers-is) (
            c.loop-version.invariant.0,
            λ before known are.
                subst (λ (own : List (ℕ × Follower)). AreFollowers mark before own followers marks) (more known)
                (follow_known mark f before (behind_all f known (take i earlier)) followers marks v below old (c.loop-version.invariant.1 before known are)),
          ))
    ]
