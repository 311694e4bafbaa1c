use Rattle.std.proofs.Common.{◌≡◌, ℕ, List, length, take}
use Rattle.key_versions.specs.Steps.{behind_steps, AreFollowers}
use Rattle.key_versions.specs.declared.types.Follower.{Follower}
use Rattle.key_versions.proofs.interleaving.follow_steps.Given as goal

abbrev pub invariant-loop-version : goal.invariant-loop-version
invariant-loop-version l =
    (length l.marks ≡ length l.initial.marks)
    × ((before known : List (ℕ × Follower)) → AreFollowers l.mark before known l.initial.followers.items l.initial.marks
    → AreFollowers l.mark before (behind_steps l.earlier l.place known (take l.version-index l.installs)) l.followers.items l.marks)
