use Rattle.std.proofs.Common.{ℕ, List, subst}
use Rattle.serial_points.specs.Users.{IsListed}
use Rattle.serial_points.proofs.Listed.{push_only, push_stays}
use Rattle.serial_points.proofs.places.Places.grow.Goals as goal

pub loop-self-preserved : goal.loop-self-preserved
loop-self-preserved c =
    rw c.in_ok-push.ensures.items (
      λ n place listed. push_stays (λ list. list.items) c.loop-self.self-inside.lists.items _ n place (c.loop-self.invariant.0 n place listed),
      λ n place listed. c.loop-self.invariant.1 n place (push_only (λ list. list.items) c.loop-self.self-inside.lists.items _ c.new.ensures.items n place listed),
    )

pub returns-clause-only : goal.returns-clause-only
returns-clause-only c = λ n place listed. subst (λ (xs : List (List ℕ)). IsListed xs n place) c.self.view_is (c.loop-self.invariant.1 n place listed)
