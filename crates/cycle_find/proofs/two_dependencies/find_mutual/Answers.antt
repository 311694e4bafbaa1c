use Rattle.std.proofs.Common.{ℕ, subst}
use Rattle.cycle_find.specs.Dependencies.{needed, way_back}
use Rattle.cycle_find.specs.Single.{AreMutual, AreTwoOr}
use Rattle.cycle_find.proofs.Mutual.{needs_more}
use Rattle.cycle_find.proofs.two_dependencies.find_mutual.Goals as goal

pub returns-in-Ok-None : goal.returns-in-Ok-None
returns-in-Ok-None c =
    let h = c.args.deps.now in
    let phenomenon = c.args.phenomenon in
    needs_more h phenomenon
    (subst (AreTwoOr phenomenon h ((from to : ℕ) → ¬ AreMutual h (needed phenomenon) (way_back phenomenon) from to)) c.in-Ok-None.field-0-is c.in-Ok-None.ensures)
