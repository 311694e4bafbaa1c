-- There is none with the ends so far.
use Rattle.std.proofs.Common.{◌<◌, ℕ, get_or}
use Rattle.cycle_find.specs.Dependencies.{direct_back}
use Rattle.cycle_find.specs.TwoDependencies.{IsIn, IsPair}
use Rattle.cycle_find.proofs.two_dependencies.TwoDependencies.back_by.Given as goal

abbrev pub invariant-loop-index : goal.invariant-loop-index
invariant-loop-index l =
    (k : ℕ) → k < l.index → IsIn l.sources (get_or l.ends k 0)
    → ¬ IsPair l.self (direct_back l.self.phenomenon) (get_or l.ends k 0) l.to
