-- What was found so far, or no version so far has such an edge.
use Rattle.std.proofs.Common.{◌<◌, ℕ}
use Rattle.cycle_find.specs.OneDependency.{AreClosingOr, NoneClosingBy}
use Rattle.cycle_find.proofs.one_dependency.OneDependency.by_version.Given as goal

abbrev pub invariant-loop-version : goal.invariant-loop-version
invariant-loop-version l =
    AreClosingOr l.self ((version : ℕ) → version < l.version → NoneClosingBy l.self version) l.first
