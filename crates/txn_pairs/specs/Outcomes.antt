-- The outcome that an event reports.
use Rattle.std.specs.Prelude.{Option, Some, None}
use Rattle.hist_types.specs.declared.types.OpKind.{OpKind}
use Rattle.hist_types.specs.declared.types.OpKind.TheVariants as kinds
use Rattle.hist_types.specs.declared.types.Outcome.{Outcome}
use Rattle.hist_types.specs.declared.types.Outcome.TheVariants as outcomes

-- the outcome that an event of this kind reports
abbrev pub outcome_by : OpKind → Option Outcome
outcome_by kinds.Invoke = None
outcome_by kinds.Ok = Some outcomes.Ok
outcome_by kinds.Fail = Some outcomes.Fail
outcome_by kinds.Info = Some outcomes.Info
