-- What is printed of the events that a text gives is an answer.
use Rattle.std.proofs.Common.{◌≡◌, ℕ, List, Bool, true, false, sym, subst}
use Rattle.hist_types.specs.Operations.{Operation}
use Rattle.command_run.specs.Answers.{GivesEvents, Reports, IsAnswer}
use Rattle.command_run.specs.Statuses.{status_by}
use Rattle.command_run.specs.declared.answer.Status.{Status}
use Rattle.command_line.specs.declared.types.Command.{Command}
use Rattle.command_line.specs.declared.types.Command.TheVariants.{Reads, Edges, Check}

module _ (text printed : List ℕ) (events : List Operation) (given : GivesEvents text events) where
  with_status : (command : Command) (found : Bool) → Reports command events (status_by found) printed → IsAnswer command text (status_by found) printed
  with_status command true reported = record { events = events; given = given; reported = reported }
  with_status command false reported = record { events = events; given = given; reported = reported }

  by_status : (command : Command) (found : Bool) (status : Status) → status ≡ status_by found → Reports command events status printed → IsAnswer command text status printed
  by_status command found status is reported =
      subst (λ s. IsAnswer command text s printed) (sym is)
      (with_status command found (subst (λ s. Reports command events s printed) is reported))

  pub report_answers : (command : Command) (status : Status) → Reports command events status printed → IsAnswer command text status printed
  report_answers Reads status (is, printed) = by_status Reads _ status is (is, printed)
  report_answers (Edges keys) status (is, printed) = by_status (Edges keys) false status is (is, printed)
  report_answers (Check workers keys) status verdict = by_status (Check workers keys) _ status verdict.status_is verdict
