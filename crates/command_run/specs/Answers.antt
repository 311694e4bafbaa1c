-- What the program answers to a text.
use Rattle.std.specs.Prelude.{◌≡◌, ◌≢◌, ◌⊎◌, ℕ, List, [], Option, Some, option_map}
use Rattle.hist_types.specs.Operations.{Operation}
use Rattle.hist_types.specs.Journal.{first_broken, KeepsRules}
use Rattle.hist_types.specs.Refusals.{event_fault}
use Rattle.hist_types.specs.Reports.{Report, IsVerdictOf, names_phenomenon, reads_report, names_read, edges_report}
use Rattle.hist_types.specs.Texts.{reads_text, edges_text, verdict_text, refusal_line}
use Rattle.hist_types.specs.declared.types.Fault.{Fault}
use Rattle.hist_types.specs.declared.types.KeyOrder.{KeyOrder}
use Rattle.hist_types.specs.declared.types.KeyOrder.TheVariants.{Basic}
use Rattle.hist_types.specs.Reading.{GivesOperations, GivesFault}
use Rattle.command_run.specs.Statuses.{status_by, lack_line}
use Rattle.command_run.specs.declared.answer.Lack.{Lack}
use Rattle.command_run.specs.declared.answer.Status.{Status}
use Rattle.command_run.specs.declared.answer.Status.TheVariants as statuses
use Rattle.command_line.specs.declared.types.Command.{Command}
use Rattle.command_line.specs.declared.types.Command.TheVariants as commands

-- the first rule that the operations break, one after the other
abbrev pub journal_fault : List Operation → Option Fault
journal_fault operations = option_map event_fault (first_broken [] operations)

-- the text's operations are the events of a journal
pub record GivesEvents (text : List ℕ) (events : List Operation) : Type 0 where
  pub given : GivesOperations text events
  pub kept : KeepsRules events

-- the text reads as operations, and the fault is that of the first rule that one of them breaks
abbrev pub BreaksRule : List ℕ → Fault → Type 0
BreaksRule text fault =
    (operations : List Operation)
    × GivesOperations text operations × (journal_fault operations ≡ Some fault)

-- the first refusal: a fault of reading comes before all rules of the journal
abbrev pub IsRefused : List ℕ → Fault → Type 0
IsRefused text fault = GivesFault text fault ⊎ BreaksRule text fault

-- the text of a verdict of the events, with status 1 exactly where it names a phenomenon
pub record IsVerdict (keys : KeyOrder) (events : List Operation) (status : Status)
    (printed : List ℕ) : Type 0 where
  pub report : Report
  pub is_verdict : IsVerdictOf keys events report
  pub text : printed ≡ verdict_text report
  pub status_is : status ≡ status_by (names_phenomenon report)

-- the order of keys that a command rests on, where it rests on one
abbrev pub keys_of : Command → KeyOrder
keys_of commands.Reads = Basic
keys_of (commands.Edges keys) = keys
keys_of (commands.Check workers keys) = keys

-- what a command prints of the events, and the status with it
abbrev pub Reports : Command → List Operation → Status → List ℕ → Type 0
Reports commands.Reads events status printed =
    (status ≡ status_by (names_read (reads_report events)))
    × (printed ≡ reads_text (reads_report events))
Reports (commands.Edges keys) events status printed =
    (status ≡ statuses.NoPhenomenon) × (printed ≡ edges_text (edges_report keys events))
Reports (commands.Check workers keys) events status printed = IsVerdict keys events status printed

-- the report of a command on the events that the text gives
pub record IsReport (command : Command) (text : List ℕ) (status : Status)
    (printed : List ℕ) : Type 0 where
  pub events : List Operation
  pub given : GivesEvents text events
  pub reported : Reports command events status printed

-- what a command prints with each status
abbrev pub IsAnswer : Command → List ℕ → Status → List ℕ → Type 0
IsAnswer command text statuses.NoPhenomenon printed =
    IsReport command text statuses.NoPhenomenon printed
IsAnswer command text statuses.SomePhenomenon printed =
    IsReport command text statuses.SomePhenomenon printed
IsAnswer command text statuses.Refused printed =
    (fault : Fault) × IsRefused text fault × (printed ≡ refusal_line fault)
IsAnswer command text statuses.DeviceFault printed = ⊥
IsAnswer command text statuses.Lacking printed = (lack : Lack) × (printed ≡ lack_line lack)

-- the command has an answer to the text other than what it lacks
abbrev pub HasAnswer : Command → List ℕ → Type 0
HasAnswer command text =
    (status : Status) × (printed : List ℕ)
    × (status ≢ statuses.Lacking) × IsAnswer command text status printed
