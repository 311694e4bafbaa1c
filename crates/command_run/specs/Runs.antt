-- How the program leaves its devices: the source that it reads, the sink that it prints to, and the
-- sink for errors.
use Rattle.std.specs.Prelude.{◌≡◌, ◌⊎◌, ℕ, ◌≤◌, List, [], take, Option, Result, Err, IfSome, codes, string_bytes}
use Rattle.std.specs.Io.KnownBytes.{Appends, IsAtEnd}
use Rattle.hist_types.specs.Devices.{CountsFailure}
use Rattle.hist_types.specs.declared.device.Source.{Ghosts as Source}
use Rattle.hist_types.specs.declared.device.Sink.{Ghosts as Sink}
use Rattle.hist_types.specs.Pieces.{HasTaken, HasTakenInPart}
use Rattle.command_run.specs.Answers.{IsAnswer}
use Rattle.command_run.specs.Statuses.{code_of, lack_line}
use Rattle.command_run.specs.declared.answer.Lack.{Lack}
use Rattle.command_run.specs.declared.answer.Lack.TheVariants.{Memory}
use Rattle.command_run.specs.declared.answer.Status.{Status}
use Rattle.command_run.specs.declared.answer.Status.TheVariants as statuses
use Rattle.command_line.specs.declared.types.LineFault.{LineFault}
use Rattle.command_line.specs.declared.types.LineFault.TheVariants as line_faults
use Rattle.command_line.specs.declared.types.Command.{Command}

-- the line that says what the program lacks was printed, unless the sink failed
abbrev pub HasPrintedLack : {T : Type 0} → Sink T → Lack → Status → (sink sink' : T) → Type 0
HasPrintedLack device lack statuses.Lacking sink sink' =
    HasTaken device sink sink' (lack_line lack)
HasPrintedLack device lack statuses.DeviceFault sink sink' =
    HasTakenInPart device sink sink' (lack_line lack)
HasPrintedLack device lack status sink sink' = ⊥

-- ---- the run of a command

-- the command's answer to the text that goes with this status was printed whole
abbrev pub HasPrintedAll : Command → List ℕ → Status
    → (before after : Option (List ℕ)) → Type 0
HasPrintedAll command text status before after =
    (printed : List ℕ) × IsAnswer command text status printed × Appends before after printed

-- a beginning of an answer of the command to the text was printed, or nothing
abbrev pub HasPrintedABeginning : Command → List ℕ → (before after : Option (List ℕ)) → Type 0
HasPrintedABeginning command text before after =
    (wanted : Status) × (printed : List ℕ) × IsAnswer command text wanted printed
    × (count : ℕ) × Appends before after (take count printed)

-- the text was answered, unless a device failed
abbrev pub HasAnswered : Command → List ℕ → Status → (before after : Option (List ℕ)) → Type 0
HasAnswered command text statuses.DeviceFault before after =
    HasPrintedABeginning command text before after
HasAnswered command text status before after = HasPrintedAll command text status before after

-- the source failed, and nothing was printed
pub record SourceFailed {S T : Type 0} (reads : Source S)
    (source source' : S) (sink sink' : T) : Type 0 where
  pub failed : CountsFailure (reads.failures source) (reads.failures source')
  pub untouched : sink' ≡ sink

-- the sink failed, and the source didn't
pub record SinkFailed {S T : Type 0} (reads : Source S) (prints : Sink T)
    (source source' : S) (sink sink' : T) : Type 0 where
  pub source_ok : reads.failures source' ≡ reads.failures source
  pub failed : CountsFailure (prints.failures sink) (prints.failures sink')

-- neither failed
pub record NeitherFailed {S T : Type 0} (reads : Source S) (prints : Sink T)
    (source source' : S) (sink sink' : T) : Type 0 where
  pub source_ok : reads.failures source' ≡ reads.failures source
  pub sink_ok : prints.failures sink' ≡ prints.failures sink

-- a device fault is reported exactly where a device failed
abbrev pub FailedBy : {S T : Type 0} → Source S → Sink T → Status
    → (source source' : S) → (sink sink' : T) → Type 0
FailedBy reads prints statuses.DeviceFault source source' sink sink' =
    SourceFailed reads source source' sink sink' ⊎ SinkFailed reads prints source source' sink sink'
FailedBy reads prints status source source' sink sink' =
    NeitherFailed reads prints source source' sink sink'

-- How the run of a command leaves its devices. It answers a text, which is the source's bytes where
-- they are known; with the statuses 0 to 2 the source was read to its end; and a device fault is
-- reported exactly where a device failed.
pub record HasRun {S T : Type 0} (reads : Source S) (prints : Sink T)
    (command : Command) (status : Status)
    (source source' : S) (sink sink' : T) : Type 0 where
  pub text : List ℕ
  pub text_is : IfSome (reads.remaining source) (λ rest. text ≡ rest)
  pub answered : HasAnswered command text status (prints.contents sink) (prints.contents sink')
  pub whole : code_of status ≤ 2 → IsAtEnd (reads.remaining source')
  pub failed : FailedBy reads prints status source source' sink sink'

-- ---- what was asked

-- a command line that asks for nothing gives status 2 and no output, and where memory ran out for
-- it the line that says so
abbrev pub HasRefusedLine : {T : Type 0} → Sink T → LineFault → Status → (sink sink' : T) → Type 0
HasRefusedLine prints (line_faults.Usage text) status sink sink' =
    (status ≡ statuses.Refused) × (sink' ≡ sink)
HasRefusedLine prints line_faults.Memory status sink sink' =
    HasPrintedLack prints Memory status sink sink'

-- what is said on standard error
abbrev pub complaint : Result Command LineFault → Status → List ℕ
complaint (Err (line_faults.Usage text)) status = string_bytes text
complaint command statuses.DeviceFault = codes "device fault\n"
complaint command status = []
