-- How a run ends.
use Rattle.std.specs.Prelude.{ℕ, List, Bool, if◌then◌else◌}
use Rattle.hist_types.specs.Refusals.{without_place, memory_fault}
use Rattle.hist_types.specs.Texts.{refusal_line}
use Rattle.hist_types.specs.declared.types.Refusal.TheVariants.{NoThread}
use Rattle.command_run.specs.declared.answer.Lack.{Lack}
use Rattle.command_run.specs.declared.answer.Lack.TheVariants.{Memory, Thread}
use Rattle.command_run.specs.declared.answer.Status.{Status}
use Rattle.command_run.specs.declared.answer.Status.TheVariants.{NoPhenomenon, SomePhenomenon, Refused, DeviceFault, Lacking}

-- the number that the process ends with
abbrev pub code_of : Status → ℕ
code_of NoPhenomenon = 0
code_of SomePhenomenon = 1
code_of Refused = 2
code_of DeviceFault = 3
code_of Lacking = 4

-- the status of a report, by whether it names a phenomenon
abbrev pub status_by : Bool → Status
status_by named = if named then SomePhenomenon else NoPhenomenon

-- what is printed of what a run lacked
abbrev pub lack_line : Lack → List ℕ
lack_line Memory = refusal_line memory_fault
lack_line Thread = refusal_line (without_place NoThread)
