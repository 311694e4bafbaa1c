-- Reading a source in rounds.
use Rattle.std.specs.Prelude.{◌≡◌, ◌⊎◌, ℕ, ◌+◌, List, [], ◌++◌, length, drop, true, false}
use Rattle.std.specs.Io.KnownBytes.{Consumes, IsAtEnd}
use Rattle.hist_types.specs.Devices.{CountsFailure}
use Rattle.hist_types.specs.Operations.{Operation}
use Rattle.hist_types.specs.Refusals.{memory_fault}
use Rattle.hist_types.specs.declared.device.Source.{Ghosts as Source}
use Rattle.hist_types.specs.declared.types.Fault.{Fault}
use Rattle.hist_types.specs.Reading.{GivesOperations, GivesFault, FailsFrom}
use Rattle.reading_laws.specs.Parts.{fault_behind}
use Rattle.block_reader.specs.Parts.{ReadsThrough}
use Rattle.block_reader.specs.declared.rounds.Reading.{Reading}
use Rattle.block_reader.specs.declared.rounds.InputFault.{InputFault}
use Rattle.block_reader.specs.declared.rounds.InputFault.TheVariants as faults

-- a failure of the source is counted there, and that memory ran out isn't
abbrev pub IsCounted : InputFault → (old new : ℕ) → Type 0
IsCounted faults.Device old new = CountsFailure old new
IsCounted (faults.Text fault) old new = (fault ≡ memory_fault) × (new ≡ old)

-- more bytes were read of the source, behind these
pub record HasReadMore {S : Type 0} (device : Source S) (source source' : S)
    (bytes bytes' : List ℕ) : Type 0 where
  pub more : List ℕ
  pub behind : bytes' ≡ bytes ++ more
  pub given : Consumes (device.remaining source) (device.remaining source') more

-- the source gave this text and then ended, and never failed
pub record HasGivenAll {S : Type 0} (device : Source S) (source source' : S)
    (text : List ℕ) : Type 0 where
  pub given : Consumes (device.remaining source) (device.remaining source') text
  pub at_end : IsAtEnd (device.remaining source')
  pub no_failure : device.failures source' ≡ device.failures source

-- the source was read to its end, and the text is of these operations
pub record HasReadAll {S : Type 0} (device : Source S) (source source' : S)
    (operations : List Operation) : Type 0 where
  pub text : List ℕ
  pub all : HasGivenAll device source source' text
  pub gives : GivesOperations text operations

-- a failure of the source is counted there; of a text, it was read to its end and is refused, unless
-- memory ran out
abbrev pub IsFaultOf : {S : Type 0} → Source S → (source source' : S) → InputFault → Type 0
IsFaultOf device source source' faults.Device =
    CountsFailure (device.failures source) (device.failures source')
IsFaultOf device source source' (faults.Text fault) =
    ((fault ≡ memory_fault) × (device.failures source' ≡ device.failures source))
    ⊎ ((text : List ℕ) × HasGivenAll device source source' text × GivesFault text fault)

-- nothing of it was read
pub record IsNew (reading : Reading) : Type 0 where
  pub window : reading.window.bytes ≡ []
  pub offset : reading.offset ≡ 0
  pub going : reading.ended ≡ false

-- so many of the window's first bytes are read through
pub record HasPassed (count : ℕ) (reading reading' : Reading) : Type 0 where
  pub window : reading'.window.bytes ≡ drop count reading.window.bytes
  pub offset : reading'.offset ≡ reading.offset + count
  pub ended : reading'.ended ≡ reading.ended

-- A front of the source's text was read through, which has these operations; the bytes of the window
-- were read behind it, and the source never failed.
pub record HasCome {S : Type 0} (device : Source S) (source source' : S) (reading : Reading)
    (operations : List Operation) : Type 0 where
  pub front : List ℕ
  pub given : Consumes (device.remaining source) (device.remaining source') (front ++ reading.window.bytes)
  pub no_failure : device.failures source' ≡ device.failures source
  pub long : length front ≡ reading.offset
  pub through : ReadsThrough front operations
  pub at_end : reading.ended ≡ true → IsAtEnd (device.remaining source')

-- behind any front of the bytes before, and whatever is read yet, the window has this fault, as far
-- behind its start
abbrev pub IsRefused : Reading → Fault → Type 0
IsRefused reading fault =
    (front more : List ℕ)
    → length front ≡ reading.offset
    → FailsFrom (front ++ reading.window.bytes ++ more) reading.offset
    (fault_behind reading.offset fault)
