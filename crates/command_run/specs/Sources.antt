-- What a source gave, and why there is no answer to it.
use Rattle.std.specs.Prelude.{◌≡◌, ◌⊎◌, ℕ, List}
use Rattle.hist_types.specs.Devices.{CountsFailure}
use Rattle.hist_types.specs.declared.device.Source.{Ghosts as Source}
use Rattle.block_reader.specs.Rounds.{HasGivenAll}
use Rattle.block_reader.specs.declared.rounds.InputFault.{InputFault}
use Rattle.block_reader.specs.declared.rounds.InputFault.TheVariants as faults
use Rattle.verdict.specs.KeyPieces.{IsMemoryOrThread}
use Rattle.command_run.specs.Answers.{IsRefused}

-- the source gave a text to its end, for which this holds
abbrev pub HasGiven : {S : Type 0} → Source S → (source source' : S) → (List ℕ → Type 0) → Type 0
HasGiven device source source' Holds =
    (text : List ℕ) × HasGivenAll device source source' text × Holds text

-- The source failed, which is counted there; or the program lacks something; or the source gave a
-- text to its end, which is refused so.
abbrev pub HasNoReport : {S : Type 0} → Source S → (source source' : S) → InputFault → Type 0
HasNoReport device source source' faults.Device =
    CountsFailure (device.failures source) (device.failures source')
HasNoReport device source source' (faults.Text fault) =
    (IsMemoryOrThread fault × (device.failures source' ≡ device.failures source))
    ⊎ HasGiven device source source' (λ text. IsRefused text fault)
