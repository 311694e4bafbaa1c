-- Whole outputs: what a sink took of some bytes.
use Rattle.std.specs.Prelude.{◌≡◌, ◌⊎◌, ℕ, List, take}
use Rattle.std.specs.Io.KnownBytes.{Appends}
use Rattle.hist_types.specs.Devices.{CountsFailure}
use Rattle.hist_types.specs.declared.device.Sink.{Ghosts}

-- the sink took all these bytes
pub record HasTaken {T : Type 0} (device : Ghosts T) (sink sink' : T)
    (bytes : List ℕ) : Type 0 where
  pub taken : Appends (device.contents sink) (device.contents sink') bytes
  pub no_failure : device.failures sink' ≡ device.failures sink

-- the sink failed, and took a beginning of these bytes
pub record HasTakenInPart {T : Type 0} (device : Ghosts T) (sink sink' : T)
    (bytes : List ℕ) : Type 0 where
  pub count : ℕ
  pub taken : Appends (device.contents sink) (device.contents sink') (take count bytes)
  pub failed : CountsFailure (device.failures sink) (device.failures sink')

-- the sink took all these bytes, unless it failed
abbrev pub HasTakenUnlessFailed : {T : Type 0} → Ghosts T → (sink sink' : T) → List ℕ → Type 0
HasTakenUnlessFailed device sink sink' bytes =
    HasTaken device sink sink' bytes ⊎ HasTakenInPart device sink sink' bytes
