-- What a source gave.
use Rattle.std.specs.Prelude.{◌≡◌, ℕ, List, ◌++◌}
use Rattle.std.specs.Io.KnownBytes.{Consumes}
use Rattle.hist_types.specs.Devices.{CountsFailure}
use Rattle.hist_types.specs.declared.device.Source.{Ghosts}
use Rattle.verdict_serve.specs.Cuts.{Cut, IsNext, IsUnbroken}
use Rattle.verdict_serve.specs.declared.lines.Next.{Next}

-- the source gave these bytes, and didn't fail
pub record HasGiven {S : Type 0} (device : Ghosts S) (source source' : S) (given : List ℕ) : Type 0
  where
    pub taken : Consumes (device.remaining source) (device.remaining source') given
    pub no_failure : device.failures source' ≡ device.failures source

-- the source gave these bytes, and then failed
pub record HasFailedAfter {S : Type 0} (device : Ghosts S) (source source' : S) (given : List ℕ)
    : Type 0 where
  pub taken : Consumes (device.remaining source) (device.remaining source') given
  pub failed : CountsFailure (device.failures source) (device.failures source')

-- The source failed, and with these bytes that it gave before it has given no whole line.
abbrev pub HasFailed : {S : Type 0} → Ghosts S → (before : List ℕ) → (source source' : S) → Type 0
HasFailed device before source source' =
    (given : List ℕ) × HasFailedAfter device source source' given × IsUnbroken (before ++ given)

-- with these bytes that it gave before, the source gives this next, and this is left of them then
abbrev pub GivesNext :
    {S : Type 0} → Ghosts S → Next → (before : List ℕ) → (source source' : S) → Cut → Type 0
GivesNext device next before source source' cut =
    (given : List ℕ) × HasGiven device source source' given × IsNext next (before ++ given) cut
