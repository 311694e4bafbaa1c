-- Verdicts of a history that grows: the words of the law about refutations that stay.
use Rattle.std.specs.Prelude.{◌≡◌, List}
use Rattle.hist_types.specs.Operations.{Operation}
use Rattle.hist_types.specs.Reports.{Report, IsVerdictOf, strict_of}
use Rattle.hist_types.specs.declared.types.KeyOrder.{KeyOrder}
use Rattle.hist_types.specs.declared.types.Strict.TheVariants.{Refuted}

-- if a verdict of the events says refuted, so does one of the later events
abbrev pub RefutationStays : (keys : KeyOrder) (events later : List Operation) → Type 0
RefutationStays keys events later =
    (early late : Report)
    → IsVerdictOf keys events early
    → IsVerdictOf keys later late
    → strict_of early ≡ Refuted
    → strict_of late ≡ Refuted
