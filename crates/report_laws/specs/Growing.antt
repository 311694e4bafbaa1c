-- Histories that grow: the words of the law about reports that stay.
use Rattle.std.specs.Prelude.{List}
use Rattle.hist_types.specs.Operations.{Operation}
use Rattle.hist_types.specs.Transactions.{transactions_of}
use Rattle.hist_types.specs.Phenomena.{HasPhenomenon}
use Rattle.hist_types.specs.declared.types.KeyOrder.{KeyOrder}

-- a history that has a phenomenon at these events still has one at the later ones
abbrev pub PhenomenaStay : (keys : KeyOrder) (events later : List Operation) → Type 0
PhenomenaStay keys events later =
    HasPhenomenon keys (transactions_of events) → HasPhenomenon keys (transactions_of later)
