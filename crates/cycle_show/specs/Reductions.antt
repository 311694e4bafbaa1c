-- What a closed walk is reduced to: a witness of whatever the walk shows.
use Rattle.std.specs.Prelude.{List}
use Rattle.hist_types.specs.Operations.{Operation}
use Rattle.hist_types.specs.Transactions.{transactions_of}
use Rattle.hist_types.specs.Edges.{Edge, edges_at}
use Rattle.hist_types.specs.Phenomena.{Shows}
use Rattle.hist_types.specs.Witness.{IsWitness}
use Rattle.hist_types.specs.declared.types.Level.{Level}
use Rattle.hist_types.specs.declared.types.Phenomenon.{Phenomenon}
use Rattle.hist_types.specs.declared.types.KeyOrder.{KeyOrder}

-- Each phenomenon that the walk shows at a level, over all pairs of transactions in order, has this
-- witness there.
abbrev pub IsWitnessOf : (walk witness : List Edge) → Type 0
IsWitnessOf walk witness =
    (keys : KeyOrder) (phenomenon : Phenomenon) (level : Level) (events : List Operation)
    → Shows phenomenon (edges_at keys level (transactions_of events)) walk
    → IsWitness keys phenomenon level (transactions_of events) witness
