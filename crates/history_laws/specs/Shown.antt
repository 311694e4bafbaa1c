-- What shows a phenomenon, and at which levels: the words of the laws about that.
use Rattle.std.specs.Prelude.{◌↔◌, ℕ, ◌+◌, ◌≤◌, List, ◌++◌, IsTrue}
use Rattle.hist_types.specs.Operations.{Operation}
use Rattle.hist_types.specs.Transactions.{Transaction, transactions_of}
use Rattle.hist_types.specs.Edges.{Edge, dependency_edges, edges_at}
use Rattle.hist_types.specs.declared.types.Level.{Level}
use Rattle.hist_types.specs.Phenomena.{makes, IsThere, IsShownBy, Shows}
use Rattle.hist_types.specs.Witness.{IsWitness, dependencies_in, HasFewest}
use Rattle.hist_types.specs.declared.types.Phenomenon.{Phenomenon}
use Rattle.hist_types.specs.ThinnedOrder.{thinned_edges}
use Rattle.hist_types.specs.declared.types.KeyOrder.{KeyOrder}
use Rattle.history_laws.specs.Paths.{IncludesAllOk, order_edges_between, thinned_edges_between}
use Rattle.history_laws.specs.Walks.{SameCounts}
use Rattle.history_laws.specs.WaysBack.{HasWayBack, IsShownWithin, HasWayBackWithin}

abbrev pub HasWitness : KeyOrder → Phenomenon → Level → List Transaction → Type 0
HasWitness keys phenomenon level ts = (walk : List Edge) × IsWitness keys phenomenon level ts walk

-- some witness has at most so many dependency edges
abbrev pub HasWitnessWithin : KeyOrder → Phenomenon → Level → List Transaction → ℕ → Type 0
HasWitnessWithin keys phenomenon level ts most =
    (walk : List Edge)
    × IsWitness keys phenomenon level ts walk
    × (dependencies_in walk ≤ most)

-- this is true of the transactions of any events
abbrev pub InEachHistory : (List Transaction → Type 0) → Type 0
InEachHistory IsSo = (events : List Operation) → IsSo (transactions_of events)

-- the edges that a cycle at the level may use, but of order edges only the thinned ones
abbrev pub thinned_edges_at : KeyOrder → Level → List Transaction → List Edge
thinned_edges_at keys level ts = dependency_edges keys ts ++ thinned_edges level ts

-- whether a walk makes the phenomenon depends only on how many ww, wr and rw edges it has
abbrev pub IsMadeByCounts : Phenomenon → Type 0
IsMadeByCounts phenomenon =
    (walk other : List Edge)
    → SameCounts walk other
    → IsTrue (makes phenomenon walk)
    → IsTrue (makes phenomenon other)

-- the first edges show the phenomenon exactly where the second do, with any other edges beside both
abbrev pub ShowAlikeBeside : Phenomenon → List Edge → List Edge → Type 0
ShowAlikeBeside phenomenon es more =
    (others : List Edge)
    → IsShownBy phenomenon (others ++ es) ↔ IsShownBy phenomenon (others ++ more)

-- order edges between nodes with all ok transactions of a history show it where thinned ones do
abbrev pub ThinningKeepsIt : Phenomenon → Level → Type 0
ThinningKeepsIt phenomenon level =
    (events : List Operation) (ns : List Transaction) →
    let ts = transactions_of events in
    IncludesAllOk ts ns
    → ShowAlikeBeside phenomenon (order_edges_between level ns) (thinned_edges_between level ts ns)

-- a history has the phenomenon at the level exactly where its edges with thinned order show it
abbrev pub ThinnedEdgesShowIt : KeyOrder → Phenomenon → Level → Type 0
ThinnedEdgesShowIt keys phenomenon level =
    InEachHistory
    (λ ts. IsThere keys phenomenon level ts ↔ IsShownBy phenomenon (thinned_edges_at keys level ts))

-- a walk that has the fewest dependency edges of those with thinned order has the fewest of all
abbrev pub ThinningKeepsTheFewest : KeyOrder → Phenomenon → Level → Type 0
ThinningKeepsTheFewest keys phenomenon level =
    InEachHistory
    (λ ts. (walk : List Edge)
    → HasFewest phenomenon (thinned_edges_at keys level ts) walk
    → HasFewest phenomenon (edges_at keys level ts) walk)

-- edges show the phenomenon exactly where one of them has a way back
abbrev pub AnyEdgesShowItByAWayBack : Phenomenon → Type 0
AnyEdgesShowItByAWayBack phenomenon =
    (es : List Edge) → IsShownBy phenomenon es ↔ HasWayBack phenomenon es

-- with at most one dependency edge more than the way back has
abbrev pub FewEdgesShowItByAWayBack : Phenomenon → Type 0
FewEdgesShowItByAWayBack phenomenon =
    (es : List Edge) (most : ℕ)
    → IsShownWithin phenomenon es (1 + most) ↔ HasWayBackWithin phenomenon es most

-- a history has it there exactly where one of its edges with thinned order has a way back
abbrev pub ThinnedEdgesHaveAWayBack : KeyOrder → Phenomenon → Level → Type 0
ThinnedEdgesHaveAWayBack keys phenomenon level =
    InEachHistory
    (λ ts. IsThere keys phenomenon level ts
    ↔ HasWayBack phenomenon (thinned_edges_at keys level ts))

-- a history has the phenomenon at the level exactly where it has a witness of it there
abbrev pub IsThereWithAWitness : KeyOrder → Phenomenon → Level → Type 0
IsThereWithAWitness keys phenomenon level =
    InEachHistory (λ ts. IsThere keys phenomenon level ts ↔ HasWitness keys phenomenon level ts)

-- each walk that shows it there has a witness with no more dependency edges
abbrev pub WalksHaveWitnesses : KeyOrder → Phenomenon → Level → Type 0
WalksHaveWitnesses keys phenomenon level =
    InEachHistory
    (λ ts. (walk : List Edge)
    → Shows phenomenon (edges_at keys level ts) walk
    → HasWitnessWithin keys phenomenon level ts (dependencies_in walk))

-- a phenomenon that is there at the lower level is there at the higher one
abbrev pub PhenomenaRise : (keys : KeyOrder) (lower higher : Level) → Type 0
PhenomenaRise keys lower higher =
    (phenomenon : Phenomenon) (ts : List Transaction)
    → IsThere keys phenomenon lower ts
    → IsThere keys phenomenon higher ts
