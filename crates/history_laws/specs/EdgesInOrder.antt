-- Edges in the order in which they are printed: the words of the laws about it.
use Rattle.std.specs.Prelude.{◌≡◌, List, [], ◌∷◌, All, Contains, ⊤}
use Rattle.std.specs.declared.cmp.Ordering.TheVariants.{Less, Equal}
use Rattle.hist_types.specs.Operations.{Operation}
use Rattle.hist_types.specs.Transactions.{transactions_of}
use Rattle.hist_types.specs.Edges.{Edge, dependency_edges}
use Rattle.hist_types.specs.EdgeOrder.{edge_cmp, in_order}
use Rattle.hist_types.specs.declared.types.KeyOrder.{KeyOrder}

-- each edge comes before all after it
abbrev pub Rise : List Edge → Type 0
Rise [] = ⊤
Rise (e ∷ es) = All (λ later. edge_cmp e later ≡ Less) es × Rise es

-- one of the edges leads between the same two transactions, for the same reason, at the same key
-- and first version
abbrev pub HasOneAtItsPlace : List Edge → Edge → Type 0
HasOneAtItsPlace es e = (f : Edge) × Contains es f × (edge_cmp e f ≡ Equal)

-- none of the history's dependency edges is lost where they are put in order
abbrev pub HasAllDependenciesInOrder : KeyOrder → List Operation → Type 0
HasAllDependenciesInOrder keys events =
    (e : Edge)
    → Contains (dependency_edges keys (transactions_of events)) e
    → Contains (in_order (dependency_edges keys (transactions_of events))) e
