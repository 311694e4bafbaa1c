-- A phenomenon refutes each explanation: no closed walk goes forward, and no aborted or intermediate version is read.
use Rattle.std.proofs.Common.{inl, inr, List, [], ◌∷◌, ◌||◌, Option, is_some, sym, ◌∙◌, ap}
use Rattle.std.specs.List.{AllByRecursion}
use Rattle.std.proofs.lemmas.Bool.{false≢true}
use Rattle.hist_types.specs.Journal.{KeepsRules}
use Rattle.hist_types.specs.Operations.{Operation}
use Rattle.hist_types.specs.Transactions.{Transaction, transactions_of}
use Rattle.hist_types.specs.Edges.{Edge, dependency_edges, order_edges, edges_at}
use Rattle.hist_types.specs.Phenomena.{g1b, BadRead}
use Rattle.hist_types.specs.declared.types.Level.{Level}
use Rattle.hist_types.specs.declared.types.KeyOrder.{KeyOrder}
use Rattle.hist_types.proofs.Members.{In, in_append, Contains_from_in}
use Rattle.history_laws.proofs.ThinningWalks.{within_in}
use Rattle.report_laws.specs.Explained.{AlwaysGoForward, PhenomenaRefute}
use Rattle.report_laws.proofs.ExplainedOrders.{IsForward, goes_forward, never_closed}
use Rattle.report_laws.proofs.ExplainedReads.{IsExplained, no_g1a, no_g1b}
use Rattle.report_laws.proofs.ExplainedEdges.{dependency_forward, order_forward}

pub dependencies_kept : (keys : KeyOrder) (events : List Operation) → KeepsRules events → AlwaysGoForward (dependency_edges keys) events
dependencies_kept keys events kept order e explains c =
    goes_forward order e (dependency_forward keys events order (record { kept = kept; explains = explains }) e c)

pub order_kept : (level : Level) (events : List Operation) → KeepsRules events → AlwaysGoForward (order_edges level) events
order_kept level events kept order e explains c =
    goes_forward order e (order_forward events order (record { kept = kept; explains = explains }) level e c)

forward :
    (keys : KeyOrder) (events : List Operation) (order : List Transaction)
    → IsExplained events order
    → (level : Level) (e : Edge)
    → In e (edges_at keys level (transactions_of events))
    → IsForward order e
forward keys events order h level e i =
    let ts : List Transaction = transactions_of events in
    elim (in_append e (dependency_edges keys ts) (order_edges level ts) i) [
      | inl j ↦ dependency_forward keys events order h e (Contains_from_in e (dependency_edges keys ts) j)
      | inr j ↦ order_forward events order h level e (Contains_from_in e (order_edges level ts) j)
    ]

all_forward :
    (keys : KeyOrder) (events : List Operation) (order : List Transaction)
    → IsExplained events order
    → (level : Level) (walk : List Edge)
    → AllByRecursion (λ e. In e (edges_at keys level (transactions_of events))) walk
    → AllByRecursion (IsForward order) walk
all_forward keys events order h level [] all = tt
all_forward keys events order h level (e ∷ walk) all = (forward keys events order h level e all.0, all_forward keys events order h level walk all.1)

pub refuted : (keys : KeyOrder) (events : List Operation) → KeepsRules events → PhenomenaRefute keys events
refuted keys events kept (inl (phenomenon, level, (walk, shows))) (order, explains) =
    let h : IsExplained events order = record { kept = kept; explains = explains } in
    never_closed order walk explains.different shows.closed
    (all_forward keys events order h level walk (within_in (edges_at keys level (transactions_of events)) walk shows.within))
refuted keys events kept (inr reads) explained =
    let ts : List Transaction = transactions_of events in
    false≢true
    (sym (ap (λ r. is_some r || is_some (g1b ts)) (no_g1a events kept explained) ∙ ap (λ (r : Option BadRead). is_some r) (no_g1b events kept explained)) ∙ reads)
