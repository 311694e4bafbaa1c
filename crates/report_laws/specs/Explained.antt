-- Explanations and phenomena: the words of the laws about them.
--
-- An edge goes forward in an order if both its transactions are in the order, the first one before
-- the second one. In an order that explains the history every edge goes forward, so no walk along
-- edges is closed. Nor does an ok transaction read a version of a failed transaction, or an
-- intermediate version of another one. So a history with a phenomenon has no explanation.
use Rattle.std.specs.Prelude.{◌≡◌, List, ◌++◌, Option, None, Contains}
use Rattle.hist_types.specs.Operations.{Operation}
use Rattle.hist_types.specs.Transactions.{Transaction, transactions_of}
use Rattle.hist_types.specs.Edges.{Edge}
use Rattle.hist_types.specs.Explanation.{Explains, AreExplained}
use Rattle.hist_types.specs.Phenomena.{BadRead, HasPhenomenon}
use Rattle.hist_types.specs.Reports.{Report, strict_of}
use Rattle.hist_types.specs.declared.types.Strict.TheVariants.{Refuted}
use Rattle.hist_types.specs.declared.types.KeyOrder.{KeyOrder}

-- both transactions are in the order, the first one before the second one
abbrev pub ComesBefore : List Transaction → Transaction → Transaction → Type 0
ComesBefore order t u =
    (front : List Transaction)
    × (rest : List Transaction)
    × (order ≡ front ++ rest)
    × Contains front t
    × Contains rest u

-- the edge leads from a transaction of the order to a later one
abbrev pub GoesForward : List Transaction → Edge → Type 0
GoesForward order e =
    (t : Transaction)
    × (u : Transaction)
    × (e.from ≡ t.invocation)
    × (e.to ≡ u.invocation)
    × ComesBefore order t u

-- in every order that explains the history, each of these edges goes forward
abbrev pub AlwaysGoForward : (List Transaction → List Edge) → List Operation → Type 0
AlwaysGoForward edges events =
    let ts = transactions_of events in
    (order : List Transaction) (e : Edge)
    → Explains ts order
    → Contains (edges ts) e
    → GoesForward order e

-- if some order explains the history, no such read is reported
abbrev pub IsNoneIfExplained : (List Transaction → Option BadRead) → List Operation → Type 0
IsNoneIfExplained reported events =
    let ts = transactions_of events in
    AreExplained ts → reported ts ≡ None

-- if the history has a phenomenon, no order explains it
abbrev pub PhenomenaRefute : KeyOrder → List Operation → Type 0
PhenomenaRefute keys events =
    let ts = transactions_of events in
    HasPhenomenon keys ts → ¬ AreExplained ts

-- if the report says that the history is refuted, no order explains it
abbrev pub RefutesExplanations : List Operation → Report → Type 0
RefutesExplanations events report =
    strict_of report ≡ Refuted → ¬ AreExplained (transactions_of events)
