-- What is kept of the events of blocks that come one after the other.
use Rattle.std.specs.Prelude.{◌≡◌, ◌<◌, ℕ, List, [], ◌∷◌, ◌++◌, length, map, slice_get, Some, IfSome}
use Rattle.std.specs.Borrow.{Bor}
use Rattle.hist_types.specs.Journal.{KeepsRules}
use Rattle.hist_types.specs.Operations.{Operation}
use Rattle.hist_types.specs.Transactions.{Transaction, transactions_of}
use Rattle.hist_types.specs.declared.types.KeyOrder.{KeyOrder}
use Rattle.journal_core.specs.Blocks.{operations_in}
use Rattle.op_block.specs.Contents.{Contents}
use Rattle.key_versions.specs.Kept.{KeptVersions, AreKept}
use Rattle.order_frontier.specs.Thinnings.{IsThinningOf}
use Rattle.serial_points.specs.KeptPoints.{KeptPoints, HasPoints, IsNext}
use Rattle.txn_pairs.specs.Growth.{IsChange}
use Rattle.verdict.specs.declared.analysis.TablesSoFar.{TablesSoFar}

-- an analysis as its callers see it: how the versions of each key are ordered, and the events of
-- its blocks, one block after the other
pub record Analysed : Type 0 where
  pub keys : KeyOrder
  pub events : List Operation

-- the operations of blocks, one block after the other
abbrev pub events_of_blocks : List (Bor Contents) → List Operation
events_of_blocks blocks = operations_in (map (λ (b : Bor Contents). b.now) blocks)

-- The tables are those of these events, which keep the rules. Where there are points, they are
-- points of the events.
pub record AreTablesSoFar {S H : Type 0}
    (events : List Operation) (tables : TablesSoFar S H) : Type 0 where
  pub rules : KeepsRules events
  pub number : tables.events ≡ length events
  pub txns : tables.pairing ≡ transactions_of events
  pub versions : AreKept tables.pairing tables.versions
  pub order : IsThinningOf events tables.order
  pub points : IfSome tables.points (HasPoints events tables.versions)

-- ---- one event

-- The event comes after these events, keeps the rules, and begins or completes a transaction: the
-- one at the place, as it is then.
pub record ChangesOne (events : List Operation) (event : Operation) (later : List Transaction)
    (place : ℕ) (t : Transaction) : Type 0 where
  pub rules : KeepsRules (events ++ event ∷ [])
  pub txns : later ≡ transactions_of (events ++ event ∷ [])
  pub change : IsChange (length events) event (Some place) (transactions_of events) later
  pub there : slice_get later place ≡ Some t

-- The event, which changed the transaction at the place, was counted, and the transactions are those
-- after it; what else is kept is of the events before it.
pub record AreBehind {S H : Type 0} (events : List Operation) (event : Operation) (place : ℕ)
    (tables : TablesSoFar S H) : Type 0 where
  pub number : tables.events ≡ length (events ++ event ∷ [])
  pub within : place < length tables.pairing
  pub changes :
      (t : Transaction)
      → slice_get tables.pairing place ≡ Some t
      → ChangesOne events event tables.pairing place t
  pub versions : AreKept (transactions_of events) tables.versions
  pub order : IsThinningOf events tables.order
  pub points : IfSome tables.points (HasPoints events tables.versions)

-- the points are points of the events, and this event is the next one
abbrev pub AwaitsEvent :
    List Operation
    → Operation
    → (before after : KeptVersions)
    → (later : List Transaction)
    → (place : ℕ)
    → KeptPoints
    → Type 0
AwaitsEvent events event before after later place p =
    IsNext events event before p later after place
