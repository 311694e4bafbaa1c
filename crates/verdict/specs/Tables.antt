-- What verdicts are made from.
use Rattle.std.specs.Prelude.{◌≡◌, ℕ, List, length, IfSome}
use Rattle.hist_types.specs.Journal.{KeepsRules}
use Rattle.hist_types.specs.Operations.{Operation}
use Rattle.hist_types.specs.Phenomena.{g1a, g1b, stray}
use Rattle.hist_types.specs.Reports.{Report, IsVerdictOf}
use Rattle.hist_types.specs.Transactions.{Transaction, transactions_of}
use Rattle.hist_types.specs.declared.types.KeyOrder.{KeyOrder}
use Rattle.key_versions.specs.Tables.{IsTableOf}
use Rattle.dep_edges.specs.Histories.{History}
use Rattle.order_frontier.specs.Predecessors.{IsThinnedOrder}
use Rattle.verdict.specs.declared.tables.Tables.{Tables}
use Rattle.verdict.specs.declared.types.BadReads.{BadReads}

-- what a verdict of these events, which keep the rules, is made from
pub record AreTablesOf (events : List Operation) (tables : Tables) : Type 0 where
  pub rules : KeepsRules events
  pub count : tables.events ≡ length events
  pub txns : tables.txns.now ≡ transactions_of events
  pub versions : IsTableOf tables.versions.now.keys tables.txns.now tables.versions.now
  pub thinned : IfSome tables.thinned (λ order. IsThinnedOrder tables.txns.now order.now)

-- what a verdict of some events is made from
abbrev pub AreTables : Tables → Type 0
AreTables tables = (events : List Operation) × AreTablesOf events tables

-- how the versions of each key are ordered
abbrev pub keys_in : Tables → KeyOrder
keys_in tables = tables.versions.now.keys

-- the transactions with the table of their versions
abbrev pub history_of : Tables → History
history_of tables = record { txns = tables.txns.now; table = tables.versions.now }

-- the verdict of whichever events are this many and make these transactions
abbrev pub IsVerdictFor : KeyOrder → (count : ℕ) → List Transaction → Report → Type 0
IsVerdictFor keys count ts report =
    (events : List Operation) → count ≡ length events → ts ≡ transactions_of events
    → IsVerdictOf keys events report

-- what a verdict reports of these transactions' bad reads
pub record AreBadReadsOf (ts : List Transaction) (reads : BadReads) : Type 0 where
  pub g1a : reads.g1a ≡ g1a ts
  pub g1b : reads.g1b ≡ g1b ts
  pub stray : reads.stray ≡ stray ts
