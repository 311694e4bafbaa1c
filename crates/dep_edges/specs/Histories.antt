-- Histories of journals that keep their rules, and the tables of their versions.
use Rattle.std.specs.Prelude.{◌≡◌, List}
use Rattle.hist_types.specs.Journal.{KeepsRules}
use Rattle.hist_types.specs.Operations.{Operation}
use Rattle.hist_types.specs.Transactions.{Transaction, transactions_of}
use Rattle.key_versions.specs.Tables.{Table, IsTableOf}

abbrev pub AreOfHistory : List Transaction → Type 0
AreOfHistory ts = (events : List Operation) × KeepsRules events × (ts ≡ transactions_of events)

-- a history's transactions with the table of their versions
pub record History : Type 0 where
  pub txns : List Transaction
  pub table : Table

pub record IsHistory (ts : List Transaction) (table : Table) : Type 0 where
  pub kept : AreOfHistory ts
  pub versions : IsTableOf table.keys ts table
