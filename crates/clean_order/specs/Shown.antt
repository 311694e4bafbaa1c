-- What it means that a history shows nothing.
use Rattle.std.specs.Prelude.{◌≡◌, List}
use Rattle.hist_types.specs.Phenomena.{stray}
use Rattle.hist_types.specs.Reports.{AreFindings, no_findings}
use Rattle.hist_types.specs.Transactions.{Transaction}
use Rattle.hist_types.specs.declared.types.KeyOrder.{KeyOrder}
use Rattle.schedules.specs.Schedules.{Schedule, Keeps, IsSerial}
use Rattle.schedules.specs.declared.types.TheConstants.EdgeKinds.{ALL}
use Rattle.clean_order.specs.CleanReads.{HasNoBadRead}

-- a serial schedule keeps each edge of the history
abbrev pub HasSerialSchedule : KeyOrder → List Transaction → Type 0
HasSerialSchedule keys ts = (s : Schedule) × IsSerial s × Keeps keys ALL ts s

-- no cycle and no read shows a phenomenon, and no read is stray
pub record ShowsNothing (keys : KeyOrder) (ts : List Transaction) : Type 0 where
  pub findings : AreFindings keys ts no_findings
  pub reads : HasNoBadRead ts
  pub stray : stray ts ≡ 0
