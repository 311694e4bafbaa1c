-- What a serial schedule that keeps each edge shows.
use Rattle.std.proofs.Common.{◌≡◌, List, Bool, true, false, refl, sym, subst}
use Rattle.std.specs.Bool.{OnTrue}
use Rattle.hist_types.specs.Phenomena.{stray}
use Rattle.hist_types.specs.Reports.{AreFindings, no_findings}
use Rattle.hist_types.specs.Transactions.{Transaction}
use Rattle.hist_types.specs.declared.types.KeyOrder.{KeyOrder}
use Rattle.schedules.proofs.Phenomena.{none_there, nothing_found}
use Rattle.schedules.specs.declared.types.TheConstants.EdgeKinds.{ALL}
use Rattle.clean_order.specs.CleanReads.{HasNoBadRead}
use Rattle.clean_order.specs.Shown.{HasSerialSchedule, ShowsNothing}

pub no_cycle : (keys : KeyOrder) (ts : List Transaction) → HasSerialSchedule keys ts → AreFindings keys ts no_findings
no_cycle keys ts (s, serial, keeps) =
    nothing_found keys ts (λ phenomenon level rules reach. none_there keys ALL ts s keeps level reach true (λ _. serial) phenomenon rules)

pub shows_nothing :
    (keys order : KeyOrder) (ts : List Transaction) (done : Bool)
    → keys ≡ order
    → (done ≡ true → HasSerialSchedule order ts × HasNoBadRead ts × (stray ts ≡ 0))
    → OnTrue done (ShowsNothing keys ts)
shows_nothing keys order ts false is shown = tt
shows_nothing keys order ts true is shown =
    let (scheduled, reads, none) = shown refl in
    record { findings = no_cycle keys ts (subst (λ k. HasSerialSchedule k ts) (sym is) scheduled); reads = reads; stray = none }
