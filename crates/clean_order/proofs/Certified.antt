-- What a schedule that lists give rules out.
use Rattle.std.proofs.Common.{ℕ, List, Bool, true, false, arith}
use Rattle.std.specs.Bool.{OnTrue}
use Rattle.dep_edges.specs.Histories.{History}
use Rattle.std.proofs.lemmas.Bool.{false≢true, OnTrue_at, OnTrue_from}
use Rattle.schedules.specs.Cycles.{HasNoneRuledOut}
use Rattle.schedules.specs.declared.types.EdgeKinds.{EdgeKinds}
use Rattle.schedules.proofs.Phenomena.{none_there}
use Rattle.clean_order.specs.Listed.{listed, KeepsListed}

-- starts and commits are listed by one list
pub serial :
    (settled : Bool) (h : History) (kinds : EdgeKinds) (ranks ends : List ℕ)
    → OnTrue settled (KeepsListed h kinds ranks ranks ends)
    → OnTrue settled (HasNoneRuledOut h.table.keys kinds true h.txns)
serial settled h kinds ranks ends keeps =
    OnTrue_from settled (HasNoneRuledOut h.table.keys kinds true h.txns) (λ e phenomenon level rules reach.
    none_there h.table.keys kinds h.txns (listed h.txns ranks ranks ends) (OnTrue_at e keeps) level
    reach true (λ _ n. omega arith) phenomenon rules)

pub apart :
    (settled : Bool) (h : History) (kinds : EdgeKinds) (starts commits ends : List ℕ)
    → OnTrue settled (KeepsListed h kinds starts commits ends)
    → OnTrue settled (HasNoneRuledOut h.table.keys kinds false h.txns)
apart settled h kinds starts commits ends keeps =
    OnTrue_from settled (HasNoneRuledOut h.table.keys kinds false h.txns) (λ e phenomenon level rules reach.
    none_there h.table.keys kinds h.txns (listed h.txns starts commits ends) (OnTrue_at e keeps) level
    reach false (λ e. absurd (false≢true e)) phenomenon rules)
