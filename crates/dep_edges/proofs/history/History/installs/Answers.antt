use Rattle.std.proofs.Common.{◌≡◌, All, map, subst}
use Rattle.hist_types.specs.Transactions.{installed_by}
use Rattle.dep_edges.specs.Histories.{History}
use Rattle.dep_edges.specs.Tables.{IsNumber, IsWritten, version_at, txn_at}
use Rattle.dep_edges.proofs.Places.{installed_are_written, versions_told, numbers_within}
use Rattle.dep_edges.proofs.history.History.installs.Goals as goal

pub returns-clause-value : goal.returns-clause-value
returns-clause-value c =
    let h = c.self.inside in
    let table = h.versions.now in
    subst (λ (h : History). map (version_at h.table) c.installs.result.now ≡ installed_by (txn_at h.txns c.args.place)) c.self.view_is
    (versions_told installed_by h.txns.now table table.installs c.args.place c.installs.result.now c.self.invariant.versions.installs c.installs.ensures)

pub returns-clause-within : goal.returns-clause-within
returns-clause-within c =
    let h = c.self.inside in
    let table = h.versions.now in
    subst (λ (h : History). All (IsNumber h.table) c.installs.result.now) c.self.view_is
    (numbers_within installed_by h.txns.now table table.installs c.args.place c.installs.result.now c.self.invariant.versions.installs c.installs.ensures)

pub returns-clause-written : goal.returns-clause-written
returns-clause-written c =
    let h = c.self.inside in
    let table = h.versions.now in
    subst (λ (h : History). All (IsWritten h.table) c.installs.result.now) c.self.view_is
    (installed_are_written table.keys h.txns.now table c.args.place c.installs.result.now c.self.invariant.versions c.installs.ensures)
