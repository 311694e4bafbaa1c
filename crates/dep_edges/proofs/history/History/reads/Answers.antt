use Rattle.std.proofs.Common.{◌≡◌, All, map, subst}
use Rattle.key_versions.specs.Histories.{read_by}
use Rattle.dep_edges.specs.Histories.{History}
use Rattle.dep_edges.specs.Tables.{IsNumber, AreNamedOnce, version_at, txn_at}
use Rattle.dep_edges.proofs.Places.{named_once, versions_told, numbers_within}
use Rattle.dep_edges.proofs.history.History.reads.Goals as goal

pub returns-clause-value : goal.returns-clause-value
returns-clause-value c =
    let h = c.self.inside in
    let table = h.versions.now in
    subst (λ (h : History). map (version_at h.table) c.reads.result.now ≡ read_by (txn_at h.txns c.args.place)) c.self.view_is
    (versions_told read_by h.txns.now table table.reads c.args.place c.reads.result.now c.self.invariant.versions.reads c.reads.ensures)

pub returns-clause-within : goal.returns-clause-within
returns-clause-within c =
    let h = c.self.inside in
    let table = h.versions.now in
    subst (λ (h : History). All (IsNumber h.table) c.reads.result.now) c.self.view_is
    (numbers_within read_by h.txns.now table table.reads c.args.place c.reads.result.now c.self.invariant.versions.reads c.reads.ensures)

pub returns-clause-apart : goal.returns-clause-apart
returns-clause-apart c =
    let h = c.self.inside in
    subst (λ (h : History). AreNamedOnce h.table) c.self.view_is (named_once h.versions.now.keys h.txns.now h.versions.now c.self.invariant.versions)
