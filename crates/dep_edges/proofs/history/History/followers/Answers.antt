use Rattle.std.proofs.Common.{◌≡◌, All, map, subst}
use Rattle.key_versions.specs.Histories.{followers_of}
use Rattle.dep_edges.specs.Histories.{History}
use Rattle.dep_edges.specs.Tables.{IsBehind, version_at, later_in}
use Rattle.dep_edges.proofs.Places.{followers_told, followers_behind}
use Rattle.dep_edges.proofs.history.History.followers.Goals as goal

pub returns-clause-value : goal.returns-clause-value
returns-clause-value c =
    subst (λ (h : History). map (later_in h.table) c.followers.result.now ≡ followers_of h.table.keys h.txns (version_at h.table c.args.number)) c.self.view_is
    (followers_told c.self.inside.versions.now.keys c.self.inside.txns.now c.self.inside.versions.now c.args.number c.followers.result.now c.self.invariant.versions c.followers.ensures)

pub returns-clause-within : goal.returns-clause-within
returns-clause-within c =
    subst (λ (h : History). All (IsBehind h.txns h.table (version_at h.table c.args.number)) c.followers.result.now) c.self.view_is
    (followers_behind c.self.inside.versions.now.keys c.self.inside.txns.now c.self.inside.versions.now c.args.number c.followers.result.now c.self.invariant.versions c.followers.ensures)
