use Rattle.std.proofs.Common.{◌≡◌, All, map, subst}
use Rattle.key_versions.specs.Histories.{followers_of}
use Rattle.dep_edges.specs.Histories.{History}
use Rattle.dep_edges.specs.Tables.{IsBehind, later_in, version_at}
use Rattle.cycle_find.proofs.Mutual.{places_listed, places_within}
use Rattle.cycle_find.proofs.two_dependencies.TwoDependencies.followers.Goals as goal

pub returns-then-kinds-2-clause-within : goal.returns-then-kinds-2-clause-within
returns-then-kinds-2-clause-within c =
    let h = c.args.self.now.deps.now in
    let fs = c.followers.result.now in
    places_within h (version_at h.table c.args.version) fs
    (subst (λ (h : History). All (IsBehind h.txns h.table (version_at h.table c.args.version)) fs) c.history.ensures.history c.followers.ensures.within)

pub returns-then-kinds-2-clause-all : goal.returns-then-kinds-2-clause-all
returns-then-kinds-2-clause-all c = λ place wanted follows.
    let h = c.args.self.now.deps.now in
    let fs = c.followers.result.now in
    places_listed h c.args.version fs
    (subst (λ (h : History). map (later_in h.table) fs ≡ followers_of h.table.keys h.txns (version_at h.table c.args.version)) c.history.ensures.history c.followers.ensures.value)
    place follows
