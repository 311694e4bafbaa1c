use Rattle.std.proofs.Common.{◌≡◌, subst}
use Rattle.key_versions.specs.Histories.{readers_of}
use Rattle.dep_edges.specs.Histories.{History}
use Rattle.dep_edges.specs.Tables.{version_at}
use Rattle.dep_edges.proofs.Places.{readers_told, readers_within}
use Rattle.dep_edges.proofs.history.History.readers.Goals as goal

told : (c : goal.After-readers) → c.readers.result.now ≡ readers_of c.args.self.now.txns (version_at c.args.self.now.table c.args.number)
told c =
    subst (λ (h : History). c.readers.result.now ≡ readers_of h.txns (version_at h.table c.args.number)) c.self.view_is
    (readers_told c.self.inside.versions.now.keys c.self.inside.txns.now c.self.inside.versions.now c.args.number c.readers.result.now c.self.invariant.versions c.readers.ensures)

pub returns-clause-value : goal.returns-clause-value
returns-clause-value c = told c

pub returns-clause-within : goal.returns-clause-within
returns-clause-within c = readers_within c.args.self.now.txns (version_at c.args.self.now.table c.args.number) c.readers.result.now (told c)
