use Rattle.std.proofs.Common.{◌++◌, ◌∷◌, [], length, sym, subst}
use Rattle.key_versions.specs.Kept.{KeptVersions, AreKept, KeepNumbers, StayBeside}
use Rattle.key_versions.specs.Numbering.{versions_of}
use Rattle.key_versions.specs.TxnAccesses.{accesses_of}
use Rattle.key_versions.proofs.Keeping.{beside_push, kept_by, kept_more, stays}
use Rattle.key_versions.proofs.kept.KeptVersions.begin.Goals as goal

pub take-requires-clause-distinct : goal.take-requires-clause-distinct
take-requires-clause-distinct g c =
    let (ts, is) = c.requires in
    let old : AreKept ts (kept_by c.self.inside.keys (versions_of c.self.inside.numbering) c.self.inside.accesses) = subst (AreKept ts) (sym c.self.view_is) is in
    old.distinct

pub returns-clause-kept : goal.returns-clause-kept
returns-clause-kept g c = λ ts is.
    let keys = c.self.inside.keys in
    let vs = versions_of c.self.inside.numbering in
    let us = versions_of c.take.new.self in
    let accesses = c.self.inside.accesses in
    let a = c.take.new.accessed in
    let old : AreKept ts (kept_by keys vs accesses) = subst (AreKept ts) (sym c.self.view_is) is in
    rw c.in_ok-push.ensures
    (kept_more keys vs us c.args.txn.now c.in_ok-take.ensures.versions ts accesses a.reads.items a.writes.items a.seen.items old c.in_ok-take.ensures.accesses c.in_ok-take.ensures.seen)

pub returns-clause-others : goal.returns-clause-others
returns-clause-others g c =
    let accesses = c.self.inside.accesses in
    let a = accesses_of c.take.new.accessed in
    rw c.in_ok-push.ensures
    (subst (λ (k : KeptVersions). StayBeside (length k.accesses) k.accesses (accesses ++ a ∷ [])) c.self.view_is (beside_push accesses a))

pub returns-clause-numbers : goal.returns-clause-numbers
returns-clause-numbers g c =
    let vs = versions_of c.self.inside.numbering in
    let us = versions_of c.take.new.self in
    subst (λ (k : KeptVersions). KeepNumbers k.versions us) c.self.view_is (stays c.self.inside.keys vs us c.args.txn.now c.in_ok-take.ensures.versions)
