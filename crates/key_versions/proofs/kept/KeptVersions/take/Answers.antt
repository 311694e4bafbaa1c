use Rattle.std.proofs.Common.{◌∙◌, map, sym, subst}
use Rattle.std.proofs.lemmas.List.{length-map}
use Rattle.hist_types.specs.Journal.{writes_of}
use Rattle.hist_types.specs.Transactions.{version_of}
use Rattle.key_versions.specs.Given.{AreKeptBeside, HaveNumbers}
use Rattle.key_versions.specs.Kept.{KeptVersions, KeepNumbers}
use Rattle.key_versions.specs.Numbering.{versions_of}
use Rattle.key_versions.proofs.Keeping.{kept_by, beside_more, stays}
use Rattle.key_versions.proofs.WriteNumbers.{accesses_count}
use Rattle.key_versions.proofs.kept.KeptVersions.take.Goals as goal

pub take-requires-clause-distinct : goal.take-requires-clause-distinct
take-requires-clause-distinct g c =
    let (given, ts, is) = c.requires.kept in
    let old : AreKeptBeside given ts (kept_by c.self.inside.keys (versions_of c.self.inside.numbering) c.self.inside.accesses) = subst (AreKeptBeside given ts) (sym c.self.view_is) is in
    old.distinct

pub take-requires-clause-numbers : goal.take-requires-clause-numbers
take-requires-clause-numbers g c =
    subst (λ (k : KeptVersions). HaveNumbers c.args.numbers k.versions (writes_of c.args.txn.now.mops)) (sym c.self.view_is) c.requires.numbers

pub returns-clause-kept : goal.returns-clause-kept
returns-clause-kept g c = λ given ts is.
    let keys = c.self.inside.keys in
    let vs = versions_of c.self.inside.numbering in
    let us = versions_of c.take.new.self in
    let accesses = c.self.inside.accesses in
    let a = c.take.new.accessed in
    let old : AreKeptBeside given ts (kept_by keys vs accesses) = subst (AreKeptBeside given ts) (sym c.self.view_is) is in
    rw c.in_ok-push.ensures
    (beside_more keys vs us c.args.txn.now c.in_ok-take.ensures.versions given ts accesses a.reads.items a.writes.items a.seen.items old c.in_ok-take.ensures.accesses c.in_ok-take.ensures.seen)

pub returns-clause-writes : goal.returns-clause-writes
returns-clause-writes g c =
    let writes = writes_of c.args.txn.now.mops in
    c.len.ensures ∙ c.take.new.accessed.writes.ok.0
    ∙ accesses_count (versions_of c.take.new.self) (map version_of writes) c.take.new.accessed.writes.items c.in_ok-take.ensures.accesses.writes
    ∙ length-map writes version_of

pub returns-clause-numbers : goal.returns-clause-numbers
returns-clause-numbers g c =
    let vs = versions_of c.self.inside.numbering in
    let us = versions_of c.take.new.self in
    subst (λ (k : KeptVersions). KeepNumbers k.versions us) c.self.view_is (stays c.self.inside.keys vs us c.args.txn.now c.in_ok-take.ensures.versions)
