use Rattle.std.proofs.Common.{rules, ◌≡◌, ◌∙◌, set, sym, subst}
use Rattle.hist_types.specs.Transactions.{is_ok}
use Rattle.key_versions.specs.Kept.{KeptVersions, AreKept, KeepNumbers, StayBeside}
use Rattle.key_versions.specs.Numbering.{versions_of}
use Rattle.key_versions.specs.TxnAccesses.{accesses_of}
use Rattle.key_versions.proofs.Keeping.{accesses_within, beside_set, kept_by, kept_completed, kept_not_ok, stays}
use Rattle.key_versions.proofs.kept.KeptVersions.complete.Goals as goal

pub writes-requires : goal.writes-requires
writes-requires g c =
    let (ts, is, below) = c.requires in
    accesses_within ts (kept_by c.self.inside.keys (versions_of c.self.inside.numbering) c.self.inside.accesses) c.args.self.now c.args.place c.self.view_is is below

pub set-requires : goal.set-requires
set-requires g c =
    let (ts, is, below) = c.requires in
    accesses_within ts (kept_by c.self.inside.keys (versions_of c.self.inside.numbering) c.self.inside.accesses) c.args.self.now c.args.place c.self.view_is is below

pub returns-in_ok-set-clause-kept : goal.returns-in_ok-set-clause-kept
returns-in_ok-set-clause-kept g c = λ ts t is at done.
    let keys = c.self.inside.keys in
    let vs = versions_of c.self.inside.numbering in
    let us = versions_of c.take.new.self in
    let accesses = c.self.inside.accesses in
    let a = c.take.new.accessed in
    let old : AreKept ts (kept_by keys vs accesses) = subst (AreKept ts) (sym c.self.view_is) is in
    rw c.in_ok-set.ensures
    (kept_completed keys vs us c.args.txn.now c.in_ok-take.ensures.versions ts c.args.place t accesses a.reads.items a.writes.items a.seen.items old at done c.in_ok-take.ensures.accesses c.in_ok-take.ensures.seen)

pub returns-else-eq-clause-kept : goal.returns-else-eq-clause-kept
returns-else-eq-clause-kept g c = λ ts t is at done.
    let keys = c.self.inside.keys in
    let vs = versions_of c.self.inside.numbering in
    let accesses = c.self.inside.accesses in
    let ok : c.eq.result ≡ is_ok c.args.txn.now = search rules in
    let old : AreKept ts (kept_by keys vs accesses) = subst (AreKept ts) (sym c.self.view_is) is in
    subst (AreKept (set ts c.args.place c.args.txn.now)) c.self.view_is
    (kept_not_ok keys vs t c.args.txn.now done (sym ok ∙ c.if-eq.false) ts c.args.place accesses old at)

pub returns-in_ok-set-clause-others : goal.returns-in_ok-set-clause-others
returns-in_ok-set-clause-others g c =
    let accesses = c.self.inside.accesses in
    let a = accesses_of c.take.new.accessed in
    rw c.in_ok-set.ensures
    (subst (λ (k : KeptVersions). StayBeside c.args.place k.accesses (set accesses c.args.place a)) c.self.view_is (beside_set accesses c.args.place a))

pub returns-in_ok-set-clause-numbers : goal.returns-in_ok-set-clause-numbers
returns-in_ok-set-clause-numbers g c =
    let vs = versions_of c.self.inside.numbering in
    let us = versions_of c.take.new.self in
    subst (λ (k : KeptVersions). KeepNumbers k.versions us) c.self.view_is (stays c.self.inside.keys vs us c.args.txn.now c.in_ok-take.ensures.versions)
