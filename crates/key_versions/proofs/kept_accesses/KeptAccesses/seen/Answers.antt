use Rattle.key_versions.specs.TxnAccesses.{TxnAccesses}
use Rattle.key_versions.specs.Spans.{kept_at}
use Rattle.key_versions.proofs.Spans.{told_at}
use Rattle.key_versions.proofs.kept_accesses.KeptAccesses.seen.Goals as goal

pub returns : goal.returns
returns c =
    rw (c.seen_start.ensures, c.end.ensures)
    (told_at kept_at (λ (a : TxnAccesses). a.seen) c.self.inside.accesses.items c.deref.result.now c.self.inside.spans.items c.args.self.now c.args.place c.index-span.result.now
    c.self.view_is c.requires c.index-span.ensures c.deref.ensures.value)
