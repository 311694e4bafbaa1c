use Rattle.key_versions.specs.Rows.{Accessed}
use Rattle.key_versions.specs.Spans.{accessed_at}
use Rattle.key_versions.proofs.Spans.{told_at}
use Rattle.key_versions.proofs.accesses.Accesses.reads.Goals as goal

pub returns : goal.returns
returns c =
    told_at accessed_at (λ (a : Accessed). a.reads) c.self.inside.numbers.items c.deref.result.now c.self.inside.spans.items c.args.self.now c.args.place c.index-span.result.now
    c.self.view_is c.requires c.index-span.ensures c.deref.ensures.value
