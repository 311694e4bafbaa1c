use Rattle.std.proofs.Common.{◌∙◌, List, set, ap}
use Rattle.key_versions.specs.TxnAccesses.{TxnAccesses, accesses_of}
use Rattle.key_versions.proofs.Spans.{set_is}
use Rattle.key_versions.proofs.kept_accesses.KeptAccesses.set.Goals as goal

pub returns : goal.returns
returns c =
    let a = c.args.accessed.now in
    let xs = c.self.inside.accesses.items in
    let now = c.append.new.accesses.items in
    set_is xs now a.reads.items a.writes.items a.seen.items c.in_ok-self-inside.field-0 c.in_ok-self-inside.ensures.ok c.self.inside.spans.items c.self.invariant c.args.place
    ∙ ap (λ (as1 : List TxnAccesses). set as1 c.args.place (accesses_of a)) c.self.view_is
