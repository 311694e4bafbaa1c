use Rattle.std.proofs.Common.{◌∙◌, ◌++◌, ◌∷◌, [], List, length, map, ap}
use Rattle.key_versions.specs.TxnAccesses.{TxnAccesses, accesses_of}
use Rattle.key_versions.specs.Spans.{kept_at}
use Rattle.key_versions.proofs.Spans.{kept_wider, pushed_is}
use Rattle.key_versions.proofs.kept_accesses.KeptAccesses.push.Goals as goal

pub invariant_of-self : goal.invariant_of-self
invariant_of-self c =
    kept_wider (length c.self.inside.accesses.items) (length c.append.new.accesses.items) c.self.inside.spans.items c.append.ensures.kept c.self.invariant

pub returns : goal.returns
returns c =
    let a = c.args.accessed.now in
    let xs = c.self.inside.accesses.items in
    let now = c.append.new.accesses.items in
    let spans = c.self.inside.spans.items in
    ap (map (kept_at now)) c.in_ok-push.ensures.items
    ∙ pushed_is xs now a.reads.items a.writes.items a.seen.items c.in_ok-span.span c.in_ok-span.ensures.ok spans c.self.invariant
    ∙ ap (λ (as1 : List TxnAccesses). as1 ++ accesses_of a ∷ []) c.self.view_is
