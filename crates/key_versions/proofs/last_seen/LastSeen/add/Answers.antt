use Rattle.std.proofs.Common.{◌∙◌, ◌+◌, sym, ap, subst}
use Rattle.key_versions.specs.LastSeen.{Linked, last_seen, seen_with, AreLinked}
use Rattle.key_versions.proofs.LastSeen.{added, added_linked, linked_now}
use Rattle.key_versions.proofs.last_seen.LastSeen.add.Goals as goal

pub invariant_of-self-2 : goal.invariant_of-self-2
invariant_of-self-2 c =
    subst (λ (l : Linked). AreLinked l.seen l.newest)
    (sym (linked_now c.args.process c.args.nil c.args.version c.self.invariant (c.len-2.ensures ∙ c.self.inside.newest.ok.0) c.hash_below-hash.ensures.value c.index.ensures
    (c.in_ok-place.ensures ∙ ap (λ n. n + 1) (c.len.ensures ∙ c.self.inside.seen.ok.0)) c.in_ok-push.ensures.items))
    (added_linked c.self.inside.seen.items c.self.inside.newest.items c.args.process c.args.nil c.args.version c.self.invariant
    (ap (λ (l : Linked). last_seen l c.args.process c.args.nil) c.self.view_is ∙ c.requires))

pub returns : goal.returns
returns c = λ one key.
    ap (λ (l : Linked). last_seen l one key)
    (linked_now c.args.process c.args.nil c.args.version c.self.invariant (c.len-2.ensures ∙ c.self.inside.newest.ok.0) c.hash_below-hash.ensures.value c.index.ensures
    (c.in_ok-place.ensures ∙ ap (λ n. n + 1) (c.len.ensures ∙ c.self.inside.seen.ok.0)) c.in_ok-push.ensures.items)
    ∙ added c.self.inside.seen.items c.self.inside.newest.items c.args.process c.args.nil c.args.version c.self.invariant one key
    ∙ ap (λ (l : Linked). seen_with c.args.process c.args.nil c.args.version one key (last_seen l one key)) c.self.view_is
