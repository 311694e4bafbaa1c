use Rattle.std.proofs.Common.{◌≡◌, ◌∙◌, ◌<◌, ◌+◌, List, length, get_or, arith, sym, ap, subst}
use Rattle.key_versions.specs.declared.last_seen.Seen.{Seen}
use Rattle.key_versions.specs.LastSeen.{Linked, linked_by, nothing, index_of, last_seen, seen_with}
use Rattle.key_versions.proofs.LastSeen.{version_among, among_next, among_all}
use Rattle.key_versions.proofs.last_seen.LastSeen.grown.Goals as goal

pub loop-seen-preserved : goal.loop-seen-preserved
loop-seen-preserved c = λ process nil.
    let seen = c.self.inside.seen.items in
    let newest = c.self.inside.newest.items in
    let i = c.loop-seen.seen-index in
    let s : Seen = get_or seen i nothing in
    let same : c.deref-seen-items.result.now ≡ seen = c.deref-seen-items.ensures.value in
    let low : i < length seen = subst (λ (xs : List Seen). i < length xs) same c.loop-seen-test.true in
    c.in_ok-add.ensures process nil
    ∙ ap
    (λ (xs : List Seen).
    seen_with (get_or xs i nothing).process (get_or xs i nothing).nil (get_or xs i nothing).version process nil (last_seen c.loop-seen.grown process nil))
    same
    ∙ ap (seen_with s.process s.nil s.version process nil)
    (c.loop-seen.invariant process nil ∙ ap (λ (l : Linked). version_among l.seen i (index_of l process nil)) (sym c.self.view_is))
    ∙ among_next seen newest c.self.invariant i process nil low
    ∙ ap (λ (l : Linked). version_among l.seen (i + 1) (index_of l process nil)) c.self.view_is

pub returns : goal.returns
returns c = λ process nil.
    let seen = c.self.inside.seen.items in
    let newest = c.self.inside.newest.items in
    let i = c.loop-seen.seen-index in
    let all : i ≡ length seen = omega (arith, c.loop-seen-test.false, c.loop-seen.auto.seen-index-end, ap (length {A = Seen}) c.deref-seen-items.ensures.value) in
    c.loop-seen.invariant process nil
    ∙ ap (λ (l : Linked). version_among l.seen i (index_of l process nil)) (sym c.self.view_is)
    ∙ ap (λ n. version_among seen n (index_of (linked_by seen newest) process nil)) all
    ∙ among_all seen newest c.self.invariant process nil
    ∙ ap (λ (l : Linked). last_seen l process nil) c.self.view_is
