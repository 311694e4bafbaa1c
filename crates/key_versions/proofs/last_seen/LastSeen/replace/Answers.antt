use Rattle.std.proofs.Common.{◌≡◌, ◌∙◌, ◌<◌, Some, get_or, length, set, sym, ap, subst}
use Rattle.std.proofs.lemmas.List.{get_or_default}
use Rattle.key_versions.specs.declared.last_seen.Seen.{Seen}
use Rattle.key_versions.specs.LastSeen.{Linked, linked_by, nothing, index_of, last_seen, seen_with, AreLinked}
use Rattle.key_versions.proofs.LastSeen.{index_found, noted, replaced, replaced_linked}
use Rattle.key_versions.proofs.last_seen.LastSeen.replace.Goals.{After-index_mut-seen}
use Rattle.key_versions.proofs.last_seen.LastSeen.replace.Goals as goal

found : (c : After-index_mut-seen) → index_of (linked_by c.self.inside.seen.items c.self.inside.newest.items) c.args.process c.args.nil ≡ Some c.in-Some.index
found c = ap (λ (l : Linked). index_of l c.args.process c.args.nil) c.self.view_is ∙ sym c.find.ensures.index ∙ c.in-Some.is

within : (c : After-index_mut-seen) → c.in-Some.index < length c.self.inside.seen.items
within c = (index_found c.self.inside.seen.items c.self.inside.newest.items c.args.process c.args.nil c.in-Some.index c.self.invariant (found c)).0

read : (c : After-index_mut-seen) → c.index_mut-seen.result.now ≡ get_or c.self.inside.seen.items c.in-Some.index nothing
read c = c.index_mut-seen.ensures.value ∙ get_or_default c.self.inside.seen.items c.in-Some.index c.index_mut-seen.result.now nothing (within c)

pub invariant_of-self : goal.invariant_of-self
invariant_of-self c =
    let at = (goal.at.invariant_of-self c).After-index_mut-seen in
    let seen = c.self.inside.seen.items in
    subst (λ (s : Seen). AreLinked (set seen c.in-Some.index (noted s c.args.version)) c.self.inside.newest.items) (sym (read at))
    (replaced_linked seen c.self.inside.newest.items c.in-Some.index c.args.version (within at) c.self.invariant)

pub returns-in-Some-clause-last : goal.returns-in-Some-clause-last
returns-in-Some-clause-last c = λ one key.
    let at = (goal.at.returns-in-Some-clause-last c).After-index_mut-seen in
    let seen = c.self.inside.seen.items in
    let newest = c.self.inside.newest.items in
    ap (λ (s : Seen). last_seen (linked_by (set seen c.in-Some.index (noted s c.args.version)) newest) one key) (read at)
    ∙ replaced seen newest c.in-Some.index c.args.version (within at) c.self.invariant c.args.process c.args.nil one key (found at)
    ∙ ap (λ (l : Linked). seen_with c.args.process c.args.nil c.args.version one key (last_seen l one key)) c.self.view_is
