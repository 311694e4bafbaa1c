use Rattle.std.proofs.Common.{◌≡◌, ◌∙◌, ◌<◌, ℕ, List, Option, Some, None, IfSome, length, sym, ap, subst}
use Rattle.key_versions.specs.declared.last_seen.Seen.{Seen}
use Rattle.key_versions.specs.LastSeen.{Linked, linked_by, index_from, place_of, index_of, AreLinked}
use Rattle.key_versions.proofs.LastSeen.{place_read, index_found}
use Rattle.key_versions.proofs.last_seen.LastSeen.find.Goals as goal

within :
    (seen : List Seen) (newest : List ℕ) (process nil : ℕ) (index : Option ℕ) → AreLinked seen newest → index ≡ index_of (linked_by seen newest) process nil
    → IfSome index (λ i. i < length seen)
within seen newest process nil None are is = tt
within seen newest process nil (Some i) are is = (index_found seen newest process nil i are (sym is)).0

pub returns-clause-within : goal.returns-clause-within
returns-clause-within c =
    let seen = c.self.inside.seen.items in
    let newest = c.self.inside.newest.items in
    let process = c.args.process in
    let nil = c.args.nil in
    let next = c.index.result.now in
    let index = c.find_from.result in
    let count : c.len.result ≡ length newest = c.len.ensures ∙ c.self.inside.newest.ok.0 in
    let first : next ≡ place_of (linked_by seen newest) process nil =
    place_read seen newest process nil c.hash_below-hash.result c.len.result next c.self.invariant count c.hash_below-hash.ensures.value c.index.ensures in
    let is : index ≡ index_of (linked_by seen newest) process nil =
    c.find_from.ensures
    ∙ ap (λ (l : Linked). index_from next next process nil l.seen) (sym c.self.view_is)
    ∙ ap (λ n. index_from n n process nil seen) first in
    subst (λ (l : Linked). IfSome index (λ i. i < length l.seen)) c.self.view_is (within seen newest process nil index c.self.invariant is)
