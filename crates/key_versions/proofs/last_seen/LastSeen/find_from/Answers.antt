use Rattle.std.proofs.Common.{rules, ◌≡◌, ◌∙◌, ◌<◌, ◌-◌, List, false, length, get_or, min, arith, subst, sym, ap}
use Rattle.std.proofs.lemmas.List.{get_or_default}
use Rattle.key_versions.specs.declared.last_seen.Seen.{Seen}
use Rattle.key_versions.specs.LastSeen.{Linked, is_of, nothing, index_from}
use Rattle.key_versions.proofs.LastSeen.{next_from}
use Rattle.key_versions.proofs.last_seen.LastSeen.find_from.Goals.{else-seen-process-via-then-seen-process+else-seen-nil, else-seen-process-via-else-seen-process}
use Rattle.key_versions.proofs.last_seen.LastSeen.find_from.Goals as goal

pub loop-place-preserved : goal.loop-place-preserved
loop-place-preserved c =
    let place = c.loop-place.place in
    let seen = c.args.self.now.seen in
    let process = c.args.process in
    let nil = c.args.nil in
    let some : 0 < place = omega (arith, c.loop-place-test.true) in
    let same : c.self.inside.seen.items ≡ seen = ap (λ (l : Linked). l.seen) c.self.view_is in
    let within : place - 1 < length seen = omega (arith, some, c.loop-place.invariant.0) in
    let read = c.index-seen.result.now in
    let is : read ≡ get_or seen (place - 1) nothing = c.index-seen.ensures ∙ ap (λ (xs : List Seen). get_or xs (place - 1) read) same ∙ get_or_default seen (place - 1) read nothing within in
    let differs : is_of process nil read ≡ false =
    elim c.else-seen-process.branch [
      | else-seen-process-via-then-seen-process+else-seen-nil w ↦ search rules
      | else-seen-process-via-else-seen-process w ↦ search rules
    ] in
    let other : is_of process nil (get_or seen (place - 1) nothing) ≡ false = subst (λ (s : Seen). is_of process nil s ≡ false) is differs in
    let next : c.min-place.result ≡ min (get_or seen (place - 1) nothing).next (place - 1) = c.min-place.ensures ∙ ap (λ (s : Seen). min s.next (place - 1)) is in (
      search rules,
      subst (λ n. index_from n n process nil seen ≡ index_from c.args.first c.args.first process nil seen) (sym next)
          (next_from place process nil seen some other ∙ c.loop-place.invariant.1),
    )
