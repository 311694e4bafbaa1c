use Rattle.std.proofs.Common.{◌≡◌, ◌∙◌, ◌++◌, ◌∷◌, [], List, None, map, true, false, refl, sym, ap, subst}
use Rattle.std.specs.Prelude.{◌||◌}
use Rattle.std.proofs.lemmas.Bool.{or_right, true≢false}
use Rattle.std.proofs.lemmas.List.{append_assoc}
use Rattle.hist_types.specs.Operations.{Mop}
use Rattle.hist_types.specs.Transactions.{Version, version_eq}
use Rattle.hist_types.specs.Versions.{nil_of, version_in}
use Rattle.atom_index.specs.Numbers.{AreNumbered, with_item}
use Rattle.edn_ops.specs.Shapes.{is_write}
use Rattle.op_view.specs.Mops.{key_of, value_of}
use Rattle.key_versions.specs.Histories.{named_in}
use Rattle.key_versions.specs.Numbering.{versions_of, version_with}
use Rattle.key_versions.proofs.Numbered.{key_is}
use Rattle.key_versions.proofs.Accessing.{accessed_by, taken_added, taken_unknown, accessed_stay, seen_added, seen_unknown, versions_numbered}
use Rattle.key_versions.proofs.Seen.{keys_added}
use Rattle.key_versions.proofs.WriteNumbers.{number_of_next}
use Rattle.key_versions.proofs.numbering.Numbering.take.Goals.{then-is_ok, else-is_ok, then-is_ok-2, else-is_ok-2}
use Rattle.key_versions.proofs.numbering.Numbering.take.Goals as goal

pub access-requires-clause-distinct : goal.access-requires-clause-distinct
access-requires-clause-distinct g c =
    subst (AreNumbered version_eq) (sym c.loop-mop.invariant.1.versions) (versions_numbered (versions_of c.args.self.now) c.requires.distinct (named_in c.eq-is_ok.result c.loop-mop.yielded))

pub access-requires-clause-number : goal.access-requires-clause-number
access-requires-clause-number g c = λ writes.
    let ms = c.loop-mop.yielded in
    let m = c.in-Some.mop in
    let mops = c.args.txn.now.mops in
    let whole : mops ≡ ms ++ m ∷ c.next.new.self = sym c.loop-mop.invariant.0 ∙ ap (λ (xs : List Mop). ms ++ xs) c.in-Some.ensures.steps in
    number_of_next c.args.numbers (versions_of c.args.self.now) c.eq-is_ok.result ms c.next.new.self mops m (versions_of c.loop-mop.self)
    c.loop-mop.accessed.writes.items c.loop-mop.accessed.reads.items c.len.result c.requires.numbers whole c.loop-mop.invariant.1 (c.len.ensures ∙ c.loop-mop.accessed.writes.ok.0) writes

pub loop-mop-preserved-in-Continue-branch-2 : goal.loop-mop-preserved-in-Continue-branch-2
loop-mop-preserved-in-Continue-branch-2 g c =
    let base = versions_of c.args.self.now in
    let numbered : AreNumbered version_eq base = c.requires.distinct in
    let ms = c.loop-mop.yielded in
    let m = c.in-Some.mop in
    let vs = versions_of c.loop-mop.self in
    let us = versions_of c.access.new.self in
    let ws = c.loop-mop.accessed.writes.items in
    let rs = c.loop-mop.accessed.reads.items in
    let ss = c.loop-mop.accessed.seen.items in
    let ok = c.eq-is_ok.result in
    let a = c.in_ok-access.access in
    let left : (ms ++ m ∷ []) ++ c.next.new.self ≡ c.args.txn.now.mops = append_assoc ms (m ∷ []) c.next.new.self ∙ ap (λ (xs : List Mop). ms ++ xs) (sym c.in-Some.ensures.steps) ∙ c.loop-mop.invariant.0 in
    let known : (ok || is_write m) ≡ true = elim c.if-is_ok-2.branch [
      | then-is_ok-2 w ↦ ap (λ b. b || is_write m) w.if-is_ok-2.true
      | else-is_ok-2 w ↦ or_right ok (is_write m) (sym c.is_write-is_write.ensures ∙ sym w.is_known-is ∙ c.if-is_known.true)
    ] in
    let made = accessed_by vs us m a (key_of m) (value_of m) refl refl c.in_ok-access.ensures.0 c.in_ok-access.ensures.1 in
    let writes = c.is_write-is_write.ensures in (
      left,
      rw (c.in_ok-add.ensures.reads, c.in_ok-add.ensures.writes, writes) (taken_added base numbered ok ms vs us ws rs m a c.loop-mop.invariant.1 made.0 made.1 known),
      rw c.in_ok-add.ensures.seen (seen_added c.if-is_ok.keeps_seen ms vs us ss m a (accessed_stay vs us m made.0) c.loop-mop.invariant.2 made.1),
      λ keeps.
          rw (c.in_ok-add.ensures.seen, c.in_ok-add.ensures.reads, c.in_ok-add.ensures.writes, keeps) (keys_added c.is_write-is_write.result a ss rs ws (c.loop-mop.invariant.3 keeps)),
    )

pub loop-mop-preserved : goal.loop-mop-preserved
loop-mop-preserved g c =
    let base = versions_of c.args.self.now in
    let numbered : AreNumbered version_eq base = c.requires.distinct in
    let ms = c.loop-mop.yielded in
    let m = c.in-Some.mop in
    let vs = versions_of c.loop-mop.self in
    let ws = c.loop-mop.accessed.writes.items in
    let rs = c.loop-mop.accessed.reads.items in
    let ok = c.eq-is_ok.result in
    let left : (ms ++ m ∷ []) ++ c.next.new.self ≡ c.args.txn.now.mops = append_assoc ms (m ∷ []) c.next.new.self ∙ ap (λ (xs : List Mop). ms ++ xs) (sym c.in-Some.ensures.steps) ∙ c.loop-mop.invariant.0 in
    let parts : (ok ≡ false) × (is_write m ≡ false) = elim c.if-is_ok-2.branch [
      | then-is_ok-2 w ↦ absurd (true≢false (sym w.if-is_ok-2.true ∙ sym w.is_known-is ∙ c.if-is_known.false))
      | else-is_ok-2 w ↦ (w.if-is_ok-2.false, sym c.is_write-is_write.ensures ∙ sym w.is_known-is ∙ c.if-is_known.false)
    ] in
    let forgotten : c.if-is_ok.keeps_seen ≡ false = elim c.if-is_ok.branch [
      | then-is_ok w ↦ absurd (true≢false (sym w.if-is_ok.true ∙ parts.0))
      | else-is_ok w ↦ w.keeps_seen-is ∙ w.if-is_ok.false
    ] in
    let key = c.key-else-is_known.new.self in
    let us = versions_of c.nil.new.self in
    let found = key_is key c.key.result c.in_ok-key.key c.in_ok-key.ensures.number ∙ c.key.ensures in
    let grown : us ≡ with_item version_eq vs (nil_of (key_of m)) =
    c.in_ok-nil.ensures.versions ∙ ap (λ k. with_item version_eq (versions_of key) (version_with k None)) found
    ∙ ap (λ (xs : List Version). with_item version_eq xs (nil_of (key_of m))) c.in_ok-key.ensures.versions in (
      left,
      taken_unknown base numbered ok ms vs us ws rs m c.loop-mop.invariant.1 grown parts.1 parts.0,
      seen_unknown c.if-is_ok.keeps_seen vs us (map version_in ms) (map version_in (ms ++ m ∷ [])) c.loop-mop.accessed.seen.items forgotten c.loop-mop.invariant.2,
      λ keeps. absurd (true≢false (sym keeps ∙ forgotten)),
    )
