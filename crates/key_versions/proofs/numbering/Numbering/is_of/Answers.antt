use Rattle.std.proofs.Common.{◌≡◌, ◌∙◌, true, Some, sym, ap, subst}
use Rattle.std.specs.Prelude.{pos}
use Rattle.std.proofs.lemmas.Option.{get_or_from_slice_get}
use Rattle.std.proofs.lemmas.Slice.Eq.{bytes_eq-Decides}
use Rattle.hist_types.specs.Atoms.{Atom, integer}
use Rattle.hist_types.specs.Transactions.{version_eq}
use Rattle.key_versions.specs.Named.{version_named}
use Rattle.key_versions.specs.Numbering.{Numbers, version_by, version_with, key_at}
use Rattle.key_versions.proofs.Spelled.{same_texts}
use Rattle.key_versions.proofs.numbering.Numbering.is_of.Goals as goal

pub returns-then-eq-2 : goal.returns-then-eq-2
returns-then-eq-2 g c =
    let m = c.args.write.now in
    let none = integer (pos 0) in
    let keys = c.self.inside.keys.items in
    let values = c.self.inside.values.items in
    let value_at = get_or_from_slice_get values c.args.value c.atom.result none c.atom.ensures.item in
    let key_at' = get_or_from_slice_get keys c.args.key c.atom-then-eq.result none c.atom-then-eq.ensures.item in
    let same = same_texts c.text-text.result m c.text-then-eq.result.now c.text.result.now c.atom-then-eq.result c.atom.result c.text-text.ensures c.requires.is_write
    c.text-then-eq.ensures c.text.ensures
    ((bytes_eq-Decides c.text-then-eq.result.now c.text-text.result.key.now).0 (sym c.eq-then-eq.ensures ∙ c.if-eq-2.true))
    ((bytes_eq-Decides c.text.result.now c.text-text.result.value.now).0 (sym c.eq.ensures ∙ c.if-eq.true)) in
    subst (λ (n : Numbers). true ≡ version_eq (version_by n.keys n.values (c.args.key, Some c.args.value)) (version_named m)) c.self.view_is
    (same
    ∙ ap (λ (a : Atom). version_eq (version_with a (Some c.atom.result)) (version_named m)) (sym key_at')
    ∙ ap (λ (a : Atom). version_eq (version_with (key_at keys c.args.key) (Some a)) (version_named m)) (sym value_at))
