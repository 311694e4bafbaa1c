use Rattle.std.proofs.Common.{◌≡◌, ◌∙◌, ℕ, List, Option, Some, true, length, refl, sym, ap, subst}
use Rattle.std.specs.Prelude.{slice_get}
use Rattle.std.proofs.lemmas.Option.{slice_get_read}
use Rattle.hist_types.specs.Transactions.{version_eq}
use Rattle.key_versions.specs.Named.{version_named}
use Rattle.key_versions.specs.Numbering.{Numbers, version_by, IsVersionOfKey}
use Rattle.key_versions.proofs.Numbered.{numbers}
use Rattle.key_versions.proofs.Spelled.{version_written}
use Rattle.key_versions.proofs.numbering.Numbering.key_of_version.Goals as goal

pub returns-then-is_of : goal.returns-then-is_of
returns-then-is_of g c =
    let s = numbers c.self.inside.keys.items c.self.inside.values.items c.self.inside.pairs.items c.self.inside.nils.items in
    let number = c.args.number in
    let pairs = c.as_slice.result.now in
    let p = c.in_ok-key.field-0.now in
    let read = c.in_ok-key.ensures.lookup in
    let at : slice_get s.pairs number ≡ Some p = ap (λ (ps : List (ℕ × Option ℕ)). slice_get ps number) (sym c.as_slice.ensures) ∙ slice_get_read pairs (length pairs) number p refl read.3.0 read.1 in
    let same : version_eq (version_by s.keys s.values (p.0, Some c.in_ok-value.value)) (version_named c.args.write.now) ≡ true =
    subst (λ (n : Numbers). version_eq (version_by n.keys n.values (p.0, Some c.in_ok-value.value)) (version_named c.args.write.now) ≡ true) (sym c.self.view_is)
    (sym c.is_of.ensures ∙ c.if-is_of.true) in
    subst (λ (n : Numbers). IsVersionOfKey n number p.0 (version_named c.args.write.now)) c.self.view_is
    (version_written s number c.in_ok-value.value p (version_named c.args.write.now) c.self.invariant at c.in_ok-value.was same)
