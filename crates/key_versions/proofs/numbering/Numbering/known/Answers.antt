use Rattle.std.proofs.Common.{◌<◌, ◌∙◌, None, Some, length, sym, subst}
use Rattle.hist_types.specs.Atoms.{atom_eq}
use Rattle.key_versions.specs.Named.{version_named}
use Rattle.key_versions.specs.Numbering.{Numbers, versions_of, IsAccess}
use Rattle.key_versions.proofs.Numbered.{numbers, access_by}
use Rattle.key_versions.proofs.Places.{number_within}
use Rattle.key_versions.proofs.Spelled.{known_nil, known_value, named_numbers}
use Rattle.key_versions.proofs.numbering.Numbering.known.Goals as goal

pub index-requires : goal.index-requires
index-requires g c =
    let below : c.in_ok-key.key < length c.self.inside.keys.items = number_within atom_eq c.key.result c.self.inside.keys.items c.in_ok-key.key (sym c.get.ensures ∙ c.in_ok-key.was) in
    subst (λ n. c.in_ok-key.key < n) (sym (c.self.inside.nils.ok.0 ∙ c.self.invariant.nil_of_each)) below

pub returns-in-None : goal.returns-in-None
returns-in-None g c =
    let s = numbers c.self.inside.keys.items c.self.inside.values.items c.self.inside.pairs.items c.self.inside.nils.items in
    let nil = c.in_ok-nil.nil in
    let nil_at = known_nil s c.key.result c.in_ok-key.key nil c.index.result.now c.self.invariant (sym c.get.ensures ∙ c.in_ok-key.was) c.index.ensures c.in_ok-nil.was in
    subst (λ (n : Numbers). IsAccess (versions_of n) (version_named c.args.mop.now) (access_by nil nil)) c.self.view_is
    (named_numbers (versions_of s) c.args.mop.now c.key.result None nil nil c.key.ensures (sym c.in-None.is ∙ c.value.ensures) nil_at nil_at)

pub returns-in_ok-version-in-Some : goal.returns-in_ok-version-in-Some
returns-in_ok-version-in-Some g c =
    let s = numbers c.self.inside.keys.items c.self.inside.values.items c.self.inside.pairs.items c.self.inside.nils.items in
    let nil = c.in_ok-nil.nil in
    let version = c.in_ok-version-in-Some.version in
    let numbered = sym c.get.ensures ∙ c.in_ok-key.was in
    let nil_at = known_nil s c.key.result c.in_ok-key.key nil c.index.result.now c.self.invariant numbered c.index.ensures c.in_ok-nil.was in
    let at = known_value s c.key.result c.in-Some.value c.in_ok-key.key c.in_ok-get-in-Some.field-0 version c.self.invariant numbered
    (sym c.get-in-Some.ensures ∙ c.in_ok-get-in-Some.was) (sym c.get-in-Some-2.ensures ∙ c.in_ok-version-in-Some.was) in
    subst (λ (n : Numbers). IsAccess (versions_of n) (version_named c.args.mop.now) (access_by nil version)) c.self.view_is
    (named_numbers (versions_of s) c.args.mop.now c.key.result (Some c.in-Some.value) nil version c.key.ensures (sym c.in-Some.is ∙ c.value.ensures) nil_at at)
