use Rattle.std.proofs.Common.{◌≡◌, ◌∙◌, ◌+◌, ◌<◌, ℕ, List, Option, None, Some, length, get_or, sym, ap, subst}
use Rattle.std.specs.Prelude.{slice_get}
use Rattle.std.proofs.lemmas.List.{length-map}
use Rattle.std.proofs.lemmas.Option.{slice_get-get_or}
use Rattle.hist_types.specs.Atoms.{Atom}
use Rattle.hist_types.specs.Transactions.{version_eq}
use Rattle.hist_types.specs.Versions.{nil_of}
use Rattle.atom_index.specs.Numbers.{with_item}
use Rattle.key_versions.specs.Numbering.{Numbers, versions_of, version_by, version_with, key_at}
use Rattle.key_versions.proofs.Numbered.{access_there}
use Rattle.key_versions.proofs.WriteNumbers.{key_of_number}
use Rattle.key_versions.proofs.numbering.Numbering.with_number.Goals as goal

pub returns : goal.returns
returns g c = λ v is.
    let s = c.args.self.now in
    let us = versions_of c.nil.new.self in
    let number = c.args.first + c.args.place in
    let pairs = c.as_slice-pairs.result.now in
    let p = get_or pairs number (0, None) in
    let same : pairs ≡ s.pairs = c.as_slice-pairs.ensures ∙ ap (λ (n : Numbers). n.pairs) c.self.view_is in
    let within : number < length pairs = subst (λ n. number < n) (length-map s.pairs (version_by s.keys s.values) ∙ ap length (sym same)) c.requires.within in
    let at : slice_get s.pairs number ≡ Some p = ap (λ (ps : List (ℕ × Option ℕ)). slice_get ps number) (sym same) ∙ slice_get-get_or pairs number (0, None) within in
    let key : key_at s.keys p.0 ≡ v.key = key_of_number s number p v at is in
    let grown : us ≡ with_item version_eq (versions_of s) (nil_of v.key) = c.in_ok-nil.ensures.versions ∙ ap (λ (k : Atom). with_item version_eq (versions_of s) (version_with k None)) key in
    let nil : slice_get us c.in_ok-nil.nil ≡ Some (nil_of v.key) = c.in_ok-nil.ensures.number ∙ ap (λ (k : Atom). Some (version_with k None)) key in
    let there : slice_get (versions_of s) c.in_ok-number_of.field-0 ≡ Some v = ap (slice_get (versions_of s)) c.in_ok-number_of.ensures ∙ is in
    access_there (versions_of s) us v c.in_ok-nil.nil c.in_ok-number_of.field-0 c.requires.distinct there grown nil
