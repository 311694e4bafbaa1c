use Rattle.std.proofs.Common.{◌≡◌, ◌∙◌, List, Option, None, Some, sym, ap}
use Rattle.std.specs.Prelude.{slice_get}
use Rattle.hist_types.specs.Atoms.{Atom}
use Rattle.hist_types.specs.Transactions.{Version, version_eq}
use Rattle.hist_types.specs.Versions.{nil_of}
use Rattle.atom_index.specs.Numbers.{with_item}
use Rattle.key_versions.specs.Numbering.{versions_of, version_with, key_at}
use Rattle.key_versions.proofs.Numbered.{key_is, access_versions}
use Rattle.key_versions.proofs.Spelled.{nil_access}
use Rattle.key_versions.proofs.numbering.Numbering.insert.Given.{Over}
use Rattle.key_versions.proofs.numbering.Numbering.insert.Goals.{In_ok-nil}
use Rattle.key_versions.proofs.numbering.Numbering.insert.Goals as goal

found : (g : Over) (c : In_ok-nil g) → key_at c.key.new.self.keys c.in_ok-key.key ≡ c.args.key
found g c = key_is c.key.new.self c.args.key c.in_ok-key.key c.in_ok-key.ensures.number

keyed : (g : Over) (c : In_ok-nil g) → versions_of c.nil.new.self ≡ with_item version_eq (versions_of c.args.self.now) (nil_of c.args.key)
keyed g c =
    c.in_ok-nil.ensures.versions
    ∙ ap (λ (k : Atom). with_item version_eq (versions_of c.key.new.self) (version_with k None)) (found g c)
    ∙ ap (λ (vs : List Version). with_item version_eq vs (nil_of c.args.key)) c.in_ok-key.ensures.versions

nil : (g : Over) (c : In_ok-nil g) → slice_get (versions_of c.nil.new.self) c.in_ok-nil.nil ≡ Some (nil_of c.args.key)
nil g c = c.in_ok-nil.ensures.number ∙ ap (λ (k : Atom). Some (version_with k None)) (found g c)

pub returns-in-None : goal.returns-in-None
returns-in-None g c =
    let at = (goal.at.returns-in-None g c).In_ok-nil in
    let both = nil_access (versions_of c.args.self.now) (versions_of c.nil.new.self) c.args.key c.args.value c.in_ok-nil.nil c.in-None.is (keyed g at) (nil g at) in
    record { versions = both.0; access = both.1 }

pub returns-in_ok-version-in-Some : goal.returns-in_ok-version-in-Some
returns-in_ok-version-in-Some g c =
    let at = (goal.at.returns-in_ok-version-in-Some g c).In_ok-nil in
    let key = c.args.key in
    let s = c.nil.new.self in
    let m = c.version.new.self in
    let more = c.in_ok-version-in-Some in
    let there : key_at s.keys c.in_ok-key.key ≡ key = ap (λ (ks : List Atom). key_at ks c.in_ok-key.key) c.in_ok-nil.ensures.keys ∙ found g at in
    let grown : versions_of m ≡ with_item version_eq (versions_of s) (version_with key c.args.value) =
    more.ensures.versions
    ∙ ap (λ (k : Atom). with_item version_eq (versions_of s) (version_with k (Some c.in-Some.value))) there
    ∙ ap (λ (v : Option Atom). with_item version_eq (versions_of s) (version_with key v)) (sym c.in-Some.is) in
    let is : slice_get (versions_of m) more.version ≡ Some (version_with key c.args.value) =
    more.ensures.number ∙ ap (λ (k : Atom). Some (version_with k (Some c.in-Some.value))) there ∙ ap (λ (v : Option Atom). Some (version_with key v)) (sym c.in-Some.is) in
    let both = access_versions (versions_of c.args.self.now) (versions_of s) (versions_of m) key c.args.value c.in_ok-nil.nil more.version (keyed g at) (nil g at) grown is in
    record { versions = both.0; access = both.1 }
