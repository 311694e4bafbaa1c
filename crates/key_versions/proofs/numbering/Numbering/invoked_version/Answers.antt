use Rattle.std.proofs.Common.{◌≡◌, ◌∙◌, None, Some, ap}
use Rattle.std.specs.Prelude.{slice_get}
use Rattle.hist_types.specs.Atoms.{Atom}
use Rattle.hist_types.specs.Transactions.{version_eq}
use Rattle.hist_types.specs.Versions.{nil_of}
use Rattle.key_versions.specs.Named.{version_named}
use Rattle.atom_index.specs.Numbers.{with_item}
use Rattle.key_versions.specs.Numbering.{versions_of, version_with}
use Rattle.key_versions.proofs.Numbered.{access_there}
use Rattle.key_versions.proofs.numbering.Numbering.invoked_version.Goals as goal

pub returns : goal.returns
returns g c =
    let s = c.args.self.now in
    let v = version_named c.args.write.now in
    let is = c.in-Some-key_of_version.ensures in
    let grown : versions_of c.nil.new.self ≡ with_item version_eq (versions_of s) (nil_of v.key) =
    c.in_ok-nil.ensures.versions ∙ ap (λ (k : Atom). with_item version_eq (versions_of s) (version_with k None)) is.1 in
    let nil : slice_get (versions_of c.nil.new.self) c.in_ok-nil.nil ≡ Some (nil_of v.key) = c.in_ok-nil.ensures.number ∙ ap (λ (k : Atom). Some (version_with k None)) is.1 in
    access_there (versions_of s) (versions_of c.nil.new.self) v c.in_ok-nil.nil c.in-Some.access.now.version c.requires.distinct is.2 grown nil
