use Rattle.std.proofs.Common.{◌≡◌, ◌<◌, List, ℕ, Option, None, Some, length, sym, subst}
use Rattle.std.specs.Prelude.{slice_get}
use Rattle.hist_types.specs.Transactions.{version_eq}
use Rattle.atom_index.specs.Numbers.{with_item}
use Rattle.key_versions.specs.Nils.{AreNilsIn}
use Rattle.key_versions.specs.Numbering.{Numbers, IsNumbering, versions_in, versions_of, key_at, version_with}
use Rattle.key_versions.proofs.Numbered.{numbers, new_nil, one_version}
use Rattle.key_versions.proofs.numbering.Numbering.nil.Goals as goal

pub invariant_of-self-2 : goal.invariant_of-self-2
invariant_of-self-2 g c =
    let s = numbers c.self.inside.keys.items c.self.inside.values.items c.self.inside.pairs.items c.self.inside.nils.items in
    let below : c.args.key < length s.keys = subst (λ (n : Numbers). c.args.key < length n.keys) (sym c.self.view_is) c.requires in
    let later = c.nil_number.new.nils.items in
    let paired = c.in_ok-nil.ensures.pairs in
    subst (λ (ps : List (ℕ × Option ℕ)). IsNumbering s.keys s.values ps later) (sym paired)
    (one_version s.keys s.values s.pairs s.nils later (c.args.key, None) c.self.invariant (below, tt) (subst (λ (ps : List (ℕ × Option ℕ)). AreNilsIn ps later) paired c.in_ok-nil.ensures.nils) c.in_ok-nil.ensures.len)

pub returns-clause-versions : goal.returns-clause-versions
returns-clause-versions g c =
    let s = numbers c.self.inside.keys.items c.self.inside.values.items c.self.inside.pairs.items c.self.inside.nils.items in
    let below : c.args.key < length s.keys = subst (λ (n : Numbers). c.args.key < length n.keys) (sym c.self.view_is) c.requires in
    subst (λ (n : Numbers). versions_in s.keys s.values c.nil_number.new.pairs.items ≡ with_item version_eq (versions_of n) (version_with (key_at n.keys c.args.key) None)) c.self.view_is
    (new_nil s c.args.key c.in_ok-nil.nil c.nil_number.new.pairs.items c.self.invariant below c.in_ok-nil.ensures.pairs c.in_ok-nil.ensures.number).0

pub returns-clause-number : goal.returns-clause-number
returns-clause-number g c =
    let s = numbers c.self.inside.keys.items c.self.inside.values.items c.self.inside.pairs.items c.self.inside.nils.items in
    let below : c.args.key < length s.keys = subst (λ (n : Numbers). c.args.key < length n.keys) (sym c.self.view_is) c.requires in
    subst (λ (n : Numbers). slice_get (versions_in s.keys s.values c.nil_number.new.pairs.items) c.in_ok-nil.nil ≡ Some (version_with (key_at n.keys c.args.key) None)) c.self.view_is
    (new_nil s c.args.key c.in_ok-nil.nil c.nil_number.new.pairs.items c.self.invariant below c.in_ok-nil.ensures.pairs c.in_ok-nil.ensures.number).1
