use Rattle.std.proofs.Common.{◌≡◌, ◌∙◌, ◌++◌, ap}
use Rattle.hist_types.specs.Atoms.{atom_eq}
use Rattle.atom_index.specs.Numbers.{AreNumbered}
use Rattle.key_versions.specs.Numbering.{AreInRange}
use Rattle.key_versions.proofs.numbering.Numbering.numbered.Goals as goal

pub returns-clause-in_range : goal.returns-clause-in_range
returns-clause-in_range g c =
    let in_range : AreInRange c.self.inside.keys.items c.self.inside.values.items c.self.inside.pairs.items = c.self.invariant.in_range in
    let pairs : c.extend_from_slice.new.self.items ≡ c.self.inside.pairs.items =
    c.in_ok-extend_from_slice.ensures.items ∙ ap (λ ps. ps ++ c.as_slice.result.now) c.in_ok-pairs.ensures.items ∙ c.as_slice.ensures in
    rw (pairs, c.in_ok-keys.ensures, c.in_ok-values.ensures) in_range

pub returns-clause-keys : goal.returns-clause-keys
returns-clause-keys g c =
    let keys : AreNumbered atom_eq c.self.inside.keys.items = c.self.invariant.keys_numbered in
    rw (c.in_ok-keys.ensures) keys
