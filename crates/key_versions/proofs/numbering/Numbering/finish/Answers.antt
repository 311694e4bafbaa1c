use Rattle.hist_types.specs.Atoms.{atom_eq}
use Rattle.atom_index.specs.Numbers.{AreNumbered}
use Rattle.key_versions.specs.Numbering.{AreInRange}
use Rattle.key_versions.proofs.numbering.Numbering.finish.Goals as goal

pub returns-clause-in_range : goal.returns-clause-in_range
returns-clause-in_range g c =
    let in_range : AreInRange c.self.inside.keys.items c.self.inside.values.items c.self.inside.pairs.items = c.self.invariant.in_range in
    rw (c.into_pairs.ensures, c.into_atoms.ensures, c.into_atoms-2.ensures) in_range

pub returns-clause-keys : goal.returns-clause-keys
returns-clause-keys g c =
    let keys : AreNumbered atom_eq c.self.inside.keys.items = c.self.invariant.keys_numbered in
    rw (c.into_atoms.ensures) keys
