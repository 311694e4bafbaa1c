use Rattle.hist_types.proofs.Equality.{atom_eq-decides, value_eq-decides, write_eq-decides, version_eq-decides}
use Rattle.hist_types.proofs.laws.equality_decided.Goals as goal

pub returns : goal.returns
returns c = record {
  atoms = atom_eq-decides;
  values = value_eq-decides;
  writes = write_eq-decides;
  versions = version_eq-decides;
}
