use Rattle.edn_ops.proofs.ReadsBack.Lines.{atom_reads}
use Rattle.edn_ops.proofs.laws.atoms_read_back.Goals as goal

pub returns : goal.returns
returns c = atom_reads
