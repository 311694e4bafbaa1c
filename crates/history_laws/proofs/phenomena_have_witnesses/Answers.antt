use Rattle.history_laws.proofs.ThinningWitnesses.{has_witness, witness_of_walk}
use Rattle.history_laws.proofs.phenomena_have_witnesses.Goals as goal

pub returns : goal.returns
returns c = record {
  there = has_witness;
  few = witness_of_walk;
}
