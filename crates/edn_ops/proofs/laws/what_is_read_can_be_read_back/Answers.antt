use Rattle.edn_ops.proofs.ReadsBack.Given.{given_back}
use Rattle.edn_ops.proofs.laws.what_is_read_can_be_read_back.Goals as goal

pub returns : goal.returns
returns c = given_back
