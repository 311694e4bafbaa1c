use Rattle.verdict.proofs.Knowing.{nothing_known}
use Rattle.verdict.proofs.known.Known.nothing.Goals as goal

pub returns : goal.returns
returns c = nothing_known
