use Rattle.verdict.proofs.Knowing.{risen}
use Rattle.verdict.proofs.known.Known.rise_to.Goals as goal

pub returns-clause-right : goal.returns-clause-right
returns-clause-right c = λ keys phenomenon ts is none. risen keys phenomenon ts c.args.self.now c.args.top is none
