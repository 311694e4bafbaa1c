use Rattle.verdict.proofs.Knowing.{needs_three}
use Rattle.verdict.proofs.known.Known.raise_needs.Goals as goal

pub returns-then-self-eq0-clause-right : goal.returns-then-self-eq0-clause-right
returns-then-self-eq0-clause-right c = λ keys phenomenon ts is more. needs_three keys phenomenon ts c.args.self.now is c.if-self-eq0.true more
