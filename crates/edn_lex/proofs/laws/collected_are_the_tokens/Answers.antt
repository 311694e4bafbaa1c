use Rattle.edn_lex.specs.State.{state_at_start}
use Rattle.edn_lex.proofs.Steps.{Rest-yielded}
use Rattle.edn_lex.proofs.laws.collected_are_the_tokens.Goals as goal

pub returns : goal.returns
returns c = λ text given calls. Rest-yielded given (state_at_start text) calls.1.0 calls.0 calls.1.1 calls.1.2
