use Rattle.reading_laws.proofs.OneCut.{one_row_of_tokens}
use Rattle.edn_lex.proofs.laws.tokens_are_unique.Goals as goal

pub returns : goal.returns
returns c = one_row_of_tokens
