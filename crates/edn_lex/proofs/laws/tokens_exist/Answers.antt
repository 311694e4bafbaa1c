use Rattle.reading_laws.proofs.EachCut.{each_row_of_tokens}
use Rattle.edn_lex.proofs.laws.tokens_exist.Goals as goal

pub returns : goal.returns
returns c = each_row_of_tokens
