use Rattle.std.proofs.lemmas.Str.{utf8_valid_len-IsUtf8}
use Rattle.edn_lex.proofs.scan.wide_utf8_end.Goals as goal

pub returns-in-Ok : goal.returns-in-Ok
returns-in-Ok c = utf8_valid_len-IsUtf8 _ c.in-Ok.ensures.cases.1
