use Rattle.std.proofs.Common.{rules}
use Rattle.std.proofs.lemmas.Str.{utf8_valid_len-IsUtf8, IsUtf8-from_ascii}
use Rattle.edn_lex.proofs.scan.utf8_end.Goals as goal

pub returns-then-ascii : goal.returns-then-ascii
returns-then-ascii c = utf8_valid_len-IsUtf8 _ (IsUtf8-from_ascii _ (c.requires (search rules)))
