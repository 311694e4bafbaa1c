use Rattle.edn_lex.proofs.Digits.{no_plains}
use Rattle.edn_lex.proofs.scan.other_than_plain.Goals as goal

pub returns : goal.returns
returns c = no_plains c.args.bytes c.fits-bytes.0 c.fits-bytes.1
