use Rattle.edn_lex.proofs.Digits.{no_digits}
use Rattle.edn_lex.proofs.scan.other_than_digits.Goals as goal

pub returns : goal.returns
returns c = no_digits c.args.bytes c.fits-bytes.0 c.fits-bytes.1
