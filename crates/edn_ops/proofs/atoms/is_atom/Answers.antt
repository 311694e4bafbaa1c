use Rattle.edn_ops.proofs.Integers.{short_atom}
use Rattle.edn_ops.proofs.atoms.is_atom.Goals as goal

pub returns-then-bytes-lt-LONG_INTEGER : goal.returns-then-bytes-lt-LONG_INTEGER
returns-then-bytes-lt-LONG_INTEGER c = short_atom c.args.kind c.args.bytes.now c.in-Int.is c.requires c.if-bytes-lt-LONG_INTEGER.true
