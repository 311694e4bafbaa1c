use Rattle.std.proofs.Common.{Some}
use Rattle.edn_ops.proofs.write.write_atom.Goals as goal

pub append_value-written-requires : goal.append_value-written-requires
append_value-written-requires c = (Some c.requires.0, c.requires.1)

pub returns-else-is_err-clause-ok : goal.returns-else-is_err-clause-ok
returns-else-is_err-clause-ok c atom h = c.append_value-written.ensures.ok (Some atom) h
