use Rattle.std.proofs.Common.{◌≡◌, drop, false}
use Rattle.std.specs.Option.{is_some}
use Rattle.hist_types.specs.AtomTokens.{decoded}
use Rattle.edn_ops.proofs.atoms.has_known_escapes.Given as goal

abbrev pub invariant-loop-byte : goal.invariant-loop-byte
invariant-loop-byte l = is_some (decoded l.taken (drop l.byte-index l.content)) ≡ is_some (decoded false l.content)
