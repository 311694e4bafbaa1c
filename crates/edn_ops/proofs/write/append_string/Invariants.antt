use Rattle.std.proofs.Common.{◌≡◌, ◌++◌, flat_map, take}
use Rattle.edn_ops.specs.SourceTexts.{source_byte_text}
use Rattle.edn_ops.proofs.write.append_string.Given as goal

abbrev pub invariant-loop-byte : goal.invariant-loop-byte
invariant-loop-byte l = l.out.items ≡ l.fn.out.items ++ flat_map source_byte_text (take l.byte-index l.text)
