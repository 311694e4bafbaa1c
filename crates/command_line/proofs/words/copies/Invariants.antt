use Rattle.std.proofs.Common.{◌≡◌, map, string_bytes, take}
use Rattle.command_line.proofs.words.copies.Given as goal

abbrev pub invariant-loop-path : goal.invariant-loop-path
invariant-loop-path l = map string_bytes l.copies.items ≡ map (λ path. path.now) (take l.path-index l.paths)
