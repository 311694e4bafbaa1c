use Rattle.std.proofs.Common.{◌≡◌, ◌-◌, length, get_or}
use Rattle.block_reader.specs.Parts.{AreStarts}
use Rattle.block_reader.proofs.starts.starts_of.Given as goal

abbrev pub invariant-loop-part : goal.invariant-loop-part
invariant-loop-part l = AreStarts l.text l.starts.items × (l.last ≡ get_or l.starts.items (length l.starts.items - 1) 0)
