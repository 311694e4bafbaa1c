use Rattle.std.specs.Prelude.{All}
use Rattle.block_reader.specs.Parts.{IsPartOf}
use Rattle.block_reader.proofs.round.take_parts_by.Given as goal

abbrev pub invariant-loop-list : goal.invariant-loop-list
invariant-loop-list g l = All (IsPartOf l.text l.starts) l.parts.items
