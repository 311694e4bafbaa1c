use Rattle.std.specs.Prelude.{All}
use Rattle.block_reader.specs.Parts.{IsPartOf}
use Rattle.block_reader.proofs.parts.take_parts.Given as goal

abbrev pub invariant-loop : goal.invariant-loop
invariant-loop l = All (IsPartOf l.text l.starts) l.parts.items
