-- The tables are those of the events so far and of as many of the block's, and nothing else has changed.
use Rattle.std.proofs.Common.{◌≡◌, ◌++◌, take}
use Rattle.op_block.specs.Contents.{operations_of}
use Rattle.verdict.specs.Analysed.{AreTablesSoFar, events_of_blocks}
use Rattle.verdict.proofs.analysis.Analysis.extend.Given as goal

abbrev pub invariant-loop-index : goal.invariant-loop-index
invariant-loop-index g l = record {
  tables : AreTablesSoFar (events_of_blocks l.initial.self-inside.blocks.items ++ take l.index (operations_of l.block)) l.self-inside.tables;
  blocks : l.self-inside.blocks.items ≡ l.initial.self-inside.blocks.items;
  keys : l.self-inside.tables.versions.keys ≡ l.initial.self-inside.tables.versions.keys;
}
