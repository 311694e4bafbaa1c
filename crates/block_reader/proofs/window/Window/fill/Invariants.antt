use Rattle.std.proofs.Common.{◌≡◌}
use Rattle.block_reader.specs.Rounds.{HasReadMore}
use Rattle.block_reader.proofs.window.Window.fill.Given as goal

abbrev pub invariant-loop : goal.invariant-loop
invariant-loop g l =
    HasReadMore g.S.Source l.fn.source l.source l.fn.self.bytes l.self.bytes
    × (g.S.Source.failures l.source ≡ g.S.Source.failures l.fn.source)
