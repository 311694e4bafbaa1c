use Rattle.std.proofs.Common.{◌≡◌, ℕ, List}
use Rattle.std.specs.Io.KnownBytes.{Consumes}
use Rattle.block_reader.proofs.window.Window.read_out.Given as goal

abbrev pub invariant-loop : goal.invariant-loop
invariant-loop g l =
    ((more : List ℕ) × Consumes (g.S.Source.remaining l.fn.source) (g.S.Source.remaining l.source) more)
    × (g.S.Source.failures l.source ≡ g.S.Source.failures l.fn.source)
