use Rattle.std.proofs.Common.{◌∙◌, ◌++◌}
use Rattle.std.proofs.KnownBytes.{Consumes-trans}
use Rattle.block_reader.proofs.window.Window.read_out.Goals as goal

pub loop-preserved : goal.loop-preserved
loop-preserved g c =
    let before = c.loop.invariant.0 in
    let (more, count, behind, given) = c.in_ok-read_more.ensures.given in
    ((before.0 ++ more, Consumes-trans _ _ _ _ _ before.1 given), c.in_ok-read_more.ensures.no_failure ∙ c.loop.invariant.1)
