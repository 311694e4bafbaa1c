use Rattle.hist_types.specs.declared.types.Phenomenon.TheVariants.{G0, G1c, G2Item}
use Rattle.verdict.specs.Board.{IsSettled}
use Rattle.verdict.proofs.Knowing.{four}
use Rattle.verdict.proofs.looks.graph.settle_each.Goals as goal

pub returns-clause-settled : goal.returns-clause-settled
returns-clause-settled c =
    let second = c.in_ok-settle-2.ensures in
    let third = c.in_ok-settle-3.ensures in
    let last = c.in_ok-settle-4.ensures in
    four (λ phenomenon about. IsSettled about) _ (last.still G0 _ (third.still G0 _ (second.still G0 _ c.in_ok-settle.ensures.settles))) (last.still G1c _ (third.still G1c _ second.settles))
    last.settles (last.still G2Item _ third.settles)
