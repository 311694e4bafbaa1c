use Rattle.hist_types.specs.declared.types.Phenomenon.TheVariants.{G0, G1c, GSingle, G2Item}
use Rattle.verdict.specs.Board.{IsKnown}
use Rattle.verdict.proofs.Knowing.{four}
use Rattle.verdict.proofs.board.Board.new.Goals as goal

pub returns : goal.returns
returns c = λ keys ts.
    four (λ phenomenon about. IsKnown keys phenomenon ts about) _ (c.nothing.ensures keys G0 ts) (c.nothing-2.ensures keys G1c ts) (c.nothing-3.ensures keys GSingle ts) (c.nothing-4.ensures keys G2Item ts)
