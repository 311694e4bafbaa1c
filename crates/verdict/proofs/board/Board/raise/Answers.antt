use Rattle.std.proofs.Common.{subst}
use Rattle.hist_types.specs.declared.types.Phenomenon.{Phenomenon}
use Rattle.hist_types.specs.declared.types.Phenomenon.TheVariants.{G0, G1c, GSingle, G2Item}
use Rattle.verdict.specs.Board.{known, IsKnown, IsNotBelow, IsStillSettled}
use Rattle.verdict.proofs.Knowing.{four}
use Rattle.verdict.proofs.board.Board.raise.Goals as goal

pub returns-in-G0-clause-right : goal.returns-in-G0-clause-right
returns-in-G0-clause-right c = λ keys ts right none.
    four (λ phenomenon about. IsKnown keys phenomenon ts about) _ (c.rise_to.ensures.right keys G0 ts (right G0) (subst (λ (p : Phenomenon). IsNotBelow c.args.top keys p ts) c.in-G0.is none)) (right G1c) (right GSingle) (right G2Item)

pub returns-in-G0-clause-still : goal.returns-in-G0-clause-still
returns-in-G0-clause-still c = four (λ phenomenon about. IsStillSettled (known c.args.self.now phenomenon) about) _ c.rise_to.ensures.still (λ top s. s) (λ top s. s) (λ top s. s)

pub returns-in-G1c-clause-right : goal.returns-in-G1c-clause-right
returns-in-G1c-clause-right c = λ keys ts right none.
    four (λ phenomenon about. IsKnown keys phenomenon ts about) _ (right G0) (c.rise_to-in-G1c.ensures.right keys G1c ts (right G1c) (subst (λ (p : Phenomenon). IsNotBelow c.args.top keys p ts) c.in-G1c.is none)) (right GSingle) (right G2Item)

pub returns-in-G1c-clause-still : goal.returns-in-G1c-clause-still
returns-in-G1c-clause-still c = four (λ phenomenon about. IsStillSettled (known c.args.self.now phenomenon) about) _ (λ top s. s) c.rise_to-in-G1c.ensures.still (λ top s. s) (λ top s. s)

pub returns-in-GSingle-clause-right : goal.returns-in-GSingle-clause-right
returns-in-GSingle-clause-right c = λ keys ts right none.
    four (λ phenomenon about. IsKnown keys phenomenon ts about) _ (right G0) (right G1c) (c.rise_to-in-GSingle.ensures.right keys GSingle ts (right GSingle) (subst (λ (p : Phenomenon). IsNotBelow c.args.top keys p ts) c.in-GSingle.is none)) (right G2Item)

pub returns-in-GSingle-clause-still : goal.returns-in-GSingle-clause-still
returns-in-GSingle-clause-still c = four (λ phenomenon about. IsStillSettled (known c.args.self.now phenomenon) about) _ (λ top s. s) (λ top s. s) c.rise_to-in-GSingle.ensures.still (λ top s. s)

pub returns-in-G2Item-clause-right : goal.returns-in-G2Item-clause-right
returns-in-G2Item-clause-right c = λ keys ts right none.
    four (λ phenomenon about. IsKnown keys phenomenon ts about) _ (right G0) (right G1c) (right GSingle) (c.rise_to-in-G2Item.ensures.right keys G2Item ts (right G2Item) (subst (λ (p : Phenomenon). IsNotBelow c.args.top keys p ts) c.in-G2Item.is none))

pub returns-in-G2Item-clause-still : goal.returns-in-G2Item-clause-still
returns-in-G2Item-clause-still c = four (λ phenomenon about. IsStillSettled (known c.args.self.now phenomenon) about) _ (λ top s. s) (λ top s. s) (λ top s. s) c.rise_to-in-G2Item.ensures.still
