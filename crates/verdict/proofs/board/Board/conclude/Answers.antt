use Rattle.std.proofs.Common.{ℕ, sym, subst}
use Rattle.std.proofs.lemmas.Result.{on_ok_weaker}
use Rattle.hist_types.specs.declared.types.Phenomenon.TheVariants.{G0, G1c, GSingle, G2Item}
use Rattle.verdict.specs.Board.{known, IsKnown, IsNotBelow, IsStillSettled}
use Rattle.verdict.proofs.Knowing.{four, no_single}
use Rattle.verdict.proofs.board.Board.conclude.Goals as goal

pub returns-clause-right : goal.returns-clause-right
returns-clause-right c = λ keys ts right.
    let old = c.args.self.now in
    let none = subst (λ (top : ℕ). IsNotBelow top keys GSingle ts) (sym c.none_below-top.ensures) (no_single keys ts old.item (right G2Item)) in
    let single = c.rise_to.ensures.right keys GSingle ts (right GSingle) none in
    on_ok_weaker c.show_single.result
    (λ item. four (λ phenomenon about. IsKnown keys phenomenon ts about) _ (right G0) (right G1c) single item)
    (c.show_single.ensures.right keys ts (right G2Item) single)

pub returns-clause-still : goal.returns-clause-still
returns-clause-still c =
    let old = c.args.self.now in
    on_ok_weaker c.show_single.result
    (λ item. four (λ phenomenon about. IsStillSettled (known old phenomenon) about) _ (λ top s. s) (λ top s. s) c.rise_to.ensures.still item)
    c.show_single.ensures.still
