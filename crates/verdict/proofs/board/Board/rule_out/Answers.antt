use Rattle.std.proofs.Common.{◌+◌, ℕ, sym, subst, arith}
use Rattle.std.proofs.lemmas.Result.{on_ok_weaker}
use Rattle.verdict.specs.Board.{IsNotBelow, IsSettledBelow, known}
use Rattle.verdict.proofs.Knowing.{none_up_to, highest}
use Rattle.verdict.proofs.board.Board.rule_out.Goals as goal

pub returns-clause-right : goal.returns-clause-right
returns-clause-right c = λ keys ts right none.
    let phenomenon = c.args.phenomenon in
    c.conclude.ensures.right keys ts
    (c.raise.ensures.right keys ts right
    (subst (λ (n : ℕ). IsNotBelow (n + 1) keys phenomenon ts) (sym c.height.ensures) (none_up_to keys phenomenon ts c.args.level none)))

pub returns-clause-settles : goal.returns-clause-settles
returns-clause-settles c =
    let at = c.raise.ensures.settles (omega (arith, c.height.ensures, highest c.args.level)) in
    on_ok_weaker c.conclude.result
    (λ still. still c.args.phenomenon _ (subst (λ (n : ℕ). IsSettledBelow (n + 1) (known c.raise.new.self c.args.phenomenon)) c.height.ensures at))
    c.conclude.ensures.still

pub returns-clause-still : goal.returns-clause-still
returns-clause-still c = on_ok_weaker c.conclude.result (λ still phenomenon top is. still phenomenon top (c.raise.ensures.still phenomenon top is)) c.conclude.ensures.still
