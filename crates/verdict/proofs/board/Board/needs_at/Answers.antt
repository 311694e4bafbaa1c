use Rattle.std.proofs.Common.{sym, subst}
use Rattle.verdict.specs.Board.{IsKnown}
use Rattle.verdict.specs.declared.known.Known.{Known}
use Rattle.verdict.proofs.board.Board.needs_at.Goals as goal

pub returns : goal.returns
returns c = λ keys ts right.
    c.needs_at.ensures keys c.args.phenomenon ts
    (subst (λ (about : Known). IsKnown keys c.args.phenomenon ts about) (sym c.known.ensures) (right c.args.phenomenon))
