use Rattle.std.proofs.lemmas.Result.{on_ok_weaker}
use Rattle.verdict.proofs.board.Board.show.Goals as goal

pub returns-clause-right : goal.returns-clause-right
returns-clause-right c = λ keys ts right shows. c.conclude.ensures.right keys ts (c.note.ensures.right keys ts right shows)

pub returns-clause-settles : goal.returns-clause-settles
returns-clause-settles c = λ below. on_ok_weaker c.conclude.result (λ still. still c.args.phenomenon _ (c.note.ensures.settles below)) c.conclude.ensures.still

pub returns-clause-still : goal.returns-clause-still
returns-clause-still c = on_ok_weaker c.conclude.result (λ still phenomenon top is. still phenomenon top (c.note.ensures.still phenomenon top is)) c.conclude.ensures.still
