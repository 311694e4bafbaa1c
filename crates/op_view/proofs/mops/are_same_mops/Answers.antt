use Rattle.std.proofs.Common.{refl}
use Rattle.op_view.proofs.MopCount.{other_count}
use Rattle.op_view.proofs.mops.are_same_mops.Goals as goal

pub returns-then-mops-other_mops : goal.returns-then-mops-other_mops
returns-then-mops-other_mops c =
    other_count c.args.text.now c.args.other_text.now c.args.mops.now c.args.other_mops.now _ _ refl refl c.if-mops-other_mops.true
