use Rattle.std.proofs.lemmas.Bool.{OnTrue_at}
use Rattle.std.proofs.lemmas.Result.{on_ok_weaker}
use Rattle.hist_types.specs.declared.types.Level.TheVariants.{Realtime}
use Rattle.verdict.proofs.Searching.{absent}
use Rattle.verdict.proofs.looks.graph.settle.Goals as goal

pub returns-then-rules_out-clause-right : goal.returns-then-rules_out-clause-right
returns-then-rules_out-clause-right c =
    let g = c.args.graph.now in
    c.rule_out.ensures.right g.keys g.txns c.requires.right
    (absent g c.args.phenomenon Realtime c.requires.thinned
    (OnTrue_at c.if-rules_out.true c.rules_out.ensures))

pub returns-clause-still : goal.returns-clause-still
returns-clause-still c =
    on_ok_weaker c.settle_at-3.result
    (λ still phenomenon top is.
    still phenomenon top
    (c.in_ok-settle_at-2.ensures.still phenomenon top
    (c.in_ok-settle_at.ensures.still phenomenon top is)))
    c.settle_at-3.ensures.still
