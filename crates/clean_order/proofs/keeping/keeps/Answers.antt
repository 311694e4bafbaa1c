use Rattle.std.proofs.lemmas.Bool.{OnTrue_at, OnTrue_from}
use Rattle.dep_edges.specs.Histories.{History}
use Rattle.clean_order.specs.Listed.{place, KeepsListed}
use Rattle.clean_order.proofs.keeping.keeps.Goals as goal

pub returns-then-keeps_dependencies : goal.returns-then-keeps_dependencies
returns-then-keeps_dependencies c =
    let d : History = c.args.deps.now in
    let starts = c.args.starts.now in
    let commits = c.args.commits.now in
    let ends = c.args.ends.now in
    OnTrue_from c.keeps_order.result (KeepsListed d c.args.kinds starts commits ends) (λ e. record {
      first = λ n. OnTrue_at c.if-not-start_first.false c.start_first.ensures (place n d.txns);
      dependencies = OnTrue_at c.if-keeps_dependencies.true c.keeps_dependencies.ensures ends;
      order = OnTrue_at e c.keeps_order.ensures;
    })
