use Rattle.std.proofs.Common.{◌≡◌, ◌∙◌, ℕ, ap, replicate}
use Rattle.std.proofs.lemmas.Result.{IfOk-weaker}
use Rattle.edge_graph.specs.Runs.{empty_run}
use Rattle.edge_graph.specs.declared.runs.Run.{Run}
use Rattle.edge_graph.proofs.orders.empty_lists.Goals as goal

pub returns : goal.returns
returns c =
    let run : ℕ → ℕ → Run = λ start end. record { start = start; end = end } in
    let default : c.default.result ≡ empty_run = ap (λ start. run start c.default.result.end) c.default.ensures.0 ∙ ap (run 0) c.default.ensures.1 in
    IfOk-weaker c.vec.result _ _ (λ runs is. is (λ run same. same) ∙ ap (replicate c.args.count) default) c.vec.ensures.items_if_clones_equal
