use Rattle.std.proofs.Common.{◌∙◌, ◌++◌, ℕ, List, ap, map, filter}
use Rattle.std.proofs.lemmas.List.{take_all}
use Rattle.hist_types.specs.Transactions.{is_node}
use Rattle.key_versions.specs.declared.types.Follower.{Follower}
use Rattle.dep_edges.specs.Tables.{txn_at}
use Rattle.edge_graph.proofs.Lists.{place_in, places_later}
use Rattle.edge_graph.proofs.layout.Layout.push_nodes_behind.Goals as goal

pub returns : goal.returns
returns c =
    let ts = c.args.self.now.history.now.txns in
    let table = c.args.self.now.history.now.table in
    let fs = c.followers-follower-items.result.now in
    let kept = λ (places : List ℕ). c.args.out.now.items ++ filter (λ place. is_node ts (txn_at ts place)) places in
    c.loop-follower.invariant
    ∙ ap (λ (xs : List Follower). kept (map (λ (f : Follower). f.txn) xs)) (take_all c.loop-follower.follower-index fs c.loop-follower-test.false)
    ∙ ap kept (places_later table fs ∙ ap (map place_in) c.followers-follower-items.ensures.value)
