use Rattle.std.proofs.Common.{refl}
use Rattle.dep_edges.proofs.Adding.{begins_at_error}
use Rattle.edge_graph.proofs.Lists.{txn_read}
use Rattle.edge_graph.proofs.OrderOut.{one_more}
use Rattle.edge_graph.proofs.graph.add_order_edges.Goals as goal

pub returns-in_err-add_order_edge-clause-err : goal.returns-in_err-add_order_edge-clause-err
returns-in_err-add_order_edge-clause-err c =
    begins_at_error c.from_residual.result c.args.out.now.items c.loop-place.out.items c.add_order_edge.new.out.items _ c.loop-place.invariant c.in_err-add_order_edge.ensures.err

pub loop-place-preserved : goal.loop-place-preserved
loop-place-preserved c =
    let ts = c.args.txns.now in
    let t = c.index-txns-from.result in
    let u = c.index-txns-place.result in
    one_more ts c.args.level c.args.from c.loop-place.place-index _ c.args.places.now c.args.out.now.items c.loop-place.out.items c.add_order_edge.new.out.items t u
    c.loop-place-test.true refl c.loop-place.invariant (txn_read ts c.args.from t c.requires.from c.index-txns-from.is)
    (txn_read ts _ u (c.requires.places c.loop-place.place-index 0 c.loop-place-test.true) c.index-txns-place.is) c.in_ok-add_order_edge.ensures.ok
