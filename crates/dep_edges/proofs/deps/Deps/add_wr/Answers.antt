use Rattle.dep_edges.specs.OutEdges.{node_edge, reader_edges}
use Rattle.hist_types.specs.Edges.{Edge, wr}
use Rattle.key_versions.specs.Histories.{readers_of}
use Rattle.dep_edges.specs.Histories.{History}
use Rattle.dep_edges.specs.Tables.{txn_at, version_at}
use Rattle.std.proofs.Common.{◌≡◌, ℕ, List, ◌∙◌, ap, subst, flat_map, arith}
use Rattle.dep_edges.proofs.Adding.{begins_at_error, begins_same, all_added, next_added, readers_gathered}
use Rattle.dep_edges.proofs.deps.Deps.add_wr.Goals as goal

pub returns-in_err-add_edge-clause-err : goal.returns-in_err-add_edge-clause-err
returns-in_err-add_edge-clause-err c =
    begins_at_error c.from_residual.result c.args.out.now.items c.loop-place.out.items c.add_edge.new.out.items _ c.loop-place.invariant
    (begins_same c.loop-place.out.items c.add_edge.new.out.items c.in_err-add_edge.ensures.err)

told : (c : goal.After-loop-place) → c.readers-place-items.result.now ≡ readers_of c.args.self.now.txns (version_at c.args.self.now.table c.args.number)
told c = subst (λ (h : History). c.readers-place-items.result.now ≡ readers_of h.txns (version_at h.table c.args.number)) c.self.view_is c.readers-place-items.ensures.value

pub returns-clause-ok : goal.returns-clause-ok
returns-clause-ok c =
    let h = c.args.self.now in
    let v = version_at h.table c.args.number in
    let edge : ℕ → List Edge = λ place. node_edge h.txns c.args.from (txn_at h.txns place) (wr v) in
    let rs = c.readers-place-items.result.now in
    all_added edge rs c.loop-place.place-index c.args.out.now.items c.loop-place.out.items (reader_edges h.txns c.args.from v) c.loop-place.invariant c.loop-place-test.false
    (ap (flat_map edge) (told c) ∙ readers_gathered h.txns c.args.from v)

pub loop-place-preserved : goal.loop-place-preserved
loop-place-preserved c =
    let h = c.args.self.now in
    let v = version_at h.table c.args.number in
    let edge : ℕ → List Edge = λ place. node_edge h.txns c.args.from (txn_at h.txns place) (wr v) in
    let rs = c.readers-place-items.result.now in
    let k = c.loop-place.place-index in
    next_added edge rs k 0 c.args.out.now.items c.loop-place.out.items c.add_edge.new.out.items c.loop-place-test.true c.loop-place.invariant (grind arith)
