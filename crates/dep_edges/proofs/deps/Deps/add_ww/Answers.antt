use Rattle.std.proofs.Common.{◌≡◌, map, subst, arith}
use Rattle.hist_types.specs.Edges.{ww}
use Rattle.key_versions.specs.declared.types.Follower.{Follower}
use Rattle.key_versions.specs.Histories.{followers_of}
use Rattle.dep_edges.specs.Histories.{History}
use Rattle.dep_edges.specs.OutEdges.{node_edge, later_edges}
use Rattle.dep_edges.specs.Tables.{txn_at, version_at, later_in}
use Rattle.dep_edges.proofs.Adding.{begins_at_error, begins_same, all_added, next_added, followers_gathered}
use Rattle.dep_edges.proofs.deps.Deps.add_ww.Goals as goal

pub returns-in_err-add_edge-clause-err : goal.returns-in_err-add_edge-clause-err
returns-in_err-add_edge-clause-err c =
    begins_at_error c.from_residual.result c.args.out.now.items c.loop-follower.out.items c.add_edge.new.out.items _ c.loop-follower.invariant
    (begins_same c.loop-follower.out.items c.add_edge.new.out.items c.in_err-add_edge.ensures.err)

told : (c : goal.After-loop-follower) → map (later_in c.args.self.now.table) c.followers-follower-items.result.now ≡ followers_of c.args.self.now.table.keys c.args.self.now.txns (version_at c.args.self.now.table c.args.number)
told c = subst (λ (h : History). map (later_in h.table) c.followers-follower-items.result.now ≡ followers_of h.table.keys h.txns (version_at h.table c.args.number)) c.self.view_is c.followers-follower-items.ensures.value

pub returns-clause-ok : goal.returns-clause-ok
returns-clause-ok c =
    let h = c.args.self.now in
    let v = version_at h.table c.args.number in
    let fs = c.followers-follower-items.result.now in
    all_added (λ (f : Follower). node_edge h.txns c.args.from (txn_at h.txns f.txn) (ww v (version_at h.table f.version)))
    fs c.loop-follower.follower-index c.args.out.now.items c.loop-follower.out.items (later_edges h.table.keys h.txns c.args.from (ww v) v) c.loop-follower.invariant c.loop-follower-test.false
    (followers_gathered h.table.keys h.txns h.table c.args.from (ww v) v fs (told c))

pub loop-follower-preserved : goal.loop-follower-preserved
loop-follower-preserved c =
    let h = c.args.self.now in
    let v = version_at h.table c.args.number in
    let fs = c.followers-follower-items.result.now in
    let k = c.loop-follower.follower-index in
    let none : Follower = record { txn = 0; version = 0 } in
    next_added (λ (f : Follower). node_edge h.txns c.args.from (txn_at h.txns f.txn) (ww v (version_at h.table f.version)))
    fs k none c.args.out.now.items c.loop-follower.out.items c.add_edge.new.out.items c.loop-follower-test.true c.loop-follower.invariant (grind arith)
