use Rattle.std.proofs.Common.{◌≡◌, map, subst, flat_map, ◌++◌, ◌∙◌, ap, get_or, append_assoc}
use Rattle.hist_types.specs.Transactions.{installed_by}
use Rattle.dep_edges.specs.Added.{wr_edges, ww_edges}
use Rattle.dep_edges.specs.Histories.{History}
use Rattle.dep_edges.specs.OutEdges.{written_edges}
use Rattle.dep_edges.specs.Tables.{txn_at, version_at}
use Rattle.dep_edges.proofs.Adding.{begins_at_error, begins_behind, all_added, next_added, by_numbers}
use Rattle.dep_edges.proofs.deps.Deps.add_out_of_installs.Goals as goal

pub returns-in_err-add_ww-clause-err : goal.returns-in_err-add_ww-clause-err
returns-in_err-add_ww-clause-err c =
    begins_at_error c.from_residual-in_err-add_ww.result c.args.out.now.items c.loop-number.out.items c.add_ww.new.out.items _ c.loop-number.invariant
    (begins_behind c.loop-number.out.items c.add_wr.new.out.items c.add_ww.new.out.items _ c.in_ok-add_wr.ensures.ok c.in_err-add_ww.ensures.err)

told : (c : goal.After-loop-number) → map (version_at c.args.self.now.table) c.installs-number-items.result.now ≡ installed_by (txn_at c.args.self.now.txns c.args.place)
told c = subst (λ (h : History). map (version_at h.table) c.installs-number-items.result.now ≡ installed_by (txn_at h.txns c.args.place)) c.self.view_is c.installs-number-items.ensures.value

pub returns-clause-ok : goal.returns-clause-ok
returns-clause-ok c =
    let h = c.args.self.now in
    let edges = written_edges h.table.keys h.txns c.args.from in
    let ns = c.installs-number-items.result.now in
    let vs = installed_by (txn_at h.txns c.args.place) in
    all_added (λ n. edges (version_at h.table n)) ns c.loop-number.number-index c.args.out.now.items c.loop-number.out.items (flat_map edges vs) c.loop-number.invariant c.loop-number-test.false
    (by_numbers edges h.table ns vs (told c))

pub loop-number-preserved : goal.loop-number-preserved
loop-number-preserved c =
    let h = c.args.self.now in
    let ns = c.installs-number-items.result.now in
    let k = c.loop-number.number-index in
    let n = get_or ns k 0 in
    let out = c.loop-number.out.items in
    next_added (λ n. written_edges h.table.keys h.txns c.args.from (version_at h.table n)) ns k 0 c.args.out.now.items out c.add_ww.new.out.items c.loop-number-test.true c.loop-number.invariant
    (c.in_ok-add_ww.ensures.ok
    ∙ ap (λ es. es ++ ww_edges h c.args.from n) c.in_ok-add_wr.ensures.ok
    ∙ append_assoc out (wr_edges h c.args.from n) (ww_edges h c.args.from n))
