use Rattle.std.proofs.Common.{◌≡◌, ◌∙◌, length, true, sym, ap, subst, arith}
use Rattle.hist_types.specs.Edges.{process, edge}
use Rattle.hist_types.specs.ThinnedOrder.{is_ordered}
use Rattle.hist_types.specs.Transactions.{Transaction}
use Rattle.hist_types.specs.declared.types.Level.TheVariants.{Process}
use Rattle.dep_edges.specs.Histories.{History}
use Rattle.dep_edges.specs.Tables.{IsPlace, txn_at}
use Rattle.cycle_find.specs.Single.{IsProcessEdgeBetween}
use Rattle.cycle_find.proofs.ThereAndBack.{ordered, same_edge}
use Rattle.cycle_find.proofs.single.process_edge.Goals as goal

pub returns-then-is_node : goal.returns-then-is_node
returns-then-is_node c =
    let h = c.args.deps.now in
    let ts = h.txns in
    let from = c.args.from in
    let to = c.args.to in
    let history = c.history-history.ensures.history in
    let count = ap length (c.txns-count.ensures.value ∙ ap (λ (h : History). h.txns) history) in
    let first : IsPlace ts from = omega (arith, count) in
    let last : IsPlace ts to = omega (arith, count) in
    let t : c.txn-first.result.now ≡ txn_at ts from = c.txn-first.ensures ∙ ap (λ (h : History). txn_at h.txns from) history in
    let u : c.txn-second.result.now ≡ txn_at ts to = c.txn-second.ensures ∙ ap (λ (h : History). txn_at h.txns to) history in
    let before : is_ordered Process (txn_at ts from) (txn_at ts to) ≡ true =
    ap (λ (t : Transaction). is_ordered Process t (txn_at ts to)) (sym t) ∙ ap (λ (u : Transaction). is_ordered Process c.txn-first.result.now u) (sym u)
    ∙ sym c.is_before.ensures ∙ c.if-is_before.true in
    let node = sym c.is_node.ensures ∙ c.if-is_node.true in
    let begins = c.invocation.ensures ∙ ap (λ (t : Transaction). t.invocation) t in
    let ends = c.invocation-then-is_node.ensures ∙ ap (λ (t : Transaction). t.invocation) u in
    let number = c.process.ensures ∙ ap (λ (t : Transaction). t.process) t in
    let is : c.new.result ≡ edge (txn_at ts from) (txn_at ts to) (process (txn_at ts from).process) =
    c.new.ensures ∙ same_edge (txn_at ts from) (txn_at ts to) _ _ _ begins ends number in
    subst (IsProcessEdgeBetween ts from to) (sym is) (ordered h c.history-history.ensures.kept from to first last before node)
