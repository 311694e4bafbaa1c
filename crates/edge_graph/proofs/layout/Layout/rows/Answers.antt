use Rattle.std.proofs.Common.{◌≡◌, ◌∙◌, ◌+◌, ◌++◌, ◌∷◌, [], ℕ, List, length, arith, ap, sym, subst}
use Rattle.edge_graph.specs.FlatRows.{rows_in}
use Rattle.edge_graph.specs.LaidOut.{AreRows}
use Rattle.edge_graph.proofs.Parts.{start, with_ends}
use Rattle.edge_graph.proofs.RowSteps.{AreFirstTxnRows, AreFirstRows, no_txn, next_txn, no_version, next_version, are_rows}
use Rattle.edge_graph.proofs.layout.Layout.rows.Goals as goal

pub loop-place-init : goal.loop-place-init
loop-place-init c =
    let ts = c.args.self.now.history.now.txns in
    let table = c.args.self.now.history.now.table in
    let items = c.in_ok-items.items.items in
    let one = c.in_ok-push.ensures.items ∙ ap (λ (xs : List ℕ). xs ++ start) c.in_ok-bounds.ensures.items in
    subst (λ bounds. AreFirstTxnRows ts table 0 bounds items) (sym one)
    (subst (AreFirstTxnRows ts table 0 start) (sym c.in_ok-items.ensures.items) (no_txn ts table))

pub loop-place-preserved : goal.loop-place-preserved
loop-place-preserved c =
    let ts = c.args.self.now.history.now.txns in
    let table = c.args.self.now.history.now.table in
    let bounds = c.loop-place.bounds.items in
    let items = c.loop-place.items.items in
    let new = c.push_txn.new.items.items in
    let ends = c.in_ok-ends.ends in
    let (row, is, behind) = c.in_ok-ends.ensures in
    let more : c.push-in-loop-place-3.new.self.items ≡ with_ends bounds ends =
    c.in_ok-push-4.ensures.items
    ∙ ap (λ (xs : List ℕ). xs ++ ends.ww ∷ []) (c.in_ok-push-3.ensures.items ∙ ap (λ (xs : List ℕ). xs ++ ends.wr ∷ []) c.in_ok-push-2.ensures.items) in
    subst (λ bs. AreFirstTxnRows ts table (c.loop-place.place + 1) bs new) (sym more) (next_txn ts table c.loop-place.place bounds items new ends row c.loop-place.invariant is behind)

pub loop-version-init : goal.loop-version-init
loop-version-init c =
    let ts = c.args.self.now.history.now.txns in
    let table = c.args.self.now.history.now.table in
    let bounds = c.loop-place.bounds.items in
    let items = c.loop-place.items.items in
    let all : c.loop-place.place ≡ length ts = omega (arith, c.loop-place-test.false, c.loop-place.auto.place-end, ap length c.txns-txns.ensures.value) in
    no_version ts table bounds items (subst (λ n. AreFirstTxnRows ts table n bounds items) all c.loop-place.invariant)

pub loop-version-preserved : goal.loop-version-preserved
loop-version-preserved c =
    let ts = c.args.self.now.history.now.txns in
    let table = c.args.self.now.history.now.table in
    let bounds = c.loop-version.bounds.items in
    let items = c.loop-version.items.items in
    let new = c.push_nodes_behind.new.out.items in
    let end = c.in_ok-number.field-0 in
    let end_is : end ≡ length new = omega (arith, c.in_ok-number.ensures, c.len.ensures, c.push_nodes_behind.new.out.ok.0) in
    subst (λ bs. AreFirstRows ts table (c.loop-version.version + 1) bs new) (sym c.in_ok-push-5.ensures.items)
    (next_version ts table c.loop-version.version bounds items new end c.loop-version.invariant c.in_ok-push_nodes_behind.ensures end_is)

pub returns : goal.returns
returns c =
    let ts = c.args.self.now.history.now.txns in
    let table = c.args.self.now.history.now.table in
    let bounds = c.loop-version.bounds.items in
    let items = c.loop-version.items.items in
    let all : c.loop-version.version ≡ length table.versions = omega (arith, c.loop-version-test.false, c.loop-version.auto.version-end, c.versions-versions.ensures.value) in
    let is =
    c.new.ensures ∙ ap (λ n. rows_in n c.versions-versions.result bounds items) (ap length c.txns-txns.ensures.value)
    ∙ ap (λ m. rows_in (length ts) m bounds items) c.versions-versions.ensures.value in
    subst (AreRows ts table) (sym is) (are_rows ts table bounds items (subst (λ n. AreFirstRows ts table n bounds items) all c.loop-version.invariant))
