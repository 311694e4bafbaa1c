use Rattle.std.proofs.Common.{◌≡◌, ◌∙◌, ap, sym, get_or}
use Rattle.hist_types.specs.Phenomena.{aborted_writers}
use Rattle.hist_types.specs.Transactions.{Transaction, Version, is_failed}
use Rattle.key_versions.specs.Histories.{read_by}
use Rattle.dep_edges.specs.Tables.{txn_at, version_at}
use Rattle.dep_edges.proofs.Shown.{alone_true, same_read, read_found, no_read_found}
use Rattle.dep_edges.proofs.bad_reads.aborted_read.Goals as goal

pub returns-then-is_failed : goal.returns-then-is_failed
returns-then-is_failed c =
    let h = c.args.history.now in
    let t : Transaction = txn_at h.txns c.args.place in
    let x : Transaction = txn_at h.txns c.in-Some.written.txn in
    let ns = c.reads-number-items.result.now in
    let v : Version = version_at h.table (get_or ns c.loop-number.number-index 0) in
    let reader : c.invocation-reader.result ≡ t.invocation = c.invocation-reader.ensures ∙ ap (λ (u : Transaction). u.invocation) c.txn.ensures in
    let writer : c.invocation.result ≡ x.invocation = c.invocation.ensures ∙ ap (λ (u : Transaction). u.invocation) c.txn-writer.ensures in
    let by = c.in-Some.ensures.aborted ∙ alone_true (is_failed x) x (ap is_failed (sym c.txn-writer.ensures) ∙ sym c.if-is_failed.ensures) in
    read_found (aborted_writers h.txns) t h.table ns (read_by t) c.loop-number.number-index x c.new.result c.reads-number-items.ensures.value c.loop-number-test.true c.loop-number.invariant by
    (c.new.ensures ∙ same_read c.invocation-reader.result c.invocation.result c.version.result v t x reader c.version.ensures writer)

pub returns : goal.returns
returns c =
    let h = c.args.history.now in
    let t : Transaction = txn_at h.txns c.args.place in
    no_read_found (aborted_writers h.txns) t h.table c.reads-number-items.result.now (read_by t) c.loop-number.number-index c.reads-number-items.ensures.value c.loop-number-test.false c.loop-number.invariant
