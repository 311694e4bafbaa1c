use Rattle.std.proofs.Common.{◌≡◌, ◌∙◌, ap, sym, not, ◌&&◌, ◌==◌, get_or}
use Rattle.std.proofs.lemmas.Bool.{and_from}
use Rattle.hist_types.specs.Phenomena.{intermediate_writers}
use Rattle.hist_types.specs.Transactions.{Transaction, Version}
use Rattle.history_laws.proofs.Processes.{told_apart}
use Rattle.key_versions.specs.Histories.{read_by}
use Rattle.dep_edges.specs.Tables.{txn_at, version_at}
use Rattle.dep_edges.proofs.Shown.{alone_true, same_read, read_found, no_read_found}
use Rattle.dep_edges.proofs.bad_reads.intermediate_read.Goals as goal

pub returns-then-writer-reader : goal.returns-then-writer-reader
returns-then-writer-reader c =
    let h = c.args.history.now in
    let t : Transaction = txn_at h.txns c.args.place in
    let x : Transaction = txn_at h.txns c.in-Some.written.txn in
    let ns = c.reads-number-items.result.now in
    let v : Version = version_at h.table (get_or ns c.loop-number.number-index 0) in
    let reader : c.invocation-reader.result ≡ t.invocation = c.invocation-reader.ensures ∙ ap (λ (u : Transaction). u.invocation) c.txn.ensures in
    let writer : c.invocation-writer.result ≡ x.invocation = c.invocation-writer.ensures ∙ ap (λ (u : Transaction). u.invocation) c.txn-in-Some.ensures in
    let other : ¬ (x.invocation ≡ t.invocation) = λ same. c.if-writer-reader.true (writer ∙ same ∙ sym reader) in
    let by = c.in-Some.ensures.intermediate t ∙ alone_true (not (x.invocation == t.invocation) && c.in-Some.written.over) x
    (and_from (not (x.invocation == t.invocation)) c.in-Some.written.over (ap not (told_apart x.invocation t.invocation other)) c.if-written.true) in
    read_found (intermediate_writers h.txns t) t h.table ns (read_by t) c.loop-number.number-index x c.new.result c.reads-number-items.ensures.value c.loop-number-test.true c.loop-number.invariant by
    (c.new.ensures ∙ same_read c.invocation-reader.result c.invocation-writer.result c.version.result v t x reader c.version.ensures writer)

pub returns : goal.returns
returns c =
    let h = c.args.history.now in
    let t : Transaction = txn_at h.txns c.args.place in
    no_read_found (intermediate_writers h.txns t) t h.table c.reads-number-items.result.now (read_by t) c.loop-number.number-index c.reads-number-items.ensures.value c.loop-number-test.false c.loop-number.invariant
