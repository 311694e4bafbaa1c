use Rattle.std.proofs.Common.{◌∙◌, not, ◌&&◌, ◌==◌, ap, sym}
use Rattle.std.specs.Option.{is_some, is_none}
use Rattle.history_laws.specs.BadReads.{single_if}
use Rattle.hist_types.specs.Transactions.{is_failed}
use Rattle.dep_edges.specs.Tables.{txn_at, version_at}
use Rattle.dep_edges.proofs.Ruled.{and_none}
use Rattle.dep_edges.proofs.Writers.{stray_by_writer}
use Rattle.dep_edges.proofs.possible.Possible.by_reads_of.Goals as goal

pub returns-in-Some : goal.returns-in-Some
returns-in-Some c =
    let h = c.args.history.now in
    let v = version_at h.table c.args.number in
    let w = c.in-Some.writer in
    let t = txn_at h.txns w.txn in
    record {
      aborted = λ no.
          c.in-Some.ensures.aborted
          ∙ ap (λ b. single_if b t) (ap is_failed (sym c.txn.ensures) ∙ sym c.is_failed.ensures ∙ no);
      intermediate = λ no reader.
          c.in-Some.ensures.intermediate reader
          ∙ ap (λ b. single_if (not (t.invocation == reader.invocation) && b) t) no
          ∙ ap (λ b. single_if b t) (and_none (not (t.invocation == reader.invocation)));
      stray = λ _.
          stray_by_writer h.txns v
          ∙ ap (λ o. is_some v.value && is_none o) (sym c.in-Some.ensures.value)
          ∙ and_none (is_some v.value);
    }
